-- What words mean as a call and as an answer.
-- Assumes nothing.
use Rattle.std.specs.Prelude.{◌≡◌, ℕ, Bool, cond, not, ◌||◌, ◌==◌, nat_lt}
use Rattle.heal.specs.declared.Call.{Call}
use Rattle.heal.specs.declared.Call.TheVariants.{Spawn, Exit, Wait, Kill, Open, Close, Read, Write, Remove, Take, Leave, Say, Hear}
use Rattle.heal.specs.declared.Answer.{Answer}
use Rattle.heal.specs.declared.Answer.TheVariants.{Done, No, Pid, Ended, Handle, Word}
use Rattle.heal.specs.declared.codec.CallKind.{CallKind}
use Rattle.heal.specs.declared.codec.CallKind.TheVariants as kind
use Rattle.heal.specs.declared.codec.AnswerKind.{AnswerKind}
use Rattle.heal.specs.declared.codec.AnswerKind.TheVariants as answer

-- what doesn't fit 32 bits is 0
abbrev pub clamped : ℕ → ℕ
clamped x = cond (nat_lt x 4294967296) x 0

unfoldable pub call_of : (kind a b x : ℕ) → Call
call_of k a b x =
    cond (k == 1) (Spawn (clamped a)) (cond (k == 2) (Exit (clamped a)) (cond (k == 3) Wait (cond (k == 4) (Kill (clamped a)) (cond (k == 5) (Open (clamped a) (not (b == 0))) (cond (k == 6) (Close (clamped a))
    (cond (k == 7) (Read (clamped a) (clamped b)) (cond (k == 8) (Write (clamped a) (clamped b) x) (cond (k == 9) (Remove (clamped a)) (cond (k == 10) Take (cond (k == 11) Leave (cond (k == 12) (Say x) Hear)))))))))))

-- the number that stands for a kind of calls
abbrev pub number_of : CallKind → ℕ
number_of kind.Spawn = 1
number_of kind.Exit = 2
number_of kind.Wait = 3
number_of kind.Kill = 4
number_of kind.Open = 5
number_of kind.Close = 6
number_of kind.Read = 7
number_of kind.Write = 8
number_of kind.Remove = 9
number_of kind.Take = 10
number_of kind.Leave = 11
number_of kind.Say = 12
number_of kind.Hear = 13

-- words with the number n mean a call of this kind
abbrev pub MeansCall : ℕ → CallKind → Type 0
MeansCall n k = (a b x : ℕ) → call_of n a b x ≡ call_of (number_of k) a b x

-- which kinds of calls have the words b and x
abbrev pub has_b : ℕ → Bool
has_b k = k == 5 || (k == 7 || k == 8)

abbrev pub has_x : ℕ → Bool
has_x k = k == 8 || k == 12

unfoldable pub answer_of : (kind a x : ℕ) → Answer
answer_of k a x = cond (k == 1) (No (clamped a)) (cond (k == 2) (Pid (clamped a)) (cond (k == 3) (Ended (clamped a) (clamped x)) (cond (k == 4) (Handle (clamped a)) (cond (k == 5) (Word x) Done))))

-- the number that stands for a kind of answers
abbrev pub answer_number_of : AnswerKind → ℕ
answer_number_of answer.Done = 0
answer_number_of answer.No = 1
answer_number_of answer.Pid = 2
answer_number_of answer.Ended = 3
answer_number_of answer.Handle = 4
answer_number_of answer.Word = 5

-- words with the number n mean an answer of this kind
abbrev pub MeansAnswer : ℕ → AnswerKind → Type 0
MeansAnswer n k = (a x : ℕ) → answer_of n a x ≡ answer_of (answer_number_of k) a x

-- which kinds of answers have the words a and x
abbrev pub answer_has_a : ℕ → Bool
answer_has_a k = not (k == 0 || k == 5)

abbrev pub answer_has_x : ℕ → Bool
answer_has_x k = k == 3 || k == 5
