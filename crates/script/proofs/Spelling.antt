-- Lines, spelt word by word. Assumes nothing.
use Rattle.std.proofs.Common.{◌≡◌, ℕ, true, false, List, [], ◌∷◌, ◌++◌, length, take, drop, get_or, ◌+◌, ◌<◌, ◌≤◌, take-append-drop, arith, codes, decimal, sym, refl, ap, ◌∙◌, append_assoc, append-nil}
use Rattle.std.proofs.lemmas.List.{take_more, drop_all}
use Rattle.heal.specs.declared.Call.{Call}
use Rattle.heal.specs.declared.Call.TheVariants as call
use Rattle.heal.specs.declared.Answer.{Answer}
use Rattle.heal.specs.declared.Answer.TheVariants as answer
use Rattle.script.specs.declared.Line.{Line}
use Rattle.script.specs.declared.Line.TheVariants as line
use Rattle.script.specs.declared.Report.{Report}
use Rattle.script.specs.declared.Report.TheVariants as report
use Rattle.script.specs.declared.words.Token.{Token}
use Rattle.script.specs.Text.{call_text, text_of, answer_text, report_text}
use Rattle.script.specs.Words.{spelt, spell, call_words, line_words, answer_words, report_words}

-- the words after the first, each with a blank in front
abbrev pub after : List Token → List ℕ
after [] = []
after (t ∷ ts) = 32 ∷ (spelt t ++ after ts)

pub spell_after : (t : Token) (ts : List Token) → spell (t ∷ ts) ≡ spelt t ++ after ts
unfolding spell
spell_after t [] = sym (append-nil (spelt t))
spell_after t (u ∷ us) = ap (λ l. spelt t ++ 32 ∷ l) (spell_after u us)

pub after_append : (ts us : List Token) → after (ts ++ us) ≡ after ts ++ after us
after_append [] us = refl
after_append (t ∷ ts) us = ap (λ l. 32 ∷ (spelt t ++ l)) (after_append ts us) ∙ ap (λ l. 32 ∷ l) (sym (append_assoc (spelt t) (after ts) (after us)))

-- the first word and i more
abbrev pub first_words : List Token → ℕ → List ℕ
first_words [] i = []
first_words (t ∷ ts) i = spelt t ++ after (take i ts)

module _ (words : List Token) (t : Token) (ts : List Token) (e : words ≡ t ∷ ts) (i : ℕ) where
  pub one_more_word : (d : Token) → i < length ts → first_words words (i + 1) ≡ first_words words i ++ 32 ∷ spelt (get_or ts i d)
  one_more_word d l =
      ap (λ ws. first_words ws (i + 1)) e ∙ ap (λ us. spelt t ++ after us) (take_more ts i d l) ∙ ap (λ l. spelt t ++ l) (after_append (take i ts) (get_or ts i d ∷ []))
      ∙ ap (λ l. spelt t ++ (after (take i ts) ++ 32 ∷ l)) (append-nil (spelt (get_or ts i d))) ∙ sym (append_assoc (spelt t) (after (take i ts)) (32 ∷ spelt (get_or ts i d)))
      ∙ ap (λ ws. first_words ws i ++ 32 ∷ spelt (get_or ts i d)) (sym e)

  pub words_then : first_words words i ++ after (drop i ts) ≡ spell words
  words_then =
      ap (λ ws. first_words ws i ++ after (drop i ts)) e ∙ append_assoc (spelt t) (after (take i ts)) (after (drop i ts))
      ∙ ap (λ l. spelt t ++ l) (sym (after_append (take i ts) (drop i ts)) ∙ ap after (take-append-drop i ts)) ∙ sym (spell_after t ts) ∙ ap spell (sym e)

  pub words_whole : length ts ≤ i → first_words words i ≡ spell words
  words_whole l = sym (append-nil (first_words words i)) ∙ ap (λ us. first_words words i ++ after us) (sym (drop_all i ts l)) ∙ words_then

-- one number, and two, with a blank between them
one : (n : ℕ) → decimal n ++ [] ≡ decimal n
one n = append-nil (decimal n)

two : (m n : ℕ) → decimal m ++ 32 ∷ (decimal n ++ []) ≡ (decimal m ++ codes " ") ++ decimal n
two m n = ap (λ l. decimal m ++ 32 ∷ l) (one n) ∙ sym (append_assoc (decimal m) (codes " ") (decimal n))

then : (n : ℕ) (xs : List ℕ) → decimal n ++ 32 ∷ xs ≡ (decimal n ++ codes " ") ++ xs
then n xs = sym (append_assoc (decimal n) (codes " ") xs)

call_after : (c : Call) → after (call_words c) ≡ 32 ∷ call_text c
unfolding call_text
call_after (call.Spawn n) = ap (λ l. codes " spawn " ++ l) (one n)
call_after (call.Exit n) = ap (λ l. codes " exit " ++ l) (one n)
call_after call.Wait = refl
call_after (call.Kill n) = ap (λ l. codes " kill " ++ l) (one n)
call_after (call.Open n true) = refl
call_after (call.Open n false) = refl
call_after (call.Close n) = ap (λ l. codes " close " ++ l) (one n)
call_after (call.Read h n) = ap (λ l. codes " read " ++ l) (two h n)
call_after (call.Write h n x) =
    ap (λ l. codes " write " ++ l) (ap (λ l. decimal h ++ 32 ∷ l) (two n x) ∙ then h ((decimal n ++ codes " ") ++ decimal x) ∙ sym (append_assoc (decimal h ++ codes " ") (decimal n ++ codes " ") (decimal x)) ∙ ap (λ l. l ++ decimal x) (sym (append_assoc (decimal h ++ codes " ") (decimal n) (codes " "))))
call_after (call.Remove n) = ap (λ l. codes " remove " ++ l) (one n)
call_after call.Take = refl
call_after call.Leave = refl
call_after (call.Say x) = ap (λ l. codes " say " ++ l) (one x)
call_after call.Hear = refl

line_after : (l : Line) → after (line_words l) ≡ 32 ∷ text_of l
unfolding text_of
line_after (line.Ask p c) = ap (λ l. 32 ∷ (decimal p ++ l)) (call_after c) ∙ ap (λ l. 32 ∷ l) (then p (call_text c))
line_after (line.Key n) = ap (λ l. codes " key " ++ l) (one n)
line_after (line.Rounds n) = ap (λ l. codes " round " ++ l) (one n)
line_after line.On = refl
line_after (line.Fall s n true) = ap (λ l. codes " fall " ++ l) (then s (decimal n ++ codes " after") ∙ sym (append_assoc (decimal s ++ codes " ") (decimal n) (codes " after")))
line_after (line.Fall s n false) = ap (λ l. codes " fall " ++ l) (then s (decimal n ++ codes " before") ∙ sym (append_assoc (decimal s ++ codes " ") (decimal n) (codes " before")))
line_after (line.Falls s n) = ap (λ l. codes " falls " ++ l) (two s n)
line_after line.New = refl

answer_after : (a : Answer) → after (answer_words a) ≡ 32 ∷ answer_text a
unfolding answer_text
answer_after answer.Done = refl
answer_after (answer.No n) = ap (λ l. codes " no " ++ l) (one n)
answer_after (answer.Pid n) = ap (λ l. codes " pid " ++ l) (one n)
answer_after (answer.Ended n code) = ap (λ l. codes " ended " ++ l) (two n code)
answer_after (answer.Handle n) = ap (λ l. codes " handle " ++ l) (one n)
answer_after (answer.Word x) = ap (λ l. codes " word " ++ l) (one x)

report_after : (r : Report) → after (report_words r) ≡ 32 ∷ report_text r
unfolding report_text
report_after (report.Told p a) = ap (λ l. 32 ∷ (decimal p ++ l)) (answer_after a) ∙ ap (λ l. 32 ∷ l) (then p (answer_text a))
report_after (report.Shown place x) = ap (λ l. codes " screen " ++ l) (two place x)
report_after (report.Began p) = ap (λ l. codes " begin " ++ l) (one p)
report_after (report.Stopped p) = ap (λ l. codes " stop " ++ l) (one p)
report_after (report.Busy p) = refl
report_after (report.Gone p) = refl
report_after (report.Wrong n) = ap (λ l. codes " line " ++ l) (append-nil (decimal n ++ codes "?"))
report_after report.GaveUp = refl

spelt_once : (ts : List Token) {text : List ℕ} → after ts ≡ 32 ∷ text → spell ts ≡ text
spelt_once [] e = absurd (omega (arith, ap length e))
spelt_once (t ∷ ts) e = spell_after t ts ∙ ap (drop 1) e

pub line_text : (l : Line) → spell (line_words l) ≡ text_of l
line_text l = spelt_once (line_words l) (line_after l)

pub report_text_lem : (r : Report) → spell (report_words r) ≡ report_text r
report_text_lem r = spelt_once (report_words r) (report_after r)
