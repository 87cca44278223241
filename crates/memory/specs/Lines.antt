-- What the lines of a script do between turns.
-- Assumes nothing.
use Rattle.std.specs.Prelude.{◌≡◌, ℕ, ◌+◌, ◌-◌, ◌≤◌, Bool, true, false, cond, not, ◌&&◌, ◌⊎◌, List, [], ◌∷◌, ◌++◌, length, ◌==◌, ◌≢◌, nat_lt, Some, None, Option, Ok, Err, Result}
use Rattle.std.specs.List.{list_all}
use Rattle.std.specs.declared.ops.ControlFlow.{ControlFlow}
use Rattle.std.specs.declared.ops.ControlFlow.TheVariants.{Continue, Break}
use Rattle.heal.specs.declared.Call.{Call}
use Rattle.heal.specs.Kernel.{Kern, asks, server_of, with_screen}
use Rattle.script.specs.declared.Line.{Line}
use Rattle.script.specs.declared.Line.TheVariants as line
use Rattle.script.specs.Scripts.{Reads}
use Rattle.script.specs.declared.lines.WrongLine.{WrongLine}
use Rattle.memory.specs.declared.Note.{Note}
use Rattle.memory.specs.declared.Note.TheVariants as note
use Rattle.memory.specs.declared.Full.{Full as Full'}
use Rattle.memory.specs.declared.State.{State}
use Rattle.memory.specs.declared.State.TheVariants.{Going, Ended, Anew, Full}
use Rattle.memory.specs.declared.program.Program.{Program}
use Rattle.memory.specs.declared.machine.Machine.{Machine}
use Rattle.memory.specs.Memory.{kern_of}
use Rattle.memory.specs.Programs.{idle, pending_of, calm_of}
use Rattle.memory.specs.Plan.{PlanAdded, PlanChance, PlanSame, when_of}
use Rattle.memory.specs.Beside.{Aside, BetweenTurns, Noted, SamePace, Unnoted}

-- a program that runs and waits for nothing asks
abbrev pub ask_kern : ℕ → Call → Kern → Kern
ask_kern p c k = cond (k.runs p && idle (k.pending p)) (asks p c k) k

abbrev pub struck : ℕ → Kern → Kern
struck x k = with_screen k.screen (k.keys ++ (x ∷ [])) k

abbrev pub ask_note : ℕ → Call → Kern → Note
ask_note p c k = cond (k.runs p) (cond (idle (k.pending p)) (note.Asked p c) (note.Busy p)) (note.Gone p)

-- What a line leaves: the kernel; what is noted; the plan; how many rounds are still to run after the one that begins, where
-- rounds run until nothing changes, how many have; the state; and whether the next line may be read at once.
pub record Leaves (k : Kern) (notes plans : Type 0) (resting : ℕ) (settling : Option ℕ) (state : State) (goes : Bool) (r : Bool) (m' : Machine) : Type 0 where
  pub kernel : kern_of m' ≡ k
  pub noted : notes
  pub plan : plans
  pub rests : m'.resting ≡ resting
  pub settles : m'.settling ≡ settling
  pub is : m'.state ≡ state
  pub goes_on : r ≡ goes

-- A key is struck; a server that isn't there never falls; `round 0` is nothing.
abbrev pub Done : Line → Machine → Bool → Machine → Type 0
Done (line.Ask p c) m r m' = Leaves (ask_kern p c (kern_of m)) (Noted (ask_note p c (kern_of m)) m m') (PlanSame m.plan m'.plan) m.resting m.settling m.state true r m'
Done (line.Key x) m r m' = Leaves (struck x (kern_of m)) (Noted (note.Typed x) m m') (PlanSame m.plan m'.plan) m.resting m.settling m.state true r m'
Done (line.Rounds n) m r m' = Leaves (kern_of m) (Unnoted m m') (PlanSame m.plan m'.plan) (cond (n == 0) m.resting (n - 1)) m.settling m.state (n == 0) r m'
Done line.On m r m' = Leaves (kern_of m) (Unnoted m m') (PlanSame m.plan m'.plan) m.resting (Some 1) m.state false r m'
Done (line.Fall s n a) m r m' = Leaves (kern_of m) (Unnoted m m') (((3 ≤ s) × PlanSame m.plan m'.plan) ⊎ PlanAdded m.plan s n (when_of a) m'.plan) m.resting m.settling m.state true r m'
Done (line.Falls s t) m r m' = Leaves (kern_of m) (Unnoted m m') (PlanChance m.plan s t m'.plan) m.resting m.settling m.state true r m'
Done line.New m r m' = Leaves (kern_of m) (Unnoted m m') (PlanSame m.plan m'.plan) m.resting m.settling Anew false r m'

-- no room for a note beside those of a whole turn
abbrev pub NoRoom : Machine → Type 0
NoRoom m = m.room ≤ m.noted + 4096

-- why a line can't be done
abbrev pub Lacks : Line → Machine → Type 0
Lacks (line.Ask p c) m = NoRoom m ⊎ (((kern_of m).number p ≡ 18446744073709551615) ⊎ (512 ≤ length ((kern_of m).box (server_of c))))
Lacks (line.Key x) m = NoRoom m
Lacks (line.Rounds n) m = ⊥
Lacks line.On m = ⊥
Lacks (line.Fall s n a) m = 64 ≤ length m.plan.falls.items
Lacks (line.Falls s r) m = ⊥
Lacks line.New m = ⊥

-- then nothing is done, and all is over
pub record Refused (m m' : Machine) : Type 0 where
  pub kernel : kern_of m' ≡ kern_of m
  pub noted : Unnoted m m'
  pub plan : PlanSame m.plan m'.plan
  pub state : m'.state ≡ Full

-- whether the next line may be read at once
abbrev pub goes : Result (ControlFlow (Unit {0}) (Unit {0})) Full' → Bool
goes (Ok (Continue x)) = true
goes (Ok (Break b)) = false
goes (Err e) = false

abbrev pub Followed : Line → Machine → Bool → Machine → Type 0
Followed l m r m' = Done l m r m' ⊎ (Lacks l m × (r ≡ false) × Refused m m')

-- so a line is followed, between turns, and the script is as far as it was
pub record Follows (l : Line) (m : Machine) (r : Bool) (m' : Machine) : Type 0 where
  pub followed : Followed l m r m'
  pub between : BetweenTurns m m'
  pub lines : m'.lines ≡ m.lines

-- the same for what is read: at the end nothing more is done, and a line that is none is noted
abbrev pub Heeded : Option (Result Line WrongLine) → Machine → Bool → Machine → Type 0
Heeded None m r m' = (r ≡ false) × (m'.state ≡ Ended) × (kern_of m' ≡ kern_of m) × (Unnoted m m')
Heeded (Some (Err wrong)) m r m' =
    ((r ≡ true) × (kern_of m' ≡ kern_of m) × (Noted (note.Wrong wrong.number) m m') × (Aside m m')) ⊎ (NoRoom m × (r ≡ false) × Refused m m')
Heeded (Some (Ok l)) m r m' = Followed l m r m'

-- the next line is taken from the script
abbrev pub Moved : Option (Result Line WrongLine) → Machine → Machine → Type 0
Moved n m m' =
    (kern_of m' ≡ kern_of m) × (Unnoted m m') × (m'.plan ≡ m.plan) × (SamePace m m') × (m'.state ≡ m.state) × (m'.lines.text.now ≡ m.lines.text.now) × (Reads m.lines.text.now m.lines.at m.lines.number n m'.lines.at m'.lines.number)

-- lines are done one after the other, and after each the next may be read at once
pub data Went (m : Machine) : Machine → Type 0 where
  none : Went m m
  more : {m₁ m₃ : Machine} (m₂ : Machine) (n : Option (Result Line WrongLine)) → Went m m₁ → Moved n m₁ m₂ → Heeded n m₂ true m₃ → m₃.lines ≡ m₂.lines → Went m m₃

-- and then the first after which it may not
pub record WentTo (m m' : Machine) : Type 0 where
  pub till : Machine
  pub at : Machine
  pub last : Option (Result Line WrongLine)
  pub went : Went m till
  pub moved : Moved last till at
  pub heeded : Heeded last at false m'
  pub lines : m'.lines ≡ at.lines

-- nobody waits for what could still be told without more lines
abbrev pub all_calm : List Program → Bool
all_calm = list_all (λ p. calm_of (pending_of p.pending))

-- every server is calm, and nobody waits for what is still to come
abbrev pub settled : Machine → Bool
settled m = m.sum == 0 && list_all (λ b. b) m.calm && all_calm m.programs

-- whether another round is to run until that is so, where so many have
abbrev pub settles_on : Option ℕ → Machine → Bool
settles_on None m = false
settles_on (Some tries) m = not (settled m) && nat_lt tries 16777216

-- whether another round is to run for the last line
abbrev pub runs_on : Machine → Bool
runs_on m = cond (nat_lt 0 m.resting) true (settles_on m.settling m)

abbrev pub Kept : Machine → Machine → Type 0
Kept m m' = (kern_of m' ≡ kern_of m) × (m'.plan ≡ m.plan) × (m'.lines ≡ m.lines)

-- As a round begins: rounds are still to run for the last line; or there are none any more, and lines are read; or the script can't go on,
-- since there's no room to note that it gave up.
pub data Begun (m m' : Machine) : Type 0 where
  runs : runs_on m ≡ true → Kept m m' → Begun m m'
  reads : (m₁ : Machine) → runs_on m ≡ false → Kept m m₁ → WentTo m₁ m' → Begun m m'
  over : runs_on m ≡ false → Kept m m' → (m'.state ≢ Going) → Begun m m'
