-- Rows of calls by program 1, with what it's told: what the machine that never falls does, by example.
-- Assumes nothing.
use Rattle.std.specs.Prelude.{◌≡◌, true, false, List, [], ◌∷◌, ◌++◌}
use Rattle.heal.specs.declared.Call.{Call}
use Rattle.heal.specs.declared.Call.TheVariants.{Spawn, Exit, Wait, Open, Read, Write}
use Rattle.heal.specs.declared.Answer.{Answer}
use Rattle.heal.specs.declared.Answer.TheVariants.{Done, No, Handle, Word}
use Rattle.heal.specs.House.{State, Outcome, Waits, Gives, fresh, does}

-- what is told of an outcome, and the state that it leaves
unfoldable pub tells : Outcome → List Answer
tells Waits = []
tells (Gives a t) = a ∷ []

unfoldable pub leaves : State → Outcome → State
leaves s Waits = s
leaves s (Gives a t) = t

-- what program 1 is told, call after call, where nobody else asks anything
unfoldable pub told : State → List Call → List Answer
told s [] = []
told s (c ∷ cs) = tells (does 0 s 1 c) ++ told (leaves s (does 0 s 1 c)) cs

pub record Row : Type 0 where
  pub calls : List Call
  pub answers : List Answer

abbrev pub rows : List Row
rows =
    record { calls = Open 3 true ∷ Open 3 false ∷ Write 0 0 0 ∷ Write 0 1 7 ∷ Write 0 3 9 ∷ Read 0 1 ∷ Read 0 2 ∷ []; answers = Handle 0 ∷ No 8 ∷ Done ∷ Done ∷ No 5 ∷ Word 7 ∷ No 5 ∷ [] }
    ∷ record { calls = Spawn 3 ∷ Spawn 64 ∷ []; answers = No 2 ∷ No 1 ∷ [] }
    ∷ record { calls = Wait ∷ Exit 5 ∷ []; answers = No 10 ∷ No 3 ∷ [] }
    ∷ []

abbrev pub Hold : List Row → Type 0
Hold [] = Unit {0}
Hold (r ∷ rs) = (told fresh r.calls ≡ r.answers) × Hold rs
