-- What an ask does, by its fate.
-- Assumes nothing.
use Rattle.std.specs.Prelude.{◌≡◌, Bool, true, false, List, Option, Some, None, Ok, Err, Result}
use Rattle.heal.specs.declared.Down.{Down}
use Rattle.heal.specs.Kernel.{Kern, Event, counted, with_fell}
use Rattle.memory.specs.declared.plan.When.{When}
use Rattle.memory.specs.declared.plan.When.TheVariants.{Before, After}
use Rattle.memory.specs.declared.machine.Machine.{Machine}
use Rattle.memory.specs.Memory.{kern_of, seen_of}
use Rattle.memory.specs.Plan.{fate_of, PlanAsked}
use Rattle.memory.specs.Beside.{HasPlace}

-- k and es before, l and fs once it's done: who had stood falls just as its fate says, and who has fallen gets nothing done any more
pub data Planned (k l : Kern) (es fs : List Event) : Option When → Bool → Kern → List Event → Type 0 where
  stood : k.fell ≡ false → Planned k l es fs None true (counted l) fs
  fell_before : k.fell ≡ false → Planned k l es fs (Some Before) false (counted (with_fell true k)) es
  fell_after : k.fell ≡ false → Planned k l es fs (Some After) false (counted (with_fell true l)) fs
  had_fallen : (fate : Option When) → k.fell ≡ true → Planned k l es fs fate false (counted (with_fell true k)) es

-- so it is at a machine, and in its plan
pub record AsPlanned (m : Machine) (l : Kern) (fs : List Event) (ok : Bool) (m' : Machine) : Type 0 where
  pub planned : Planned (kern_of m) l (seen_of m) fs (fate_of m.plan m.at) ok (kern_of m') (seen_of m')
  pub plan : PlanAsked m.plan m.at m'.plan

-- what is asked of m is about to be done
pub record Ready (m m' : Machine) : Type 0 where
  pub kernel : kern_of m' ≡ counted (kern_of m)
  pub events : seen_of m' ≡ seen_of m
  pub plan : PlanAsked m.plan m.at m'.plan
  pub at : m'.at ≡ m.at
  pub room : HasPlace m'

-- Where `Step n x n'` says that doing it at n hands back x and leaves n': nothing is done; or it's done, and its result is handed back; or it's
-- done, and then the server falls.
pub data Asked {A : Type 0} (Step : Machine → A → Machine → Type 0) (m : Machine) : Result A Down → Machine → Type 0 where
  over : (d : Down) (m' : Machine) → ((l : Kern) (fs : List Event) → AsPlanned m l fs false m') → Asked Step m (Err d) m'
  went : (n : Machine) (x : A) (m' : Machine) → Ready m n → (kern_of m).fell ≡ false → fate_of m.plan m.at ≡ None → Step n x m' → Asked Step m (Ok x) m'
  fell : (d : Down) (n : Machine) (x : A) (n' m' : Machine) → Ready m n → (kern_of m).fell ≡ false → fate_of m.plan m.at ≡ Some After → Step n x n' →
      kern_of m' ≡ with_fell true (kern_of n') → seen_of m' ≡ seen_of n' → m'.plan ≡ n'.plan → Asked Step m (Err d) m'
