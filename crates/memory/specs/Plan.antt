-- Where a server falls: over what is in the plan's list, and by chance.
-- Assumes nothing.
use Rattle.std.specs.Prelude.{◌≡◌, ℕ, ◌+◌, ◌*◌, ◌/◌, ◌%◌, ◌^◌, Bool, true, false, cond, ◌&&◌, List, [], ◌∷◌, ◌++◌, ◌==◌, Option, Some, None, position, swap_remove, slice_index, slice_index_or, slice_set}
use Rattle.memory.specs.declared.plan.When.{When}
use Rattle.memory.specs.declared.plan.When.TheVariants.{Before, After}
use Rattle.memory.specs.declared.plan.Fall.{Fall}
use Rattle.memory.specs.declared.plan.Plan.{Plan}

-- the generator's next number
abbrev pub stirred : ℕ → ℕ
stirred x = ((x * 6364136223846793005) % 2 ^ 64 + 1442695040888963407) % 2 ^ 64

-- once in `rate`, by turns before and after; at rate 0 never
abbrev pub by_chance : (d rate : ℕ) → Option When
by_chance d rate = cond (rate == 0) None (cond (d % rate == 0) (Some (cond ((d / rate) % 2 == 0) Before After)) None)

abbrev pub is_for : (server ask : ℕ) → Fall → Bool
is_for s n f = f.server == s && f.ask == n

-- the number of what server `at` asks next
abbrev pub next_ask : Plan → ℕ → ℕ
next_ask p at = (slice_index p.asked at + 1) % 2 ^ 64

-- the place of the first fall that is for what server `at` asks next
abbrev pub place_in : Plan → ℕ → Option ℕ
place_in p at = position (is_for at (next_ask p at)) p.falls.items

abbrev pub no_fall : Fall
no_fall = record { server = 0; ask = 0; when = Before }

-- when the server falls: as the fall at this place says, or by chance if there's none
abbrev pub fate_at : Plan → Option ℕ → Option When
fate_at p (Some i) = Some (slice_index_or p.falls.items i no_fall).when
fate_at p None = by_chance (stirred p.chance.seed / 2 ^ 33) p.chance.rate

-- what becomes of the next thing that server `at` asks
abbrev pub fate_of : Plan → ℕ → Option When
fate_of p at = fate_at p (place_in p at)

-- the list once the fall at this place is taken out, whose place the last takes
abbrev pub without : Option ℕ → List Fall → List Fall
without (Some i) fs = swap_remove fs i no_fall
without None fs = fs

-- q is the plan once server `at` has asked: what was planned for that is in the list no more
pub record PlanAsked (p : Plan) (at : ℕ) (q : Plan) : Type 0 where
  pub asked : q.asked ≡ slice_set p.asked at (next_ask p at)
  pub falls : q.falls.items ≡ without (place_in p at) p.falls.items
  pub chance : q.chance ≡ record { seed = stirred p.chance.seed; rate = p.chance.rate }

-- q has one fall more
pub record PlanAdded (p : Plan) (server nth : ℕ) (when : When) (q : Plan) : Type 0 where
  pub asked : q.asked ≡ p.asked
  pub falls : q.falls.items ≡ p.falls.items ++ (record { server = server; ask = (slice_index p.asked server + nth) % 2 ^ 64; when = when } ∷ [])
  pub chance : q.chance ≡ p.chance

-- q goes on by another seed and rate
pub record PlanChance (p : Plan) (seed rate : ℕ) (q : Plan) : Type 0 where
  pub asked : q.asked ≡ p.asked
  pub falls : q.falls ≡ p.falls
  pub chance : q.chance ≡ record { seed = seed; rate = rate }

-- the plan stays
abbrev pub PlanSame : Plan → Plan → Type 0
PlanSame p q = q ≡ p

-- nobody has asked, and nothing is planned
pub record Nobody (p : Plan) : Type 0 where
  pub asked : p.asked ≡ 0 ∷ 0 ∷ 0 ∷ []
  pub falls : p.falls.items ≡ []
  pub chance : p.chance ≡ record { seed = 0; rate = 0 }

-- a line of a script says by a flag that a server falls after what it asks is done
abbrev pub when_of : (after : Bool) → When
when_of false = Before
when_of true = After
