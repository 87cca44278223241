-- What the traits cite, and what is promised beside the main promise.
-- Assumes nothing.
use Rattle.std.specs.Prelude.{◌≡◌, ℕ, zero, suc, ◌<◌, Bool, true, not, T, List, [], ◌∷◌, length}
use Rattle.heal.specs.declared.Call.{Call}
use Rattle.heal.specs.Kernel.{Event, Asked, Told, Began, Stopped, Shown, Typed, Round}
use Rattle.heal.specs.House.{Empty, On, State, Run, core, parent_of, nobody, living}

-- the calls that are built: it grows with the landings to `all`, and never loses a call
abbrev pub can : Call → Bool
can = core

-- what the first landings build is never taken back
abbrev pub CoreBuilt : Type 0
CoreBuilt = (c : Call) → T (core c) → T (can c)

-- 1. Who writes a file is the only one who has it open.
abbrev pub OneWriter : Type 0
OneWriter = (every : Call → Bool) (es : List Event) (s : State) → Run every es s → (p q h i n : ℕ) (w : Bool) → s.hand p h ≡ On n true → s.hand q i ≡ On n w → (p ≡ q) × (h ≡ i)

-- 2. Every program has a living parent, and going up one comes to program 1, which lives.
unfoldable pub up : ℕ → State → ℕ → ℕ
up zero s p = p
up (suc n) s p = up n s (parent_of (s.proc p))

abbrev pub FamilyStands : Type 0
FamilyStands =
    (every : Call → Bool) (es : List Event) (s : State) → Run every es s → T (living (s.proc 1)) × ((p : ℕ) → T (not (nobody (s.proc p))) → (0 < p) × (p < 64) × T (living (s.proc (parent_of (s.proc p)))) × (up 64 s p ≡ 1))

-- 3. The dead hold nothing.
abbrev pub DeadHoldNothing : Type 0
DeadHoldNothing = (every : Call → Bool) (es : List Event) (s : State) → Run every es s → (p : ℕ) → T (not (living (s.proc p))) → ((h : ℕ) → s.hand p h ≡ Empty) × (s.owner ≡ p → p ≡ 0)

-- 4. The screen's places are shown one after the other, each once.
unfoldable pub places_of : List Event → List ℕ
places_of [] = []
places_of (Asked p c ∷ es) = places_of es
places_of (Told p a ∷ es) = places_of es
places_of (Began p ∷ es) = places_of es
places_of (Stopped p ∷ es) = places_of es
places_of (Shown n x ∷ es) = n ∷ places_of es
places_of (Typed x ∷ es) = places_of es
places_of (Round ∷ es) = places_of es

unfoldable pub down : ℕ → List ℕ
down zero = []
down (suc n) = n ∷ down n

abbrev pub ScreenInOrder : Type 0
ScreenInOrder = (every : Call → Bool) (es : List Event) (s : State) → Run every es s → places_of es ≡ down (length s.screen)
