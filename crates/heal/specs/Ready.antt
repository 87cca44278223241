-- A set of programs, 0 to 63, as one word.
-- Assumes nothing.
use Rattle.std.specs.Prelude.{ℕ, ◌/◌, ◌%◌, ◌^◌, ◌<◌, ◌≤◌, Bool, T, not, ◌==◌, Option, MatchOption}

-- program p is in the set m
unfoldable pub has : ℕ → ℕ → Bool
has p m = m / 2 ^ p % 2 == 1

-- w is the first from c on that is in m, or 0
pub record FirstFrom (c m w : ℕ) : Type 0 where
  pub below : w < 64
  pub from' : 0 < w → c ≤ w
  pub in' : 0 < w → T (has w m)
  pub before : (p : ℕ) → c ≤ p → p < 64 → T (has p m) → (0 < w) × (w ≤ p)

-- o is the first from c on that is in m, if there is one
abbrev pub First : (c m : ℕ) → Option ℕ → Type 0
First c m o = MatchOption o ((p : ℕ) → c ≤ p → p < 64 → T (not (has p m))) (λ w. (c ≤ w) × (w < 64) × T (has w m) × ((p : ℕ) → c ≤ p → p < w → T (not (has p m))))
