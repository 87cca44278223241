-- Which words a call has, by the number of its kind.
-- Assumes nothing.
use Rattle.std.proofs.Common.{◌≡◌, ℕ, Bool, true, false, sym, ap, ◌∙◌, arith, rules}
use Rattle.heal.specs.declared.Call.{Call}
use Rattle.heal.specs.declared.Call.TheVariants.{Open, Read, Write, Say}
use Rattle.heal.specs.declared.codec.CallKind.{CallKind}
use Rattle.heal.specs.Codec.{call_of, number_of, MeansCall, has_b, has_x}

-- a number and the kind that it means make the same calls, so what is told from the calls is the same
unfoldable b_in : Call → Bool
b_in (Open n w) = true
b_in (Read h i) = true
b_in (Write h i x) = true
b_in _ = false

b_by_number : (n : ℕ) → b_in (call_of n 0 0 0) ≡ has_b n
unfolding call_of b_in
b_by_number n = search (rules, arith)

pub kind_has_b : (n : ℕ) (k : CallKind) → MeansCall n k → has_b n ≡ has_b (number_of k)
kind_has_b n k m = sym (b_by_number n) ∙ ap b_in (m 0 0 0) ∙ b_by_number (number_of k)

unfoldable x_in : Call → Bool
x_in (Write h i x) = true
x_in (Say x) = true
x_in _ = false

x_by_number : (n : ℕ) → x_in (call_of n 0 0 0) ≡ has_x n
unfolding call_of x_in
x_by_number n = search (rules, arith)

pub kind_has_x : (n : ℕ) (k : CallKind) → MeansCall n k → has_x n ≡ has_x (number_of k)
kind_has_x n k m = sym (x_by_number n) ∙ ap x_in (m 0 0 0) ∙ x_by_number (number_of k)
