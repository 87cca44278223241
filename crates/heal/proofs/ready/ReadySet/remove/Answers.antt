use Rattle.std.proofs.Common.{◌≡◌, ℕ, ◌*◌, ◌%◌, ◌^◌, ◌<◌, ◌≤◌, not, ◌&&◌, eqb, arith, rules, tests, w64}
use mathlib.Core.Logic.{◌≢◌}
use Rattle.std.specs.Int.{bit_at, bit_not}
use Rattle.std.proofs.lemmas.Nat.{and_le_l}
use Rattle.std.proofs.lemmas.Nat.Bits.{bit_at_clear_same, bit_at_clear_other, bit_at_above}
use Rattle.heal.specs.Ready.{has}
use Rattle.heal.proofs.ready.ReadySet.remove.Goals as goal

cleared : (m r p q : ℕ) → m < 18446744073709551616 → r ≤ m → bit_at r p ≡ 0 → ((i : ℕ) → i < 64 → i ≢ p → bit_at r i ≡ bit_at m i) → eqb (bit_at r q) 1 ≡ eqb (bit_at m q) 1 && not (eqb p q)
cleared m r p q fits less same others =
    let other = others q in
    let above = bit_at_above m 64 q fits in
    let above' = bit_at_above r 64 q (omega arith) in grind (arith, tests)

pub returns : goal.returns
unfolding has
returns c q =
    let m = c.args.self.bits in
    let p = c.args.p in cleared m _ p q (search rules) (and_le_l m (bit_not w64 (1 * 2 ^ p % 2 ^ 64))) (bit_at_clear_same w64 m p c.requires) (bit_at_clear_other w64 m p c.requires)
