use Rattle.std.proofs.Common.{arith, tests, w64}
use Rattle.std.proofs.lemmas.Nat.Bits.{bit_at_set_same, bit_at_set_other}
use Rattle.heal.specs.Ready.{has}
use Rattle.heal.proofs.ready.ReadySet.insert.Goals as goal

pub returns : goal.returns
unfolding has
returns c q =
    let m = c.args.self.bits in
    let p = c.args.p in
    let same = bit_at_set_same w64 m p c.requires in
    let other = bit_at_set_other w64 m p c.requires q in grind (arith, tests)
