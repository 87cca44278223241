use Rattle.std.proofs.Common.{eqb, ap}
use Rattle.std.proofs.lemmas.Nat.Bits.{shr_and_one}
use Rattle.heal.specs.Ready.{has}
use Rattle.heal.proofs.ready.ReadySet.contains.Goals as goal

pub returns : goal.returns
unfolding has
returns c = ap (λ x. eqb x 1) (shr_and_one c.args.self.bits c.args.p)
