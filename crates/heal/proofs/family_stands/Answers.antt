use Rattle.heal.proofs.Theorems.{family_stands}
use Rattle.heal.proofs.family_stands.Goals as goal

pub returns : goal.returns
returns c = family_stands
