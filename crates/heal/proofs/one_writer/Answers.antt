use Rattle.heal.proofs.Theorems.{one_writer, dead_hold_nothing}
use Rattle.heal.proofs.one_writer.Goals as goal

pub returns : goal.returns
returns c = (one_writer, dead_hold_nothing)
