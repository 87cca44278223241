use Rattle.std.proofs.Common.{◌∙◌}
use Rattle.memory.proofs.Arrays.{key_is}
use Rattle.memory.proofs.machine.Machine.read_key.Goals as goal

pub returns : goal.returns
returns c = c.get.ensures ∙ key_is _ _
