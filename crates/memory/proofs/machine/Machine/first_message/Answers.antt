use Rattle.std.proofs.Common.{ap, ◌∙◌, rules}
use Rattle.heal.specs.Kernel.{first_of}
use Rattle.memory.proofs.Arrays.{box_read}
use Rattle.memory.proofs.machine.Machine.first_message.Goals as goal

pub returns : goal.returns
returns c = c.first.ensures ∙ ap first_of (box_read c.args.self.now.mailboxes _ _ (search rules))
