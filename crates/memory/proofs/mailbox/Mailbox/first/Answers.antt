use Rattle.std.proofs.Common.{sym, ap, ◌∙◌}
use Rattle.heal.specs.Kernel.{first_of}
use Rattle.memory.proofs.Mailboxes.{first_of-messages}
use Rattle.memory.proofs.mailbox.Mailbox.first.Goals as goal

pub returns : goal.returns
returns c = c.then_some.ensures ∙ sym (first_of-messages _ _ _ c.self.invariant.0) ∙ ap first_of c.self.view_is
