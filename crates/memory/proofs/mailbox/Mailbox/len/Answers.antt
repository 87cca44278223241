use Rattle.std.proofs.Common.{length, sym, ap, ◌∙◌}
use Rattle.memory.proofs.Mailboxes.{length-messages}
use Rattle.memory.proofs.mailbox.Mailbox.len.Goals as goal

pub returns : goal.returns
returns c = sym (length-messages _ _ _) ∙ ap length c.self.view_is
