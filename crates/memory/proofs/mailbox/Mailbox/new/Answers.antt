use Rattle.memory.proofs.Mailboxes.{no_messages}
use Rattle.memory.proofs.mailbox.Mailbox.new.Goals as goal

pub returns : goal.returns
returns c = no_messages _ _
