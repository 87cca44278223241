use Rattle.std.proofs.Common.{◌<◌, List, [], ◌∷◌, ◌++◌, length, ap, ◌∙◌, arith, rules}
use Rattle.heal.specs.declared.Msg.{Msg}
use Rattle.memory.proofs.Mailboxes.{length-messages, messages-push}
use Rattle.memory.proofs.mailbox.Mailbox.push.Goals as goal

pub invariant_of-self : goal.invariant_of-self
invariant_of-self c =
    let b = c.self.inside in
    (c.self.invariant.0, omega (arith, length-messages b.ring b.first b.len, ap length c.self.view_is))

pub returns : goal.returns
returns c =
    let b = c.self.inside in
    let room : b.len < 512 = omega (arith, length-messages b.ring b.first b.len, ap length c.self.view_is) in
    messages-push b.ring b.first b.len c.args.m (search rules) room ∙ ap (λ (ms : List Msg). ms ++ (c.args.m ∷ [])) c.self.view_is
