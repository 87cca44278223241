use Rattle.std.proofs.Common.{◌<◌, length, sym, ap, ◌∙◌, arith}
use Rattle.heal.specs.Kernel.{tail}
use Rattle.memory.proofs.Mailboxes.{length-messages, messages-pop, none_first, some_first}
use Rattle.memory.proofs.mailbox.Mailbox.pop.Goals as goal

pub returns-in_err-first-clause-rest : goal.returns-in_err-first-clause-rest
returns-in_err-first-clause-rest c = none_first _ (sym c.first.ensures ∙ c.in_err-first.was)

pub overflow_sub-self : goal.overflow_sub-self
overflow_sub-self c =
    let b = c.self.inside in
    omega (arith, length-messages b.ring b.first b.len, ap length c.self.view_is, some_first c.args.self.now c.in_ok-first.first (sym c.first.ensures ∙ c.in_ok-first.was))

pub returns-clause-rest : goal.returns-clause-rest
returns-clause-rest c =
    let b = c.self.inside in
    let some : 0 < b.len = omega (arith, length-messages b.ring b.first b.len, ap length c.self.view_is, some_first c.args.self.now c.in_ok-first.first (sym c.first.ensures ∙ c.in_ok-first.was)) in
    messages-pop b.ring b.first b.len some ∙ ap tail c.self.view_is
