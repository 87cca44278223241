use Rattle.std.proofs.Common.{sym, refl, ◌∙◌, rules}
use Rattle.memory.specs.Memory.{kern_of, waits_of}
use Rattle.memory.proofs.Kernels.{answered_is, answered_none}
use Rattle.memory.proofs.machine.Machine.tell.Goals as goal

pub returns-then-not-waits_for : goal.returns-then-not-waits_for
unfolding waits_of
returns-then-not-waits_for c = record { kernel = answered_none (kern_of c.args.self.now) c.args.pid c.args.number (sym c.waits_for.ensures ∙ c.if-not-waits_for.true); events = search rules; aside = search rules }

pub returns : goal.returns
unfolding waits_of
returns c = record { kernel = c.note.ensures.beside.kernel ∙ answered_is c.args.self.now c.args.pid c.args.number _ (search rules) (sym c.waits_for.ensures ∙ c.if-not-waits_for.false) refl refl refl; events = search rules; aside = search rules }
