use Rattle.std.proofs.Common.{refl, ◌∙◌, rules}
use Rattle.memory.specs.Memory.{kern_of, runs_of}
use Rattle.memory.proofs.Kernels.{begun_is, begun_again}
use Rattle.memory.proofs.machine.Machine.run.Goals as goal

pub returns-then-self-p : goal.returns-then-self-p
unfolding runs_of
returns-then-self-p c = record { kernel = begun_again (kern_of c.args.self.now) c.args.pid c.if-self-p.true; events = search rules; aside = search rules }

pub returns : goal.returns
unfolding runs_of
returns c = record { kernel = c.note.ensures.beside.kernel ∙ begun_is c.args.self.now c.args.pid _ (search rules) refl refl refl; events = search rules; aside = search rules }
