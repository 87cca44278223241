use Rattle.std.proofs.Common.{refl, ◌∙◌, rules}
use Rattle.memory.specs.Memory.{runs_of}
use Rattle.memory.proofs.Kernels.{stopped_is}
use Rattle.memory.proofs.machine.Machine.halt.Goals as goal

pub returns-then-program : goal.returns-then-program
unfolding runs_of
returns-then-program c = record { kernel = c.note.ensures.beside.kernel ∙ stopped_is c.args.self.now c.args.pid _ (search rules) refl refl refl; events = search rules; aside = search rules }

pub returns-else-program : goal.returns-else-program
unfolding runs_of
returns-else-program c = record { kernel = stopped_is c.args.self.now c.args.pid _ (search rules) refl refl refl; events = search rules; aside = search rules }
