use Rattle.std.proofs.Common.{rules}
use Rattle.memory.proofs.Kernels.{taken_is}
use Rattle.memory.proofs.machine.Machine.drop_first.Goals as goal

pub returns-then-is_some : goal.returns-then-is_some
returns-then-is_some c = record { kernel = taken_is c.args.self.now _ _ (search rules) c.pop.ensures.rest; events = search rules; aside = search rules }

pub returns-else-is_some : goal.returns-else-is_some
returns-else-is_some c = record { kernel = taken_is c.args.self.now _ _ (search rules) c.pop.ensures.rest; events = search rules; aside = search rules }
