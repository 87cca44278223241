use Rattle.std.proofs.Common.{refl, rules}
use Rattle.memory.specs.Memory.{kern_of}
use Rattle.memory.proofs.Kernels.{kept_is}
use Rattle.memory.proofs.machine.Machine.write_cell.Goals as goal

pub returns : goal.returns
returns c = record { kernel = kept_is (kern_of c.args.self.now) c.args.self.now.cells.now c.args.cell c.args.x c.base.result refl c.args.self.now.seated c.requires c.base.ensures.0 (search rules); events = search rules; aside = search rules }
