use Rattle.heal.specs.Kernel.{key_at}
use Rattle.heal.proofs.Telling.{told_by_kernel}
use Rattle.heal.proofs.asks.key.Goals as goal

pub returns : goal.returns
returns g c = told_by_kernel (key_at c.args.n (g.K.Desk.kern c.args.k.now).keys) c.key.result c.requires.able c.key.ensures.0 c.key.ensures.1
