use Rattle.heal.specs.Kernel.{first_of}
use Rattle.heal.proofs.Telling.{told_by_kernel}
use Rattle.heal.proofs.asks.peek.Goals as goal

pub returns : goal.returns
returns g c =
    let k = g.K.Desk.kern c.args.k.now in
    told_by_kernel (first_of (k.box k.at)) c.peek.result c.requires.able c.peek.ensures.0 c.peek.ensures.1
