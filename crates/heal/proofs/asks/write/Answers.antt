use Rattle.std.proofs.Common.{refl}
use Rattle.heal.specs.Kernel.{kept}
use Rattle.heal.specs.Journal.{viewed}
use Rattle.heal.proofs.Atomics.{does_atomic}
use Rattle.heal.proofs.Steps.{atomic_did}
use Rattle.heal.proofs.asks.write.Goals as goal

pub returns : goal.returns
returns g c =
    let k = g.K.Desk.kern c.args.k.now in
    let d = c.put.ensures in
    atomic_did 1 k (kept c.args.cell c.args.x (viewed k)) (g.K.Desk.kern c.put.new.k) _ _ _ c.put.result c.requires.able.stands refl refl c.requires.keeps d.still.sound d.still.settled (does_atomic d.done refl)
