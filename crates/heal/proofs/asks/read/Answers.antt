use Rattle.std.proofs.Common.{refl}
use Rattle.heal.specs.Turn.{cells}
use Rattle.heal.proofs.Atomics.{does_atomic}
use Rattle.heal.proofs.Telling.{told_as_meant}
use Rattle.heal.proofs.asks.read.Goals as goal

pub returns : goal.returns
returns g c =
    let d = c.get.ensures in
    told_as_meant (cells (g.K.Desk.kern c.args.k.now) c.args.cell) c.get.result c.requires.able d.still.sound d.still.settled (does_atomic d.done refl) d.word
