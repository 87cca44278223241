use Rattle.std.proofs.Common.{refl, ap, ◌∙◌}
use Rattle.heal.specs.Kernel.{taken}
use Rattle.heal.specs.Journal.{viewed, own}
use Rattle.heal.proofs.Atomics.{stood, does_sound, does_viewed, does_atomic}
use Rattle.heal.proofs.Meant.{cells_sound}
use Rattle.heal.proofs.Steps.{atomic_did}
use Rattle.heal.proofs.asks.take.Goals as goal

pub returns : goal.returns
returns g c =
    let k = g.K.Desk.kern c.args.k.now in
    let d = c.take.ensures in
    atomic_did 1 k (taken (viewed k)) (g.K.Desk.kern c.take.new.self) _ _ _ c.take.result c.requires.able.stands refl refl c.requires.keeps (does_sound d c.requires.able.sound (cells_sound k (taken k) refl c.requires.able.sound)) (λ e. ap (λ κ. own κ 0) (stood d e).1 ∙ c.requires.able.settled) (does_atomic (does_viewed (taken (viewed k)) d refl) refl)
