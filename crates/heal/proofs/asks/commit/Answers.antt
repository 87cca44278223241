use Rattle.heal.specs.Journal.{viewed, kept_all}
use Rattle.heal.proofs.Atomics.{kept_all_at, kept_all_fell}
use Rattle.heal.proofs.Steps.{atomic_did}
use Rattle.heal.proofs.asks.commit.Goals as goal

pub returns : goal.returns
returns g c =
    let k = g.K.Desk.kern c.args.k.now in
    let d = c.commit.ensures in
    atomic_did 50 k (kept_all c.args.t (viewed k)) (g.K.Desk.kern c.commit.new.k) _ _ _ c.commit.result c.requires.able.stands (kept_all_at c.args.t (viewed k)) (kept_all_fell c.args.t (viewed k)) c.requires.keeps d.still.sound d.still.settled d.done
