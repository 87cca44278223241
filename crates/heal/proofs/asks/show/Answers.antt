use Rattle.heal.proofs.Serving.{show_needs, show_did}
use Rattle.heal.proofs.asks.show.Goals as goal

pub show-requires : goal.show-requires
show-requires g c = show_needs c.args.p c.args.place c.args.x (g.K.Desk.kern c.args.k.now) (g.K.Desk.seen c.args.k.now) c.requires.able c.requires.two c.requires.stand c.requires.own c.requires.which

pub returns : goal.returns
returns g c = show_did c.args.p c.args.place c.args.x (g.K.Desk.kern c.args.k.now) (g.K.Desk.kern c.show.new.self) _ _ c.show.result c.requires.able c.requires.two c.requires.stand c.requires.own c.requires.which c.show.ensures
