use Rattle.heal.proofs.Sweeping.{tell_needs, told}
use Rattle.heal.proofs.asks.answer.Goals as goal

pub answer-requires : goal.answer-requires
answer-requires g c = tell_needs (g.K.Desk.kern c.args.k.now) (g.K.Desk.seen c.args.k.now) c.args.p c.args.number c.args.a c.requires.owes c.requires.which c.requires.what c.requires.able

pub returns : goal.returns
returns g c = told (g.K.Desk.kern c.args.k.now) (g.K.Desk.kern c.answer.new.self) _ _ c.args.p c.args.number c.args.a c.answer.result c.requires.owes c.requires.which c.requires.what c.requires.able c.answer.ensures
