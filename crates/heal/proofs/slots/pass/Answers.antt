use Rattle.heal.specs.Journal.{viewed}
use Rattle.heal.specs.Invariant.{plus}
use Rattle.heal.proofs.Advancing.{calm_advanced}
use Rattle.heal.proofs.Finishing.{pass_gives}
use Rattle.heal.proofs.Serving.{pass_keeps}
use Rattle.heal.proofs.Steps.{did_and, inv_exact}
use Rattle.heal.proofs.slots.pass.Goals as goal

pub advance-requires-clause-keeps : goal.advance-requires-clause-keeps
advance-requires-clause-keeps g c = λ w f. pass_keeps c.args.p c.requires.waits.0 w (viewed (g.K.Desk.kern c.args.k.now)) (g.K.Desk.seen c.args.k.now) c.requires.waits.1 f

pub returns : goal.returns
returns g c =
    let h = c.requires.waits in
    did_and c.advance.ensures (λ y e a. record { calm = calm_advanced a; gave = λ b i. inv_exact (plus (g.K.Desk.kern c.args.k.now).at 1 b) a.exact (pass_gives c.args.p h.0 a.to (viewed (g.K.Desk.kern c.args.k.now)) (g.K.Desk.seen c.args.k.now) h.1.0 h.1.1 a.first b i) })
