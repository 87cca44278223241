use Rattle.std.proofs.Common.{sym, ◌∙◌, arith}
use Rattle.heal.specs.Journal.{viewed}
use Rattle.heal.specs.Invariant.{credit}
use Rattle.heal.proofs.Steps.{after_none, did_then, inv_exact}
use Rattle.heal.proofs.Sweeping.{begin_gives, begin_keeps}
use Rattle.heal.proofs.Advancing.{rests_at, calm_advanced}
use Rattle.heal.proofs.slots.begin.Goals as goal

pub advance-requires-clause-keeps : goal.advance-requires-clause-keeps
advance-requires-clause-keeps g c = λ to f. begin_keeps to (viewed (g.K.Desk.kern c.args.k.now)) _ (rests_at (sym c.in-Rests.is ∙ c.requires.here)) c.requires.empty f

pub returns-in-Rests : goal.returns-in-Rests
returns-in-Rests g c =
    let k0 = g.K.Desk.kern c.args.k.now in
    let rests = rests_at (sym c.in-Rests.is ∙ c.requires.here) in
    did_then (after_none c.requires.able) c.advance.ensures (λ y e f. (calm_advanced f, (λ z a b u i. inv_exact (credit k0.at b a) f.exact (begin_gives f.to (viewed k0) _ rests c.requires.empty f.first a b u i)))) (omega arith)
