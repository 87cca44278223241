use Rattle.std.proofs.Common.{length, Some, refl, ap, ◌∙◌, arith}
use Rattle.heal.specs.Journal.{viewed}
use Rattle.heal.specs.Invariant.{nothing}
use Rattle.heal.proofs.Mail.{box_few}
use Rattle.heal.proofs.First.{first_is, first_no, no_tells, first_fits}
use Rattle.heal.proofs.Steps.{able, after_none, after_then, after_up, did_ok, same_cells, same_box}
use Rattle.heal.proofs.slots.drain.Goals as goal

pub loop-init : goal.loop-init
loop-init g c =
    let k = g.K.Desk.kern c.args.k.now in
    record { after = after_none c.requires.able; few = omega (arith, box_few _ _ k.at (k.box k.at) (c.requires.able.inv.2.mail k.at)); swept = refl }

pub returns-in-Some-Tells : goal.returns-in-Some-Tells
returns-in-Some-Tells g c =
    let k1 = g.K.Desk.kern c.loop.k in
    let x2 = c.in_ok-pid.ensures.gives _ refl in
    let h = first_is (k1.box k1.at) _ _ x2.0 (c.in-Some-Tells.is ∙ ap (λ m. Some m) c.in-Some-Tells.field-0-is) in
    absurd (no_tells nothing (viewed k1) _ _ _ _ _ _ h.0 h.1 (c.loop.invariant.after.kept nothing c.requires.able.inv))

pub returns-in-None : goal.returns-in-None
returns-in-None g c =
    let k1 = g.K.Desk.kern c.loop.k in
    let k2 = g.K.Desk.kern c.peek.new.k in
    let I = c.loop.invariant in
    let r2 = c.in_ok-pid.ensures in
    let x2 = r2.gives _ refl in
    let b2 = ap (λ f. f k2.at) (same_box k1 x2.1) ∙ ap k1.box r2.after.seat in
    did_ok (after_then I.after r2.after) (record { none = b2 ∙ first_no (k1.box k1.at) _ x2.0 c.in-None.is; swept = ap (λ f. f 32) (same_cells k1 x2.1) ∙ I.swept }) (omega (arith, c.loop-test))

pub accept-requires : goal.accept-requires
accept-requires g c =
    let k1 = g.K.Desk.kern c.loop.k in
    let k2 = g.K.Desk.kern c.peek.new.k in
    let I = c.loop.invariant in
    let r2 = c.in_ok-pid.ensures in
    let x2 = r2.gives _ refl in
    let A2 = after_then I.after r2.after in
    let q2 = ap (λ f. f 32) (same_cells k1 x2.1) in
    let h = first_is (k1.box k1.at) _ _ x2.0 (c.in-Some-Asks.is ∙ ap (λ m. Some m) c.in-Some-Asks.field-0-is) in
    let h2 = ap (λ f. f k2.at) (same_box k1 x2.1) ∙ (ap k1.box r2.after.seat ∙ h.1) in
    let fi = first_fits k2 _ _ _ _ h.0 h2 (A2.kept nothing c.requires.able.inv) in
    record { able = able c.requires.able A2 9 (omega (arith, c.loop-test)); small = fi.0; fits = fi.1; head = (h.0, h2); calm = omega (arith, q2, I.swept, c.requires.calm) }

pub loop-preserved : goal.loop-preserved
loop-preserved g c =
    let k1 = g.K.Desk.kern c.loop.k in
    let k2 = g.K.Desk.kern c.peek.new.k in
    let I = c.loop.invariant in
    let r2 = c.in_ok-pid.ensures in
    let x2 = r2.gives _ refl in
    let r3 = c.in_ok-accept-in-Some-Asks.ensures in
    let x3 = r3.gives _ refl in
    let q2 = ap (λ f. f 32) (same_cells k1 x2.1) in
    let b2 = ap (λ f. f k2.at) (same_box k1 x2.1) ∙ ap k1.box r2.after.seat in
    let l2 = ap (λ ms. length ms) b2 in
    record { after = after_up (after_then (after_then I.after r2.after) r3.after) (omega arith); few = omega (arith, l2, x3.less, I.few); swept = x3.swept ∙ (q2 ∙ I.swept) }
