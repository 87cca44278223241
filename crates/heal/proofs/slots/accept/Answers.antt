use Rattle.std.proofs.Common.{◌+◌, ◌<◌, ◌≤◌, refl, ap, ◌∙◌, arith}
use Rattle.heal.specs.Journal.{viewed}
use Rattle.heal.specs.Invariant.{last}
use Rattle.heal.specs.Turn.{IsCalm, cells}
use Rattle.heal.proofs.Steps.{after_then, did_then, same_cell, same_box, put_cell, put_box}
use Rattle.heal.proofs.Storing.{storing, take_keeps, fewer}
use Rattle.heal.proofs.slots.accept.Goals as goal

-- it's in its slot already
pub take-requires-clause-keeps : goal.take-requires-clause-keeps
take-requires-clause-keeps g c =
    let k0 = g.K.Desk.kern c.args.k.now in
    let k1 = g.K.Desk.kern c.read.new.k in
    let r1 = c.in_ok-last.ensures in
    let x1 = r1.gives _ refl in
    let la = same_cell k0 x1.1 (64 + c.args.p) in
    let b1 = ap (λ f. f k1.at) (same_box k0 x1.1) ∙ (ap k0.box r1.after.seat ∙ c.requires.head.1) in
    let lt : c.args.number < last (cells k1) c.args.p = omega (arith, x1.0, c.if-number-last.true) in
    take_keeps c.args.p c.args.number c.args.call (viewed k1) _ c.requires.head.0 b1 lt

pub returns-then-number-last : goal.returns-then-number-last
returns-then-number-last g c =
    let k0 = g.K.Desk.kern c.args.k.now in
    let r1 = c.in_ok-last.ensures in
    let x1 = r1.gives _ refl in
    let hd = c.requires.head in
    did_then r1.after c.take.ensures (λ y e f. fewer c.args.p c.args.number c.args.call hd.0 k0 (g.K.Desk.kern c.read.new.k) (g.K.Desk.kern c.take.new.k) _ _ hd.1 (same_box k0 x1.1) r1.after.seat (same_cell k0 x1.1 32) f) (omega arith)

pub store-requires-clause-storing : goal.store-requires-clause-storing
store-requires-clause-storing g c =
    let k0 = g.K.Desk.kern c.args.k.now in
    let k1 = g.K.Desk.kern c.read.new.k in
    let r1 = c.in_ok-last.ensures in
    let x1 = r1.gives _ refl in
    let x2 = c.in_ok-add_ready.ensures.gives _ refl in
    let la = same_cell k0 x1.1 (64 + c.args.p) in
    let sw = same_cell k0 x1.1 32 in
    let b1 = ap (λ f. f k1.at) (same_box k0 x1.1) ∙ (ap k0.box r1.after.seat ∙ c.requires.head.1) in
    let le : last (cells k1) c.args.p ≤ c.args.number = omega (arith, x1.0, c.if-number-last.false) in
    let calm : IsCalm k1 = omega (arith, sw, c.requires.calm) in
    storing c.args.p c.args.number x2.0 c.args.call k1 (g.K.Desk.kern c.add_ready.new.k) _ _ c.requires.small c.requires.head.0 b1 le calm x2.1 x2.2

pub take-requires-2-clause-keeps : goal.take-requires-2-clause-keeps
take-requires-2-clause-keeps g c =
    let k0 = g.K.Desk.kern c.args.k.now in
    let k1 = g.K.Desk.kern c.read.new.k in
    let k3 = g.K.Desk.kern c.store.new.k in
    let r1 = c.in_ok-last.ensures in
    let x1 = r1.gives _ refl in
    let r2 = c.in_ok-add_ready.ensures in
    let x2 = r2.gives _ refl in
    let r3 = c.in_ok-store.ensures in
    let x3 = r3.gives _ refl in
    let A3 = after_then (after_then r1.after r2.after) r3.after in
    let b3 = x3.boxes ∙ (put_box 36 x2.0 k1 x2.2 ∙ same_box k0 x1.1) in
    take_keeps c.args.p c.args.number c.args.call (viewed k3) _ c.requires.head.0 (ap (λ f. f k3.at) b3 ∙ (ap k0.box A3.seat ∙ c.requires.head.1)) x3.there

pub returns : goal.returns
returns g c =
    let k0 = g.K.Desk.kern c.args.k.now in
    let k1 = g.K.Desk.kern c.read.new.k in
    let k3 = g.K.Desk.kern c.store.new.k in
    let r1 = c.in_ok-last.ensures in
    let x1 = r1.gives _ refl in
    let r2 = c.in_ok-add_ready.ensures in
    let x2 = r2.gives _ refl in
    let r3 = c.in_ok-store.ensures in
    let x3 = r3.gives _ refl in
    let A3 = after_then (after_then r1.after r2.after) r3.after in
    let hd = c.requires.head in
    let b3 = x3.boxes ∙ (put_box 36 x2.0 k1 x2.2 ∙ same_box k0 x1.1) in
    let w3 = x3.swept ∙ (put_cell 36 x2.0 k1 x2.2 32 ∙ same_cell k0 x1.1 32) in
    did_then A3 c.take-2.ensures (λ y e f. fewer c.args.p c.args.number c.args.call hd.0 k0 k3 (g.K.Desk.kern c.take-2.new.k) _ _ hd.1 b3 A3.seat w3 f) (omega arith)
