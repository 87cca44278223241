use Rattle.std.proofs.Common.{sym, refl, ap, ◌∙◌, arith}
use Rattle.heal.specs.Sweep.{sweep_of}
use Rattle.heal.specs.Turn.{cells}
use Rattle.heal.proofs.Steps.{after_then, did_then, did_ok, same_cells, same_box}
use Rattle.heal.proofs.Advancing.{owes_is, calm_at}
use Rattle.heal.proofs.slots.settle.Goals as goal

pub tell-requires-clause-owes : goal.tell-requires-clause-owes
tell-requires-clause-owes g c =
    let x1 = c.in_ok-at.ensures.gives _ refl in
    ap (λ f. f 32) (same_cells (g.K.Desk.kern c.args.k.now) x1.1) ∙ owes_is (sym c.in-Owes.is ∙ x1.0)

pub returns : goal.returns
returns g c =
    let k2 = g.K.Desk.kern c.tell.new.k in
    let r1 = c.in_ok-at.ensures in
    let x1 = r1.gives _ refl in
    let r2 = c.in_ok-tell.ensures in
    let x2 = r2.gives _ refl in
    let b2 = x2.boxes ∙ same_box (g.K.Desk.kern c.args.k.now) x1.1 in
    did_then (after_then r1.after r2.after) c.find_sweep-2.ensures (λ y e f. (let q = ap (λ d. d 32) (same_cells k2 f.1) in (f.0 ∙ ap sweep_of (sym q), record { sweeping = omega (arith, q, x2.sweeping); boxes = same_box k2 f.1 ∙ b2 }))) (omega arith)

pub returns-in_default : goal.returns-in_default
returns-in_default g c =
    let k0 = g.K.Desk.kern c.args.k.now in
    let r1 = c.in_ok-at.ensures in
    let x1 = r1.gives _ refl in
    let q = ap (λ d. d 32) (same_cells k0 x1.1) in
    did_ok r1.after (x1.0 ∙ ap sweep_of (sym q), record { sweeping = omega (arith, q, calm_at {w = cells k0 32} x1.0 c.in_default.not-Owes); boxes = same_box k0 x1.1 }) (omega arith)
