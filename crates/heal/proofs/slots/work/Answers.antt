use Rattle.std.proofs.Common.{◌≡◌, sym, refl, ap, ◌∙◌, subst, inl, inr, arith}
use Rattle.std.proofs.lemmas.Bool.Decides.{nat_tests as tests}
use Rattle.heal.specs.Journal.{viewed}
use Rattle.heal.specs.Invariant.{plus}
use Rattle.heal.specs.Turn.{Gives, cells}
use Rattle.heal.proofs.Kept.{loose}
use Rattle.heal.proofs.Sweeping.{give_add, give_pre}
use Rattle.heal.proofs.Steps.{after_none, after_then, after_up, did_ok, same_cells, same_box}
use Rattle.heal.proofs.Advancing.{at_slot, over_at, calm_then}
use Rattle.heal.proofs.slots.work.Goals as goal

pub loop-init : goal.loop-init
loop-init g c =
    let k0 = g.K.Desk.kern c.args.k.now in
    let s0 = g.K.Desk.seen c.args.k.now in
    record { after = after_none c.requires.able; calm = record { sweeping = c.requires.calm; boxes = refl }; gives = λ a i. loose a (viewed k0) s0 i (plus k0.at 0 a) (λ τ. grind (arith, tests)) }

pub step-requires-clause-at : goal.step-requires-clause-at
step-requires-clause-at g c =
    let x2 = c.in_ok-p.ensures.gives _ refl in
    let at = at_slot (sym c.in-At.is ∙ x2.0) in
    (ap (λ f. f 32) (same_cells (g.K.Desk.kern c.loop.k) x2.1) ∙ at.0, at.1, at.2)

pub returns-in_default : goal.returns-in_default
returns-in_default g c =
    let k1 = g.K.Desk.kern c.loop.k in
    let I = c.loop.invariant in
    let r2 = c.in_ok-p.ensures in
    let x2 = r2.gives _ refl in
    let q2 = ap (λ f. f 32) (same_cells k1 x2.1) in
    let over = q2 ∙ over_at {w = cells k1 32} x2.0 c.in_default.not-At I.calm.sweeping in
    did_ok (after_then I.after r2.after) (record { calm = record { sweeping = omega (arith, over); boxes = same_box k1 x2.1 ∙ I.calm.boxes }; rests = inl over }) (omega (arith, c.loop-test))

pub loop-preserved : goal.loop-preserved
loop-preserved g c =
    let K = g.K.Desk.kern in
    let S = g.K.Desk.seen in
    let k1 = K c.loop.k in
    let k3 = K c.step.new.k in
    let s3 = S c.step.new.k in
    let I = c.loop.invariant in
    let r2 = c.in_ok-p.ensures in
    let x2 = r2.gives _ refl in
    let r3 = c.in_ok-step.ensures in
    let x3 = r3.gives _ refl in
    record { after = after_up (after_then (after_then I.after r2.after) r3.after) (omega arith); calm = calm_then (same_box k1 x2.1 ∙ I.calm.boxes) x3.calm; gives = give_add c.loop.counter (K c.args.k.now) k1 k3 (S c.args.k.now) (S c.loop.k) s3 I.after.seat I.gives (give_pre 1 k3 s3 r2.after x3.gave) }

pub returns : goal.returns
returns g c =
    let K = g.K.Desk.kern in
    let S = g.K.Desk.seen in
    let I = c.loop.invariant in
    let e : c.loop.counter ≡ 32 = omega (arith, c.loop-test, c.loop.auto) in
    did_ok I.after (record { calm = I.calm; rests = inr (subst (λ m. Gives m (K c.args.k.now) (S c.args.k.now) (K c.loop.k) (S c.loop.k)) e I.gives) }) (omega arith)
