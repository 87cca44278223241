use Rattle.std.proofs.Common.{◌≡◌, sym, refl, ap, ◌∙◌, subst, arith}
use Rattle.heal.specs.Invariant.{last, done}
use Rattle.heal.proofs.Steps.{able, did_then, same_cells, same_box}
use Rattle.heal.proofs.Finishing.{standing_exact}
use Rattle.heal.proofs.Serving.{standing_slot}
use Rattle.heal.proofs.Sweeping.{give_pre}
use Rattle.heal.proofs.Advancing.{calm_then}
use Rattle.heal.proofs.slots.step.Goals as goal

pub clear-requires : goal.clear-requires
clear-requires g c =
    let k0 = g.K.Desk.kern c.args.k.now in
    let k1 = g.K.Desk.kern c.slot.new.k in
    let r1 = c.in_ok-slot.ensures in
    let x1 = r1.gives _ refl in
    let p = c.args.p in
    let q1 = same_cells k0 x1.1 in
    record { able = able c.requires.able r1.after 4 (omega arith); at = (ap (λ f. f 32) q1 ∙ c.requires.at.0, c.requires.at.1, c.requires.at.2); vacant = subst (λ f. done f p ≡ last f p) (sym q1) (x1.0.none c.in-None.is); empty = ap (λ f. f k1.at) (same_box k0 x1.1) ∙ (ap k0.box r1.after.seat ∙ c.requires.empty) }

pub serve-requires : goal.serve-requires
serve-requires g c =
    let r1 = c.in_ok-slot.ensures in
    let x1 = r1.gives _ refl in
    record { able = able c.requires.able r1.after 71 (omega arith); stand = standing_exact x1.1 (standing_slot c.args.p c.in-Some.call (g.K.Desk.kern c.args.k.now) c.requires.at.1 c.requires.at.2 c.requires.at.0 c.requires.empty (x1.0.some c.in-Some.call c.in-Some.is)) }

pub returns-in-None : goal.returns-in-None
returns-in-None g c =
    let k0 = g.K.Desk.kern c.args.k.now in
    let r1 = c.in_ok-slot.ensures in
    let x1 = r1.gives _ refl in
    did_then r1.after c.clear.ensures (λ y e f. record { calm = calm_then (same_box k0 x1.1) f.calm; gave = give_pre 1 (g.K.Desk.kern c.clear.new.k) (g.K.Desk.seen c.clear.new.k) r1.after f.gave }) (omega arith)

pub returns-in-Some : goal.returns-in-Some
returns-in-Some g c =
    let k0 = g.K.Desk.kern c.args.k.now in
    let r1 = c.in_ok-slot.ensures in
    let x1 = r1.gives _ refl in
    did_then r1.after c.serve.ensures (λ y e f. record { calm = calm_then (same_box k0 x1.1) f.calm; gave = give_pre 1 (g.K.Desk.kern c.serve.new.k) (g.K.Desk.seen c.serve.new.k) r1.after f.gave }) (omega arith)
