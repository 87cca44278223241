use Rattle.std.proofs.Common.{sym, refl, ◌∙◌, arith}
use Rattle.heal.specs.declared.Call.TheVariants.{Say}
use Rattle.heal.proofs.Steps.{able, after_then, same_cell, same_box}
use Rattle.heal.proofs.Finishing.{standing_exact}
use Rattle.heal.proofs.Ending.{looked, look_then, fell, moment}
use Rattle.heal.proofs.Serving.{at_desk, counts_fit, desk_not_own}
use Rattle.heal.proofs.Deciders.{says, say_done}
use Rattle.heal.proofs.screen.say.Goals as goal

pub returns-in_err-ensure_owner : goal.returns-in_err-ensure_owner
returns-in_err-ensure_owner g c = desk_not_own c.args.p (says c.args.x) c.requires.stand _ c.in_err-ensure_owner.ensures c.from_residual.result c.from_residual.ensures.1 (omega arith)

pub read-requires-clause-able : goal.read-requires-clause-able
read-requires-clause-able g c = able c.requires.able c.in_ok-ensure_owner.ensures.0.after 1 (omega arith)

pub returns-in_err-place : goal.returns-in_err-place
returns-in_err-place g c = fell c.args.p (Say c.args.x) c.from_residual-in_err-place.result c.from_residual-in_err-place.ensures.1 (after_then c.in_ok-ensure_owner.ensures.0.after c.in_err-place.ensures.after) (omega arith)

pub show-requires : goal.show-requires
show-requires g c =
    let k0 = g.K.Desk.kern c.args.k.now in
    let z = c.requires.stand in
    let d = c.in_ok-ensure_owner.ensures in
    let x = c.in_ok-place.ensures.gives _ refl in
    let s = look_then d.0 (looked c.in_ok-place.ensures) in
    record { able = able c.requires.able s.after 1 (omega arith); two = s.after.seat ∙ at_desk k0 (says c.args.x) z; stand = standing_exact s.same z; own = same_cell k0 s.same 52 ∙ d.1; which = x.0 ∙ sym (same_cell (g.K.Desk.kern c.ensure_owner.new.k) x.1 53) }

pub returns-in_err-show : goal.returns-in_err-show
returns-in_err-show g c = fell c.args.p (Say c.args.x) c.from_residual-in_err-show.result c.from_residual-in_err-show.ensures.1 (after_then (after_then c.in_ok-ensure_owner.ensures.0.after c.in_ok-place.ensures.after) c.in_err-show.ensures.after) (omega arith)

pub overflow_add-place : goal.overflow_add-place
overflow_add-place g c =
    let k0 = g.K.Desk.kern c.args.k.now in
    let z = c.requires.stand in
    let w = counts_fit k0 (at_desk k0 (says c.args.x) z) z c.requires.able in
    let v = (c.in_ok-place.ensures.gives _ refl).0 ∙ same_cell k0 c.in_ok-ensure_owner.ensures.0.same 53 in
    omega (arith, w.0, v)

pub returns : goal.returns
returns g c =
    let k0 = g.K.Desk.kern c.args.k.now in
    let s = look_then c.in_ok-ensure_owner.ensures.0 (looked c.in_ok-place.ensures) in
    let y = c.in_ok-show.ensures.gives _ refl in
    moment c.args.p (Say c.args.x) c.new.result _ _ c.new.ensures.answer c.new.ensures.writes (after_then s.after c.in_ok-show.ensures.after) (y.1 ∙ same_box k0 s.same) (y.0.stand, say_done c.args.p _ _ y.0.two c.in_ok-place.place c.args.x y.0.stand y.0.own y.0.which y.0.len) (omega arith)
