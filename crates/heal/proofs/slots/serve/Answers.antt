use Rattle.std.proofs.Common.{Ok, refl, ◌∙◌, sym, subst, arith}
use Rattle.heal.specs.declared.decision.Moment.{Moment}
use Rattle.heal.specs.Deciding.{Decides}
use Rattle.heal.proofs.Steps.{after_then, did_then}
use Rattle.heal.proofs.Sweeping.{give_pre}
use Rattle.heal.proofs.Ending.{refused_moment}
use Rattle.heal.proofs.slots.serve.Goals as goal
use Rattle.heal.proofs.slots.serve.Goals.{in-Ok, in-Err-Refused}

pub pass-requires-clause-waits : goal.pass-requires-clause-waits
pass-requires-clause-waits g c =
    let d = rw c.in-Err-Waits.field-0-is at c.in-Err-Waits.ensures in
    (c.args.call, (d.gives _ refl).0)

pub returns-in-Err-Waits : goal.returns-in-Err-Waits
returns-in-Err-Waits g c =
    let d = rw c.in-Err-Waits.field-0-is at c.in-Err-Waits.ensures in
    did_then d.after c.pass.ensures (λ _ _ y. record { calm = record { sweeping = y.calm.sweeping; boxes = y.calm.boxes ∙ (d.gives _ refl).1 }; gave = give_pre 1 (g.K.Desk.kern c.pass.new.k) (g.K.Desk.seen c.pass.new.k) d.after y.gave }) (omega arith)

pub finish-requires-clause-decided : goal.finish-requires-clause-decided
finish-requires-clause-decided g c =
    let K = g.K.Desk.kern in
    let S = g.K.Desk.seen in
    let D = λ (m : Moment). Decides 10 c.args.p c.args.call (K c.args.k.now) (S c.args.k.now) (Ok m) (K c.decide.new.k) (S c.decide.new.k) in
    let d : D c.match-decide.moment = elim c.match-decide.branch [ in-Ok w ↦ subst D (sym w.moment-is) w.in-Ok.ensures | in-Err-Refused w ↦ subst D (sym w.moment-is) (refused_moment w.in-Err-Refused.refusal _ w.from-moment.ensures (rw w.in-Err-Refused.field-0-is at w.in-Err-Refused.ensures)) ] in
    (c.args.call, (d.gives _ refl).0)

pub returns : goal.returns
returns g c =
    let K = g.K.Desk.kern in
    let S = g.K.Desk.seen in
    let D = λ (m : Moment). Decides 10 c.args.p c.args.call (K c.args.k.now) (S c.args.k.now) (Ok m) (K c.decide.new.k) (S c.decide.new.k) in
    let d : D c.match-decide.moment = elim c.match-decide.branch [ in-Ok w ↦ subst D (sym w.moment-is) w.in-Ok.ensures | in-Err-Refused w ↦ subst D (sym w.moment-is) (refused_moment w.in-Err-Refused.refusal _ w.from-moment.ensures (rw w.in-Err-Refused.field-0-is at w.in-Err-Refused.ensures)) ] in
    let y = c.in_ok-finish.ensures.gives _ refl in
    did_then (after_then d.after c.in_ok-finish.ensures.after) c.tell.ensures (λ _ _ t. record { calm = record { sweeping = t.sweeping; boxes = t.boxes ∙ (y.boxes ∙ (d.gives _ refl).1) }; gave = λ a i. c.tell.ensures.after.kept _ (give_pre 1 (K c.finish.new.k) (S c.finish.new.k) d.after y.gave a i) }) (omega arith)
