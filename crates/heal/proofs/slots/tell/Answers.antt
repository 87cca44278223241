use Rattle.std.proofs.Common.{◌≡◌, ◌+◌, ◌-◌, sym, refl, ap, ◌∙◌, arith}
use Rattle.heal.specs.Journal.{viewed}
use Rattle.heal.specs.Invariant.{sweep, done, owed}
use Rattle.heal.specs.Turn.{cells}
use Rattle.heal.proofs.Steps.{after_then, did_then, same_cells, same_box}
use Rattle.heal.proofs.Sweeping.{told_keeps}
use Rattle.heal.proofs.Advancing.{calm_advanced, calm_then}
use Rattle.heal.proofs.slots.tell.Given.{Over}
use Rattle.heal.proofs.slots.tell.Goals as goal
use Rattle.heal.proofs.slots.tell.Goals.{In_ok-n}

-- what was read, and that nothing has changed
known : (g : Over) (c : In_ok-n g) → (cells (g.K.Desk.kern c.read.new.k) ≡ cells (g.K.Desk.kern c.args.k.now)) × (c.in_ok-n.n ≡ done (cells (g.K.Desk.kern c.read.new.k)) c.args.p) × ((g.K.Desk.kern c.read.new.k).box ≡ (g.K.Desk.kern c.args.k.now).box)
known g c =
    let k0 = g.K.Desk.kern c.args.k.now in
    let k1 = g.K.Desk.kern c.owed_answer.new.k in
    let x1 = c.in_ok-a.ensures.gives _ refl in
    let x2 = c.in_ok-n.ensures.gives _ refl in
    let q2 = same_cells k1 x2.1 in
    (q2 ∙ same_cells k0 x1.1, x2.0 ∙ sym (ap (λ f. f (128 + c.args.p)) q2), same_box k1 x2.1 ∙ same_box k0 x1.1)

pub overflow_sub-n : goal.overflow_sub-n
overflow_sub-n g c =
    let h = known g (goal.at.overflow_sub-n g c).In_ok-n in
    let k0 = g.K.Desk.kern c.args.k.now in
    omega (arith, h.1, ap (λ f. f (128 + c.args.p)) h.0, ((c.requires.able.inv.2.sweeps k0.at).owes c.args.p c.requires.owes).0)

pub answer-requires-clause-owes : goal.answer-requires-clause-owes
answer-requires-clause-owes g c = ap (λ f. f 32) (known g (goal.at.answer-requires-clause-owes g c).In_ok-n).0 ∙ c.requires.owes

pub answer-requires-clause-which : goal.answer-requires-clause-which
answer-requires-clause-which g c = ap (λ y. y - 1) (known g (goal.at.answer-requires-clause-which g c).In_ok-n).1

pub answer-requires-clause-what : goal.answer-requires-clause-what
answer-requires-clause-what g c = (c.in_ok-a.ensures.gives _ refl).0 ∙ sym (ap (λ f. owed f) (known g (goal.at.answer-requires-clause-what g c).In_ok-n).0)

pub advance-requires-clause-keeps : goal.advance-requires-clause-keeps
advance-requires-clause-keeps g c =
    let k3 = g.K.Desk.kern c.answer.new.k in
    let h = known g (goal.at.advance-requires-clause-keeps g c).In_ok-n in
    let x3 = c.in_ok-answer.ensures.gives _ refl in
    let owes : sweep (cells k3) ≡ 64 + c.args.p = ap (λ f. f 32) (x3.same ∙ h.0) ∙ c.requires.owes in
    let which = ap (λ y. y - 1) (h.1 ∙ sym (ap (λ f. f (128 + c.args.p)) x3.same)) in
    λ to f. told_keeps c.args.p to _ (viewed k3) _ owes which x3.over f

pub returns : goal.returns
returns g c =
    let h = known g (goal.at.returns g c).In_ok-n in
    let x3 = c.in_ok-answer.ensures.gives _ refl in
    let A3 = after_then (after_then c.in_ok-a.ensures.after c.in_ok-n.ensures.after) c.in_ok-answer.ensures.after in
    did_then A3 c.advance.ensures (λ y e f. calm_then (x3.boxes ∙ h.2) (calm_advanced f)) (omega arith)
