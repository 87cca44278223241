use Rattle.std.proofs.Common.{true, sym, refl, ap, ◌∙◌, subst, is_ok, arith}
use Rattle.heal.specs.Sweep.{sweep_of}
use Rattle.heal.specs.Turn.{After}
use Rattle.heal.proofs.Steps.{able, after_then, did_then, did_lost, same_cells}
use Rattle.heal.proofs.Turning.{worked_exact, credits}
use Rattle.heal.proofs.slots.proceed.Given.{Over}
use Rattle.heal.proofs.slots.proceed.Goals as goal
use Rattle.heal.proofs.slots.proceed.Goals.{In_ok-begin}

begun : (g : Over) (c : In_ok-begin g) → After 711 (g.K.Desk.kern c.args.k.now) (g.K.Desk.seen c.args.k.now) true (g.K.Desk.kern c.begin.new.k) (g.K.Desk.seen c.begin.new.k)
begun g c = after_then (after_then c.in_ok-at.ensures.after c.in_ok-drain.ensures.after) c.in_ok-begin.ensures.after

pub returns-in_err-begin : goal.returns-in_err-begin
returns-in_err-begin g c =
    did_lost c.from_residual-in_err-begin.ensures.0 (after_then (after_then c.in_ok-at.ensures.after c.in_ok-drain.ensures.after) c.in_err-begin.ensures.after) (omega arith)

pub work-requires-clause-able : goal.work-requires-clause-able
work-requires-clause-able g c = able c.requires.able (begun g (goal.at.work-requires-clause-able g c).In_ok-begin) 2880 (omega arith)

pub returns-in_err-work : goal.returns-in_err-work
returns-in_err-work g c =
    did_lost c.from_residual-in_err-work.ensures.0 (after_then (begun g (goal.at.returns-in_err-work g c).In_ok-begin) c.in_err-work.ensures.after) (omega arith)

pub find_sweep-requires : goal.find_sweep-requires
find_sweep-requires g c =
    record { able = able c.requires.able (after_then (begun g (goal.at.find_sweep-requires g c).In_ok-begin) c.in_ok-work.ensures.after) 1 (omega arith) }

pub returns-in_err-at-2 : goal.returns-in_err-at-2
returns-in_err-at-2 g c =
    did_lost c.from_residual-in_err-at-2.ensures.0 (after_then (after_then (begun g (goal.at.returns-in_err-at-2 g c).In_ok-begin) c.in_ok-work.ensures.after) c.in_err-at-2.ensures.after) (omega arith)

pub begin-requires-2-clause-able : goal.begin-requires-2-clause-able
begin-requires-2-clause-able g c =
    able c.requires.able (after_then (begun g (goal.at.begin-requires-2-clause-able g c).In_ok-begin) (after_then c.in_ok-work.ensures.after c.in_ok-at-2.ensures.after)) 2 (omega arith)

pub begin-requires-2-clause-here : goal.begin-requires-2-clause-here
begin-requires-2-clause-here g c =
    let x5 = c.in_ok-at-2.ensures.gives _ refl in
    x5.0 ∙ ap sweep_of (sym (ap (λ d. d 32) (same_cells (g.K.Desk.kern c.work.new.k) x5.1)))

pub begin-requires-2-clause-calm : goal.begin-requires-2-clause-calm
begin-requires-2-clause-calm g c =
    let x4 = c.in_ok-work.ensures.gives _ refl in
    let x5 = c.in_ok-at-2.ensures.gives _ refl in
    omega (arith, ap (λ d. d 32) (same_cells (g.K.Desk.kern c.work.new.k) x5.1), x4.calm.sweeping)

pub returns : goal.returns
returns g c =
    let K = g.K.Desk.kern in
    let r4 = c.in_ok-work.ensures in
    let r5 = c.in_ok-at-2.ensures in
    let A3 = begun g (goal.at.returns g c).In_ok-begin in
    let A5 = after_then r4.after r5.after in
    let w5 = worked_exact (K c.work.new.k) (r4.gives _ refl) (r5.gives _ refl).1 in
    did_then (after_then A3 A5) c.begin-2.ensures (λ y e f. credits A3 A5 w5 (subst (λ b. After 2 (K c.find_sweep.new.k) (g.K.Desk.seen c.find_sweep.new.k) b (K c.begin-2.new.k) (g.K.Desk.seen c.begin-2.new.k)) (ap is_ok e) c.begin-2.ensures.after) f.1) (omega arith)
