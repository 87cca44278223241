use Rattle.std.proofs.Common.{Some, false, sym, ap, refl, ◌∙◌, subst₂, arith}
use Rattle.memory.specs.Memory.{kern_of, seen_of}
use Rattle.memory.specs.Plan.{fate_of}
use Rattle.memory.specs.Planned.{Planned, over, went, fell}
use Rattle.memory.proofs.Fates.{plan_kept, had_fallen_lem, fell_before_lem}
use Rattle.memory.proofs.machine.Machine.perform.Goals as goal

pub returns-then-self : goal.returns-then-self
returns-then-self g c =
    let m = c.args.self.now in
    over _ _ (λ l fs. record { planned = had_fallen_lem _ (kern_of m) l (seen_of m) fs c.if-self.true; plan = c.fate-fate.ensures.plan })

pub returns-in-Some-Before : goal.returns-in-Some-Before
returns-in-Some-Before g c =
    let m = c.args.self.now in
    let fallen = c.fall.ensures in
    over _ _ (λ l fs.
    record {
      planned =
          subst₂ (λ k' es'. Planned (kern_of m) l (seen_of m) fs (fate_of m.plan m.at) false k' es') (sym fallen.kernel) (sym fallen.events)
          (fell_before_lem _ (kern_of m) l (seen_of m) fs c.if-self.false (sym c.fate-fate.ensures.fate ∙ (c.in-Some-Before.is ∙ ap (λ when. Some when) (rw c.in-Some-Before.is at c.in-Some-Before.field-0-is))));
      plan = plan_kept _ _ _ _ fallen.aside.0 c.fate-fate.ensures.plan;
    })

pub returns-in-None : goal.returns-in-None
returns-in-None g c =
    went _ _ _ record { kernel = refl; events = refl; plan = c.fate-fate.ensures.plan; at = refl; room = omega arith } c.if-self.false (sym c.fate-fate.ensures.fate ∙ c.in-None.is) record { shown = _; shows = refl; left = _; met = c.step.ensures; leaves = refl }

pub returns-in-Some-After : goal.returns-in-Some-After
returns-in-Some-After g c =
    let fallen = c.fall-in-Some-After.ensures in
    fell _ _ _ _ _ record { kernel = refl; events = refl; plan = c.fate-fate.ensures.plan; at = refl; room = omega arith } c.if-self.false (sym c.fate-fate.ensures.fate ∙ (c.in-Some-After.is ∙ ap (λ when. Some when) (rw c.in-Some-After.is at c.in-Some-After.field-0-is))) record { shown = _; shows = refl; left = _; met = c.step-in-Some-After.ensures; leaves = refl } fallen.kernel fallen.events
    fallen.aside.0
