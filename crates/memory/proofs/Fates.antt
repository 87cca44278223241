-- What an ask does by its fate, from what was done.
use Rattle.std.proofs.Common.{◌≡◌, ℕ, Bool, true, false, cond, eqb, List, [], ◌∷◌, ◌++◌, length, is_ok, Option, Some, None, Ok, Result, sym, refl, ap, ◌∙◌, subst, subst₂}
use Rattle.std.proofs.lemmas.Bool.{false≢true}
use Rattle.heal.specs.declared.Down.{Down}
use Rattle.heal.specs.declared.Msg.{Msg}
use Rattle.heal.specs.Kernel.{Kern, Event, Does, stands, falls_before, falls_after, counted, with_fell, with_box, with_runs, with_screen, set, sent, has_room, answered, is_call, showed, None'}
use Rattle.memory.specs.declared.plan.When.{When}
use Rattle.memory.specs.declared.plan.When.TheVariants.{Before, After}
use Rattle.memory.specs.declared.machine.Machine.{Machine}
use Rattle.memory.specs.declared.plan.Plan.{Plan}
use Rattle.memory.specs.Memory.{kern_of, seen_of}
use Rattle.memory.specs.Plan.{PlanAsked}
use Rattle.memory.specs.Planned.{Planned, stood, fell_before, fell_after, had_fallen, AsPlanned, Ready, Asked, over, went, fell}

-- so it does what a server may expect
pub does : {k l : Kern} {es fs : List Event} {fate : Option When} {ok : Bool} {k' : Kern} {es' : List Event} → Planned k l es fs fate ok k' es' → Does k l es fs ok k' es'
does (stood e) = stands e
does (fell_before e) = falls_before
does (fell_after e) = falls_after e
does (had_fallen fate e) = falls_before

pub plan_kept : (p : Plan) (at : ℕ) (q r : Plan) → r ≡ q → PlanAsked p at q → PlanAsked p at r
plan_kept p at q r e a = rw e a

-- what is asked of m is done as planned, where each step does f to the kernel and g to the events
pub as_planned : {A : Type 0} {Step : Machine → A → Machine → Type 0} {m : Machine} {r : Result A Down} {m' : Machine} (f : Kern → Kern) (g : Kern → List Event → List Event) → Asked Step m r m' →
    ((k : Kern) → f (counted k) ≡ counted (f k)) → ((k : Kern) (es : List Event) → g (counted k) es ≡ g k es) →
    ((n n' : Machine) (x : A) → Ready m n → Step n x n' → (kern_of n' ≡ f (kern_of n)) × ((seen_of n' ≡ g (kern_of n) (seen_of n)) × (n'.plan ≡ n.plan))) → AsPlanned m (f (kern_of m)) (g (kern_of m) (seen_of m)) (is_ok r) m'
as_planned f g (over d m' h) fc gc k = h _ _
as_planned {m = m} f g (went n x m' ready up fate step) fc gc k =
    let e = k n m' x ready step in
    let kernel : kern_of m' ≡ counted (f (kern_of m)) = e.0 ∙ (ap f ready.kernel ∙ fc (kern_of m)) in
    let events : seen_of m' ≡ g (kern_of m) (seen_of m) = e.1.0 ∙ ((λ i. g (ready.kernel i) (ready.events i)) ∙ gc (kern_of m) (seen_of m)) in
    record {
      planned =
          subst (λ fate. Planned (kern_of m) (f (kern_of m)) (seen_of m) (g (kern_of m) (seen_of m)) fate true (kern_of m') (seen_of m')) (sym fate)
          (subst₂ (λ k' es'. Planned (kern_of m) (f (kern_of m)) (seen_of m) (g (kern_of m) (seen_of m)) None true k' es') (sym kernel) (sym events) (stood up));
      plan = plan_kept _ _ _ _ e.1.1 ready.plan;
    }
as_planned {m = m} f g (fell d n x n' m' ready up fate step fallen seen plan) fc gc k =
    let e = k n n' x ready step in
    let kernel : kern_of m' ≡ counted (with_fell true (f (kern_of m))) = fallen ∙ ap (with_fell true) (e.0 ∙ (ap f ready.kernel ∙ fc (kern_of m))) in
    let events : seen_of m' ≡ g (kern_of m) (seen_of m) = seen ∙ (e.1.0 ∙ ((λ i. g (ready.kernel i) (ready.events i)) ∙ gc (kern_of m) (seen_of m))) in
    record {
      planned =
          subst (λ fate. Planned (kern_of m) (f (kern_of m)) (seen_of m) (g (kern_of m) (seen_of m)) fate false (kern_of m') (seen_of m')) (sym fate)
          (subst₂ (λ k' es'. Planned (kern_of m) (f (kern_of m)) (seen_of m) (g (kern_of m) (seen_of m)) (Some After) false k' es') (sym kernel) (sym events) (fell_after up));
      plan = plan_kept _ _ _ _ (plan ∙ e.1.1) ready.plan;
    }

-- what each step hands back of the kernel is handed back
pub value_is : {A : Type 0} {Step : Machine → A → Machine → Type 0} {m : Machine} {r : Result A Down} {m' : Machine} (v : Kern → A) → Asked Step m r m' → ((k : Kern) → v (counted k) ≡ v k) →
    ((n n' : Machine) (x : A) → Ready m n → Step n x n' → x ≡ v (kern_of n)) → is_ok r ≡ true → r ≡ Ok (v (kern_of m))
value_is v (over d m' h) vc k e = absurd (false≢true e)
value_is {m = m} v (went n x m' ready up fate step) vc k e = ap Ok (k n m' x ready step ∙ (ap v ready.kernel ∙ vc (kern_of m)))
value_is v (fell d n x n' m' ready up fate step fallen seen plan) vc k e = absurd (false≢true e)

counted_cond : (b : Bool) (k l : Kern) → cond b (counted k) (counted l) ≡ counted (cond b k l)
counted_cond true k l = refl
counted_cond false k l = refl

-- what is done once it's counted is counted once it's done
pub sent_counted : (to : ℕ) (m : Msg) (k : Kern) → sent to m (counted k) ≡ counted (sent to m k)
sent_counted to m k = counted_cond (has_room to k) (with_box (set to (k.box to ++ (m ∷ [])) k.box) k) k

pub answered_counted : (p n : ℕ) (k : Kern) → answered p n (counted k) ≡ counted (answered p n k)
answered_counted p n k = counted_cond (is_call n (k.pending p)) (with_runs k.runs (set p None' k.pending) k) k

pub showed_counted : (place x : ℕ) (k : Kern) → showed place x (counted k) ≡ counted (showed place x k)
showed_counted place x k = counted_cond (eqb place (length k.screen)) (with_screen (k.screen ++ (x ∷ [])) k.keys k) k

pub had_fallen_lem : (fate : Option When) (k l : Kern) (es fs : List Event) → k.fell ≡ true → Planned k l es fs fate false (counted k) es
had_fallen_lem fate k l es fs e = subst (λ b. Planned k l es fs fate false (with_fell b (counted k)) es) (sym e) (had_fallen fate e)

pub fell_before_lem : (fate : Option When) (k l : Kern) (es fs : List Event) → k.fell ≡ false → fate ≡ Some Before → Planned k l es fs fate false (counted (with_fell true k)) es
fell_before_lem fate k l es fs e f = rw f (fell_before e)
