-- How a handler ends: the server fell, the call is refused, it waits, or it has its moment.
-- Assumes nothing.
use Rattle.std.proofs.Common.{◌≡◌, ℕ, ◌+◌, ◌≤◌, true, false, List, [], Some, None, Option, ok_or, Ok, Err, Result, IsErrAnd, sym, refl, subst, subst₂, arith}
use Rattle.heal.specs.declared.Answer.{Answer}
use Rattle.heal.specs.declared.Answer.TheVariants.{No}
use Rattle.heal.specs.declared.Call.{Call}
use Rattle.heal.specs.declared.decision.Moment.{Moment}
use Rattle.heal.specs.declared.decision.Refusal.{Refusal}
use Rattle.heal.specs.declared.decision.NotDone.{NotDone}
use Rattle.heal.specs.declared.decision.NotDone.TheVariants.{Refused, Waits, Fell}
use Rattle.heal.specs.Kernel.{Kern, Event}
use Rattle.heal.specs.Journal.{viewed}
use Rattle.heal.specs.Refusal.{refusal_code}
use Rattle.heal.specs.Deciding.{Standing, Decided, Finish, Pass, Chosen, Decides, Looked}
use Rattle.heal.specs.Turn.{After, Did, Exact}
use Rattle.heal.proofs.Steps.{after_then, did_lost, did_ok, did_up, same_box, read_read}
use Rattle.heal.proofs.Finishing.{chosen_exact}

-- a look at what is asked, and one after another
pub looked : {A : Type 0} {n : ℕ} {k l : Kern} {es fs : List Event} {x : A} {P : A → Type 0} → Did n k es (Ok x) l fs (λ x. P x × Exact (viewed k) es l fs) → Looked n k es l fs
looked d = record { after = d.after; same = (d.gives _ refl).1 }

pub look_then : {n m : ℕ} {k l j : Kern} {es fs gs : List Event} → Looked n k es l fs → Looked m l fs j gs → Looked (n + m) k es j gs
look_then {k = k} x y = record { after = after_then x.after y.after; same = read_read k x.same y.same }

-- the error that a `?` hands on
pub handed_on : {A : Type 0} (P : Result A NotDone → Type 0) {s : NotDone} (r : Result A NotDone) → IsErrAnd r (λ t. t ≡ s) → P (Err s) → P r
handed_on P (Ok x) e d = absurd e
handed_on P (Err t) e d = subst (λ t. P (Err t)) (sym e) d

-- the error that stands for nothing
pub or_err : {A E : Type 0} (o : Option A) {x e : E} → ◌≡◌ {A = Result A E} (Err x) (ok_or o e) → (o ≡ None) × (x ≡ e)
or_err None h = (refl, cc)
or_err (Some y) h = let b : ◌≡◌ {A = ℕ} 0 1 = cc in absurd (omega arith)

module _ (p : ℕ) (c : Call) {n m : ℕ} {k l : Kern} {es fs : List Event} where
  -- at a `?` on what was asked of the kernel
  pub fell : (r : Result Moment NotDone) → IsErrAnd r (λ s. s ≡ Fell) → After n k es false l fs → n ≤ m → Decides m p c k es r l fs
  fell r e a h = handed_on (λ r. Decides m p c k es r l fs) r e (did_lost refl a h)

  -- at a `?` on nothing, where that is refused
  pub refused_by : (f : Refusal) (r : Result Moment NotDone) → IsErrAnd r (λ s. s ≡ Refused f) → After n k es true l fs → l.box ≡ k.box → Chosen p c (Finish (No (refusal_code f)) []) (viewed l) fs → n ≤ m → Decides m p c k es r l fs
  refused_by f r e a b x h = handed_on (λ r. Decides m p c k es r l fs) r e (did_ok a (x, b) h)

  pub refused : (f : Refusal) → After n k es true l fs → l.box ≡ k.box → Chosen p c (Finish (No (refusal_code f)) []) (viewed l) fs → n ≤ m → Decides m p c k es (Err (Refused f)) l fs
  refused f a b x h = did_ok a (x, b) h

  pub moment : (mo : Moment) (a : Answer) (ps : List (ℕ × ℕ)) → mo.answer ≡ a → mo.writes ≡ ps → After n k es true l fs → l.box ≡ k.box → Chosen p c (Finish a ps) (viewed l) fs → n ≤ m → Decides m p c k es (Ok mo) l fs
  moment mo a ps e f d b x h = did_ok d (subst₂ (λ a ps. Chosen p c (Finish a ps) (viewed l) fs) (sym e) (sym f) x, b) h

  -- where nothing that is meant has changed yet
  pub refuses : (f : Refusal) → Looked n k es l fs → Standing p c (viewed k) → Decided p c (No (refusal_code f)) [] (viewed k) es → n ≤ m → Decides m p c k es (Err (Refused f)) l fs
  refuses f x z d h = refused f x.after (same_box k x.same) (chosen_exact p c (Finish (No (refusal_code f)) []) x.same (z, d)) h

  pub ends : {mo : Moment} {b : Answer} {ps : List (ℕ × ℕ)} → mo.answer ≡ b → mo.writes ≡ ps → Looked n k es l fs → Standing p c (viewed k) → Decided p c b ps (viewed k) es → n ≤ m → Decides m p c k es (Ok mo) l fs
  ends {mo = mo} {b = b} {ps = ps} e f x z d h = moment mo b ps e f x.after (same_box k x.same) (chosen_exact p c (Finish b ps) x.same (z, d)) h

  pub passes : {s : NotDone} (r : Result Moment NotDone) → IsErrAnd r (λ t. t ≡ s) → s ≡ Waits → Looked n k es l fs → Chosen p c Pass (viewed k) es → n ≤ m → Decides m p c k es r l fs
  passes r e w x d h = handed_on (λ r. Decides m p c k es r l fs) r e (subst (λ s. Decides m p c k es (Err s) l fs) (sym w) (did_ok x.after (chosen_exact p c Pass x.same d, same_box k x.same) h))

-- a refusal as the moment that it is
pub refused_moment : {p n : ℕ} {c : Call} {k l : Kern} {es fs : List Event} (f : Refusal) (m : Moment) → (m.answer ≡ No (refusal_code f)) × (m.writes ≡ []) → Decides n p c k es (Err (Refused f)) l fs → Decides n p c k es (Ok m) l fs
refused_moment {p = p} {n = n} {c = c} {k = k} {l = l} {es = es} {fs = fs} f m e d = subst₂ (λ a ps. Did n k es (Ok (Finish a ps)) l fs (λ d. Chosen p c d (viewed l) fs × (l.box ≡ k.box))) (sym e.0) (sym e.1) d

-- what a call comes to, of the same call, with more asks
pub decided_as : {p n m : ℕ} {c d : Call} {k l : Kern} {es fs : List Event} (r : Result Moment NotDone) → Decides n p d k es r l fs → c ≡ d → n ≤ m → Decides m p c k es r l fs
decided_as {p = p} {m = m} {k = k} {l = l} {es = es} {fs = fs} r h e b = subst (λ c. Decides m p c k es r l fs) (sym e) (did_up h b)
