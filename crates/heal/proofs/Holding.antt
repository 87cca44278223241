-- The call in a slot.
-- Assumes nothing.
use Rattle.std.proofs.Common.{◌≡◌, ℕ, ◌<◌, ◌≤◌, cond, List, Some, None, sym, refl, ap, ◌∙◌, subst, arith}
use Rattle.heal.specs.declared.Call.{Call}
use Rattle.heal.specs.Kernel.{Event, Kern, Some', server_of}
use Rattle.heal.specs.declared.codec.CallKind.{CallKind}
use Rattle.heal.specs.declared.codec.CallKind.TheVariants as kind
use Rattle.heal.specs.Codec.{call_of, number_of, MeansCall, has_b, has_x}
use Rattle.heal.specs.Journal.{viewed}
use Rattle.heal.specs.Invariant.{Inv, nothing, last, done, call_at}
use Rattle.heal.specs.Turn.{cells, InSlot}

pub slot_none : (p : ℕ) (k : Kern) → done (cells k) p ≡ last (cells k) p → InSlot p k None
slot_none p k h = record { none = λ _. h; some = λ c e. (let z : ◌≡◌ {A = ℕ} 0 1 = cc in absurd (omega arith)) }

pub slot_some : (p : ℕ) (k : Kern) (es : List Event) (c : Call) → p < 64 → done (cells k) p < last (cells k) p → c ≡ call_at (cells k) p → Inv nothing (viewed k) es → InSlot p k (Some c)
slot_some p k es c s h e i =
    let u = (i.2.numbers k.at p s).full h in
    let n = u.0 in let d = u.1 in
    let at : server_of d ≡ k.at = u.3 in
    let w = i.2.calls p n d u.2 in
    let f = subst (λ σ. n < last ((viewed k).cell σ) p → done ((viewed k).cell σ) p ≤ n → call_at ((viewed k).cell σ) p ≡ d) at w.slot in
    let g : call_at (cells k) p ≡ d = f (omega (arith, u.4)) (omega (arith, u.4)) in
    let q : d ≡ c = sym g ∙ sym e in
    record { none = λ o. (let z : ◌≡◌ {A = ℕ} 0 1 = cc in absurd (omega arith)); some = λ x o. (let r : d ≡ x = q ∙ cc in (n, subst (λ y. k.pending p ≡ Some' n y) r u.2, subst (λ y. server_of y ≡ k.at) r at, u.4, omega (arith, u.4))) }

-- a word that calls of a kind don't have may be anything
kind_words : (k : CallKind) (a b x y z : ℕ) → call_of (number_of k) a (cond (has_b (number_of k)) b y) (cond (has_x (number_of k)) x z) ≡ call_of (number_of k) a b x
unfolding call_of
kind_words kind.Spawn a b x y z = refl
kind_words _ a b x y z = refl

-- the call of a slot's words, of which those that its kind doesn't have weren't read
pub same_words : (r : Call) (k : CallKind) (n a b x n' a' b' x' : ℕ) → r ≡ call_of (number_of k) a b x → MeansCall n k → n ≡ n' → a ≡ a' → b ≡ cond (has_b (number_of k)) b' 0 → x ≡ cond (has_x (number_of k)) x' 0 → r ≡ call_of n' a' b' x'
same_words r k n a b x n' a' b' x' e m en ea eb ex =
    e ∙ (λ i. call_of (number_of k) (ea i) (eb i) (ex i)) ∙ kind_words k a' b' x' 0 0 ∙ sym (m a' b' x') ∙ ap (λ i. call_of i a' b' x') en
