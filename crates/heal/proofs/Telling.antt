-- Asks that change nothing, and tell something.
-- Assumes nothing.
use Rattle.std.proofs.Common.{◌≡◌, true, List, is_ok, Ok, Result, sym, refl, ap, ◌∙◌}
use Rattle.heal.specs.declared.Down.{Down}
use Rattle.heal.specs.Kernel.{Event, Kern, Does}
use Rattle.heal.specs.Journal.{viewed, own, Sound, Settled, Atomic}
use Rattle.heal.specs.Turn.{Able, Did, Exact}
use Rattle.heal.proofs.Atomics.{stood, does_sound, does_viewed, does_atomic, ok_is}
use Rattle.heal.proofs.Steps.{atomic_did, did_and}

module _ {A : Type 0} (v : A) {k l : Kern} {es fs : List Event} (r : Result A Down) where
  pub told_as_meant : Able 1 k es → Sound l → (is_ok r ≡ true → Settled l) → Atomic 1 (viewed k) (viewed k) es es (is_ok r) (viewed l) fs → (is_ok r ≡ true → r ≡ Ok v) → Did 1 k es r l fs (λ x. (x ≡ v) × Exact (viewed k) es l fs)
  told_as_meant h s t d w = did_and (atomic_did 1 k (viewed k) l es es fs r h.stands refl refl (λ a i. i) s t d) (λ x e z. (ok_is x v (sym e ∙ w (ap is_ok e)), z))

  pub told_by_kernel : Able 1 k es → (is_ok r ≡ true → r ≡ Ok v) → Does k k es es (is_ok r) l fs → Did 1 k es r l fs (λ x. (x ≡ v) × Exact (viewed k) es l fs)
  told_by_kernel h w d = told_as_meant h (does_sound d h.sound h.sound) (λ e. ap (λ κ. own κ 0) (stood d e).1 ∙ h.settled) (does_atomic (does_viewed (viewed k) d refl) refl) w
