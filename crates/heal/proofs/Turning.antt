-- A turn.
-- Assumes nothing.
use Rattle.std.proofs.Common.{◌≡◌, ℕ, ◌≤◌, Bool, true, false, List, is_ok, is_err, Ok, Err, Result, refl, ap, ◌∙◌, subst, ⊎_elim, inl, inr, arith}
use Rattle.std.proofs.lemmas.Bool.Decides.{nat_tests as tests}
use Rattle.heal.specs.declared.Down.{Down}
use Rattle.heal.specs.Kernel.{Event, Kern}
use Rattle.heal.specs.Journal.{viewed, StillRecovered, MeansSame}
use Rattle.heal.specs.Invariant.{Inv, nothing, sweep, plus, credit}
use Rattle.heal.specs.Turn.{Able, After, Did, Exact, cells, Worked, Gives, Credits, Begun, Turned}
use Rattle.heal.proofs.Kept.{loose}
use Rattle.heal.proofs.Steps.{atomic_after, after_then, same_cells, same_box, inv_exact}

pub recovered : {k l : Kern} {es fs : List Event} {ok : Bool} → k.fell ≡ false → StillRecovered ok l → MeansSame 33 k es ok l fs → After 33 k es ok l fs
recovered {k = k} z s d = atomic_after 33 k (viewed k) _ _ _ _ _ z refl refl (λ a i. i) s.sound s.settled d

pub able_first : {k l : Kern} {es fs : List Event} → 4096 ≤ k.left → Inv nothing (viewed k) es → After 33 k es true l fs → Able 3594 l fs
able_first h i x = record { some = omega (arith, x.spent); stands = x.fell; sound = x.sound; settled = x.settled refl; inv = x.kept nothing i }

pub turned_lost : {A : Type 0} {n : ℕ} {k l : Kern} {es fs : List Event} (r : Result A Down) → is_err r ≡ true → After n k es false l fs → Turned k es (is_ok r) l fs
turned_lost (Ok x) e d = absurd (cc)
turned_lost (Err x) e d = record { seat = d.seat; fell = d.fell; sound = d.sound; kept = d.kept; gave = λ u. absurd (cc) }

pub turned : {n m : ℕ} {k l j : Kern} {es fs gs : List Event} (r : Result (Unit {0}) Down) → After n k es true l fs → Did m l fs r j gs (λ _. Credits 32 l fs j gs) → Turned k es (is_ok r) j gs
turned (Err x) a d = turned_lost {A = Unit {0}} (Err x) refl (after_then a d.after)
turned {j = j} {gs = gs} (Ok x) a d =
    let z = after_then a d.after in
    record { seat = z.seat; fell = z.fell; sound = z.sound; kept = z.kept; gave = λ u c i. subst (λ σ. Inv (credit σ 32 c) (viewed j) gs) a.seat (d.gives x refl c (a.kept c i)) }

-- the same work, seen after a read
pub worked_exact : {n : ℕ} {k : Kern} (l : Kern) {m : Kern} {es fs gs : List Event} → Worked n k es l fs → Exact (viewed l) fs m gs → Worked n k es m gs
worked_exact l w e =
    let q = ap (λ d. d 32) (same_cells l e) in
    record { calm = record { sweeping = omega (arith, q, w.calm.sweeping); boxes = same_box l e ∙ w.calm.boxes }; rests = ⊎_elim (λ s. inl (q ∙ s)) (λ h. inr (λ a i. inv_exact _ e (h a i))) w.rests }

-- the sweep rested and began anew, or there were steps enough
pub credits : {n m t : ℕ} {k0 k3 k4 l : Kern} {s0 s3 s4 fs : List Event} → After n k0 s0 true k3 s3 → After m k3 s3 true k4 s4 → Worked 32 k3 s3 k4 s4 → After t k4 s4 true l fs → (sweep (cells k4) ≡ 0 → Begun k4 s4 l fs) → Credits 32 k0 s0 l fs
credits {k0 = k0} {k3 = k3} {k4 = k4} {l = l} {s3 = s3} {s4 = s4} {fs = fs} x y w d b a i =
    ⊎_elim (λ (q : sweep (cells k4) ≡ 0). subst (λ σ. Inv (credit σ 32 a) (viewed l) fs) (y.seat ∙ x.seat) (b q a 32 (omega arith) (y.kept a (x.kept a i))))
    (λ (q : Gives 32 k3 s3 k4 s4). (let s = x.seat in loose (plus k3.at 32 a) (viewed l) fs (d.kept (plus k3.at 32 a) (q a (x.kept a i))) (credit k0.at 32 a) (λ τ. grind (arith, tests)))) w.rests
