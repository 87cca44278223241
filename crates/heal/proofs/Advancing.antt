-- The sweep goes on.
-- Assumes nothing.
use Rattle.std.proofs.Common.{◌≡◌, ℕ, ◌+◌, ◌-◌, ◌<◌, ◌≤◌, Bool, true, false, T, not, List, Option, None, Some, sym, ◌∙◌, subst₂, arith}
use Rattle.std.proofs.lemmas.Bool.Decides.{nat_tests as tests}
use Rattle.heal.specs.declared.sweep.Sweep.{Sweep}
use Rattle.heal.specs.declared.sweep.Sweep.TheVariants.{Rests, At, Owes}
use Rattle.heal.specs.Kernel.{Event, Kern, kept}
use Rattle.heal.specs.Journal.{viewed}
use Rattle.heal.specs.Ready.{has, First, FirstFrom}
use Rattle.heal.specs.Sweep.{sweep_of, word_of, slot_of}
use Rattle.heal.specs.Turn.{Exact, Keeps, Calm, Advanced}
use Rattle.heal.proofs.Steps.{put_box}
use Rattle.heal.proofs.Sweeping.{put_here}

-- what the number in the cell says, and nothing of it is lost
pub word_back : (w : ℕ) → word_of (sweep_of w) ≡ w
word_back w = grind (arith, tests)

pub at_slot : {p w : ℕ} → At p ≡ sweep_of w → (w ≡ p) × (0 < p) × (p < 64)
at_slot {p = p} {w = w} e = grind (arith, tests)

pub owes_is : {p w : ℕ} → Owes p ≡ sweep_of w → w ≡ 64 + p
owes_is {p = p} {w = w} e = grind (arith, tests)

pub rests_at : {w : ℕ} → Rests ≡ sweep_of w → w ≡ 0
rests_at {w = w} e = grind (arith, tests)

-- a put that keeps what holds, at another count of asks
pub may_put : (c x : ℕ) (k : Kern) {l : Kern} {es fs : List Event} → Exact (viewed k) es l fs → Keeps (viewed k) es (kept c x (viewed k)) es → Keeps (viewed l) fs (kept c x (viewed l)) fs
may_put c x k e h = subst₂ (λ κ gs. Keeps κ gs (kept c x κ) gs) (sym e.is) (sym e.same) h

pub calm_advanced : {p : ℕ} {k l : Kern} {es fs : List Event} → Advanced p k es l fs → Calm k l
calm_advanced {k = k} {l = l} {es = es} {fs = fs} a = record { sweeping = (let z = put_here 32 a.to k l es fs a.exact in let b = a.first.below in omega arith); boxes = put_box 32 a.to k a.exact }

pub calm_then : {k l m : Kern} → l.box ≡ k.box → Calm l m → Calm k m
calm_then b c = record { sweeping = c.sweeping; boxes = c.boxes ∙ b }

pub calm_at : {at : Sweep} {w : ℕ} → at ≡ sweep_of w → ((p : ℕ) → at ≡ Owes p → ⊥) → w < 64
calm_at {at = at} {w = w} e n = let h = n (w - 64) in grind (arith, tests)

pub over_at : {at : Sweep} {w : ℕ} → at ≡ sweep_of w → ((p : ℕ) → at ≡ At p → ⊥) → w < 64 → w ≡ 0
over_at {at = at} {w = w} e n l = let h = n w in grind (arith, tests)

both : (b : Bool) → T b → T (not b) → ⊥
both true t f = f
both false t f = t

le_unless : (p w : ℕ) → (p < w → ⊥) → w ≤ p
le_unless p w h = omega arith

-- the number that the cell gets from the next slot
pub next_word : (c m : ℕ) (o : Option ℕ) → 0 < c → First c m o → FirstFrom c m (word_of (slot_of o))
next_word c m None l h = record { below = omega arith; from' = λ z. absurd (omega arith); in' = λ z. absurd (omega arith); before = λ p a b i. absurd (both (has p m) i (h p a b)) }
next_word c m (Some w) l h =
    record {
      below = h.1;
      from' = λ _. h.0;
      in' = λ _. h.2;
      before = λ p a b i. (omega (arith, h.0), le_unless p w (λ z. both (has p m) i (h.3 p a z)));
    }
