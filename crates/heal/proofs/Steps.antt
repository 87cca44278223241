-- How asks compose. A kernel that stands only as it is meant (under `viewed`) is explicit; the others follow from the facts.
-- Assumes nothing.
use Rattle.std.proofs.Common.{◌≡◌, ℕ, ◌+◌, ◌<◌, ◌≤◌, Bool, true, false, cond, not, eqb, List, is_ok, is_err, Ok, Err, Result, sym, refl, ap, ◌∙◌, subst, subst₂, arith}
use Rattle.heal.specs.declared.Down.{Down}
use Rattle.std.proofs.lemmas.Bool.Decides.{nat_tests as tests}
use Rattle.heal.specs.Kernel.{Event, Kern, cells_of, kept}
use Rattle.heal.specs.Journal.{viewed, Sound, Settled, with_left, Atomic, holds, lost_before, lost_after}
use Rattle.heal.specs.Invariant.{Inv, nothing}
use Rattle.heal.specs.Turn.{Able, After, Did, Exact, Keeps, cells}
use Rattle.heal.proofs.Atomics.{cells_many}

pub in_cells : (s c : ℕ) → c < 512 → c + 17 < cells_of s
in_cells s c h = let m = cells_many s in omega arith

-- of logical kernels
record Went (n : ℕ) (k : Kern) (es : List Event) (ok : Bool) (l : Kern) (fs : List Event) : Type 0 where
  seat : l.at ≡ k.at
  fell : l.fell ≡ not ok
  spent : k.left ≤ l.left + n
  kept : Keeps k es l fs

went : (n : ℕ) {k j l : Kern} {es fs gs : List Event} {ok : Bool} → k.fell ≡ false → j.at ≡ k.at → j.fell ≡ k.fell → Keeps k es j fs → Atomic n k j es fs ok l gs → Went n k es ok l gs
went n z e f h (holds m c g) = record { seat = e; fell = f ∙ z; spent = c; kept = h }
went n z e f h (lost_before m c) = record { seat = refl; fell = refl; spent = c; kept = λ a i. i }
went n z e f h (lost_after m c g) = record { seat = e; fell = refl; spent = c; kept = h }

exactly : (n : ℕ) {k j l : Kern} {es fs gs : List Event} → Atomic n k j es fs true l gs → (l ≡ with_left l.left j) × (gs ≡ fs)
exactly n (holds m c g) = (refl, refl)

-- what is done at once
pub atomic_after : (n : ℕ) (k j l : Kern) (es fs gs : List Event) (ok : Bool) → k.fell ≡ false → j.at ≡ k.at → j.fell ≡ k.fell → Keeps (viewed k) es j fs → Sound l → (ok ≡ true → Settled l) → Atomic n (viewed k) j es fs ok (viewed l) gs → After n k es ok l gs
atomic_after n k j l es fs gs ok z e f h s t d = let w = went n z e f h d in record { seat = w.seat; fell = w.fell; spent = w.spent; sound = s; settled = t; kept = w.kept }

pub atomic_did : {A : Type 0} (n : ℕ) (k j l : Kern) (es fs gs : List Event) (r : Result A Down) → k.fell ≡ false → j.at ≡ k.at → j.fell ≡ k.fell → Keeps (viewed k) es j fs → Sound l → (is_ok r ≡ true → Settled l) → Atomic n (viewed k) j es fs (is_ok r) (viewed l) gs → Did n k es r l gs (λ _. Exact j fs l gs)
atomic_did n k j l es fs gs (Ok x) z e f h s t d = record { after = atomic_after n k j l es fs gs true z e f h s t d; gives = λ y u. (let v = exactly n d in record { is = v.0; same = v.1 }) }
atomic_did n k j l es fs gs (Err x) z e f h s t d = record { after = atomic_after n k j l es fs gs false z e f h s t d; gives = λ y u. (let b : ◌≡◌ {A = ℕ} 0 1 = cc in absurd (omega arith)) }

-- more is known
pub did_and : {A : Type 0} {n : ℕ} {k l : Kern} {es fs : List Event} {r : Result A Down} {P Q : A → Type 0} → Did n k es r l fs P → ((x : A) → r ≡ Ok x → P x → Q x) → Did n k es r l fs Q
did_and d h = record { after = d.after; gives = λ x e. h x e (d.gives x e) }

pub after_then : {n m : ℕ} {k l j : Kern} {es fs gs : List Event} {b : Bool} → After n k es true l fs → After m l fs b j gs → After (n + m) k es b j gs
after_then x y = record { seat = y.seat ∙ x.seat; fell = y.fell; spent = omega (arith, x.spent, y.spent); sound = y.sound; settled = y.settled; kept = λ a i. y.kept a (x.kept a i) }

pub after_none : {k : Kern} {es : List Event} {n : ℕ} → Able n k es → After 0 k es true k es
after_none a = record { seat = refl; fell = a.stands; spent = omega arith; sound = a.sound; settled = λ _. a.settled; kept = λ a i. i }

pub after_up : {n m : ℕ} {k l : Kern} {es fs : List Event} {b : Bool} → After n k es b l fs → n ≤ m → After m k es b l fs
after_up x h = record { seat = x.seat; fell = x.fell; spent = omega (arith, x.spent); sound = x.sound; settled = x.settled; kept = x.kept }

pub did_up : {A : Type 0} {n m : ℕ} {k l : Kern} {es fs : List Event} {r : Result A Down} {P : A → Type 0} → Did n k es r l fs P → n ≤ m → Did m k es r l fs P
did_up d h = record { after = after_up d.after h; gives = d.gives }

-- it may go on
pub able : {n m : ℕ} {k l : Kern} {es fs : List Event} → Able m k es → After n k es true l fs → (t : ℕ) → t + n ≤ m → Able t l fs
able a x t h = record { some = omega (arith, a.some, x.spent); stands = x.fell; sound = x.sound; settled = x.settled refl; inv = x.kept nothing a.inv }

-- it fell, and that is handed on
pub did_lost : {A : Type 0} {n m : ℕ} {k l : Kern} {es fs : List Event} {r : Result A Down} {P : A → Type 0} → is_err r ≡ true → After n k es false l fs → n ≤ m → Did m k es r l fs P
did_lost {r = Ok x} e d h = let b : ◌≡◌ {A = ℕ} 0 1 = cc in absurd (omega arith)
did_lost {r = Err x} e d h = record { after = after_up d h; gives = λ y u. (let b : ◌≡◌ {A = ℕ} 0 1 = cc in absurd (omega arith)) }

pub did_ok : {A : Type 0} {n m : ℕ} {k l : Kern} {es fs : List Event} {x : A} {P : A → Type 0} → After n k es true l fs → P x → n ≤ m → Did m k es (Ok x) l fs P
did_ok {x = x} {P = P} d p h = record { after = after_up d h; gives = λ y u. (let e : x ≡ y = cc in subst P e p) }

-- the last call's result is handed on
pub did_then : {A : Type 0} {n m t : ℕ} {k l j : Kern} {es fs gs : List Event} {r : Result A Down} {P Q : A → Type 0} → After n k es true l fs → Did m l fs r j gs Q → ((x : A) → r ≡ Ok x → Q x → P x) → n + m ≤ t → Did t k es r j gs P
did_then x d f h = record { after = after_up (after_then x d.after) h; gives = λ y e. f y e (d.gives y e) }

-- what is known after an ask that was done
pub same_cell : (k : Kern) {l : Kern} {es fs : List Event} → Exact (viewed k) es l fs → (j : ℕ) → cells l j ≡ cells k j
same_cell k e j = ap (λ κ. κ.cell κ.at j) e.is

pub same_box : (k : Kern) {l : Kern} {es fs : List Event} → Exact (viewed k) es l fs → l.box ≡ k.box
same_box k e = ap (λ κ. κ.box) e.is

pub put_cell : (c x : ℕ) (k : Kern) {l : Kern} {es fs : List Event} → Exact (kept c x (viewed k)) es l fs → (j : ℕ) → cells l j ≡ cond (eqb j c) x (cells k j)
put_cell c x k e j = ap (λ κ. κ.cell κ.at j) e.is ∙ grind (arith, tests)

pub put_box : (c x : ℕ) (k : Kern) {l : Kern} {es fs : List Event} → Exact (kept c x (viewed k)) es l fs → l.box ≡ k.box
put_box c x k e = ap (λ κ. κ.box) e.is

-- a read, and then a put
pub read_put : (c x : ℕ) (k : Kern) {l m : Kern} {es fs gs : List Event} → Exact (viewed k) es l fs → Exact (kept c x (viewed l)) fs m gs → Exact (kept c x (viewed k)) es m gs
read_put c x k {m = m} e f = record { is = f.is ∙ ap (λ κ. with_left m.left (kept c x κ)) e.is; same = f.same ∙ e.same }

pub read_read : (k : Kern) {l m : Kern} {es fs gs : List Event} → Exact (viewed k) es l fs → Exact (viewed l) fs m gs → Exact (viewed k) es m gs
read_read k {m = m} e f = record { is = f.is ∙ ap (λ κ. with_left m.left κ) e.is; same = f.same ∙ e.same }

-- the invariant, at another count of asks
pub inv_exact : (a : ℕ → ℕ) {j l : Kern} {es fs : List Event} → Exact j es l fs → Inv a j es → Inv a (viewed l) fs
inv_exact a e i = subst₂ (λ κ gs. Inv a κ gs) (sym e.is) (sym e.same) i

pub same_cells : (k : Kern) {l : Kern} {es fs : List Event} → Exact (viewed k) es l fs → cells l ≡ cells k
same_cells k e = ap (λ κ. κ.cell κ.at) e.is
