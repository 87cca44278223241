-- What a write to an array of the machine does to what the array means.
use Rattle.std.proofs.Common.{◌≡◌, ℕ, zero, suc, ◌+◌, ◌<◌, Bool, true, false, cond, ◌&&◌, eqb, ltb, List, [], ◌∷◌, length, get_or, set, sym, refl, ap, ◌∙◌, ⊎_elim, arith, get_or-set_other, get_or-set_same}
use mathlib.Core.Path.{fun_ext}
use Rattle.std.specs.List.{slice_get}
use Rattle.std.proofs.lemmas.List.{get_or_default}
use Rattle.heal.specs.declared.Msg.{Msg}
use Rattle.std.proofs.lemmas.Bool.{cond-true, cond-false, eq-eqb, ne_eqb, lt-ltb, cases_eq, and_left, and_right, and_from, and_parts, cases_Bool, ltb-true}
use Rattle.std.proofs.lemmas.Bool.Decides.{nat_tests}
use Rattle.heal.specs.Kernel.{cells_of, key_at}
use Rattle.memory.specs.declared.program.Program.{Program}
use Rattle.memory.specs.Memory.{base_of, inside, box_of, cell_of, no_program, program_at, runs_of, waits_of, number_of}
use Rattle.memory.specs.Programs.{pending_of}

pub get_or_set_is : {A : Type 0} (l : List A) (i : ℕ) (a d : A) → i < length l → (j : ℕ) → get_or (set l i a) j d ≡ cond (eqb j i) a (get_or l j d)
get_or_set_is l i a d h j =
    ⊎_elim
    (λ e. (ap (λ k. get_or (set l i a) k d) e ∙ get_or-set_same l i a d h) ∙ sym (cond-true (eqb j i) a (get_or l j d) (eq-eqb j i e)))
    (λ ne. get_or-set_other l i j a d ne ∙ sym (cond-false (eqb j i) a (get_or l j d) (ne_eqb j i ne)))
    (cases_eq j i)

pub cond_of : {A B : Type 0} (f : A → B) (b : Bool) (x y : A) → f (cond b x y) ≡ cond b (f x) (f y)
cond_of f true x y = refl
cond_of f false x y = refl

-- what is written again where it stands already
pub set_again : {A : Type 0} (f : ℕ → A) (p : ℕ) (x : A) → f p ≡ x → f ≡ (λ j. cond (eqb j p) x (f j))
set_again f p x e =
    fun_ext (λ j.
    ⊎_elim
    (λ (q : j ≡ p). (ap f q ∙ e) ∙ sym (cond-true (eqb j p) x (f j) (eq-eqb j p q)))
    (λ ne. sym (cond-false (eqb j p) x (f j) (ne_eqb j p ne)))
    (cases_eq j p))

-- a program is written: what of it is new, and what stays
pub runs_set : (ps : List Program) (p : ℕ) (q : Program) → p < length ps → runs_of (set ps p q) ≡ (λ j. cond (eqb j p) q.runs (runs_of ps j))
unfolding runs_of
runs_set ps p q h = fun_ext (λ j. ap (λ r. r.runs) (get_or_set_is ps p q no_program h j) ∙ cond_of (λ r. r.runs) (eqb j p) q (program_at ps j))

pub waits_set : (ps : List Program) (p : ℕ) (q : Program) → p < length ps → waits_of (set ps p q) ≡ (λ j. cond (eqb j p) (pending_of q.pending) (waits_of ps j))
unfolding waits_of
waits_set ps p q h = fun_ext (λ j. ap (λ r. pending_of r.pending) (get_or_set_is ps p q no_program h j) ∙ cond_of (λ r. pending_of r.pending) (eqb j p) q (program_at ps j))

pub number_set : (ps : List Program) (p : ℕ) (q : Program) → p < length ps → number_of (set ps p q) ≡ (λ j. cond (eqb j p) q.number (number_of ps j))
unfolding number_of
number_set ps p q h = fun_ext (λ j. ap (λ r. r.number) (get_or_set_is ps p q no_program h j) ∙ cond_of (λ r. r.number) (eqb j p) q (program_at ps j))

pub runs_kept : (ps : List Program) (p : ℕ) (q : Program) → p < length ps → q.runs ≡ (program_at ps p).runs → runs_of (set ps p q) ≡ runs_of ps
unfolding runs_of
runs_kept ps p q h e = runs_set ps p q h ∙ sym (set_again (runs_of ps) p q.runs (sym e))

pub waits_kept : (ps : List Program) (p : ℕ) (q : Program) → p < length ps → q.pending ≡ (program_at ps p).pending → waits_of (set ps p q) ≡ waits_of ps
unfolding waits_of
waits_kept ps p q h e = waits_set ps p q h ∙ sym (set_again (waits_of ps) p (pending_of q.pending) (ap pending_of (sym e)))

pub number_kept : (ps : List Program) (p : ℕ) (q : Program) → p < length ps → q.number ≡ (program_at ps p).number → number_of (set ps p q) ≡ number_of ps
unfolding number_of
number_kept ps p q h e = number_set ps p q h ∙ sym (set_again (number_of ps) p q.number (sym e))

-- a box is read, or written
pub box_read : (boxes : List (List Msg)) (s : ℕ) (box : List Msg) → s < length boxes → get_or boxes s box ≡ box_of boxes s
unfolding box_of
box_read boxes s box h = get_or_default boxes s box [] h

pub box_set : (boxes : List (List Msg)) (s : ℕ) (box : List Msg) → s < length boxes → box_of (set boxes s box) ≡ (λ j. cond (eqb j s) box (box_of boxes j))
unfolding box_of
box_set boxes s box h = fun_ext (λ j. get_or_set_is boxes s box [] h j)

apart : (s a j c : ℕ) → s < 3 → a < 3 → j < cells_of s → c < cells_of a → base_of s + j ≡ base_of a + c → (s ≡ a) × (j ≡ c)
apart s a j c ls la lj lc e = (grind (arith, nat_tests), grind (arith, nat_tests))

pub cell_put : (xs : List ℕ) (a c x : ℕ) → a < 3 → c < cells_of a → base_of a + c < length xs → cell_of (set xs (base_of a + c) x) ≡ (λ s j. cond (eqb s a && eqb j c) x (cell_of xs s j))
unfolding cell_of
cell_put xs a c x la lc lt =
    fun_ext (λ s. fun_ext (λ j.
    ⊎_elim
    (λ (es : s ≡ a).
    ⊎_elim
    (λ (ej : j ≡ c).
    let here : base_of s + j ≡ base_of a + c = λ i. base_of (es i) + ej i in
    let in' : inside s j ≡ true = (λ i. inside (es i) (ej i)) ∙ and_from (ltb a 3) (ltb c (cells_of a)) (lt-ltb a 3 la) (lt-ltb c (cells_of a) lc) in
    (cond-true (inside s j) _ 0 in' ∙ (ap (λ k. get_or (set xs (base_of a + c) x) k 0) here ∙ get_or-set_same xs (base_of a + c) x 0 lt)) ∙ sym (cond-true _ x _ (and_from (eqb s a) (eqb j c) (eq-eqb s a es) (eq-eqb j c ej))))
    (λ nj. other s j (λ p. nj p.1) ∙ sym (cond-false _ x _ (and_right (eqb s a) (eqb j c) (ne_eqb j c nj))))
    (cases_eq j c))
    (λ ns. other s j (λ p. ns p.0) ∙ sym (cond-false _ x _ (and_left (eqb s a) (eqb j c) (ne_eqb s a ns))))
    (cases_eq s a)))
  where
    other : (s j : ℕ) → ((s ≡ a) × (j ≡ c) → ⊥) → cond (inside s j) (get_or (set xs (base_of a + c) x) (base_of s + j) 0) 0 ≡ cond (inside s j) (get_or xs (base_of s + j) 0) 0
    other s j ne =
        ⊎_elim
        (λ (is : inside s j ≡ true).
        let p = and_parts (ltb s 3) (ltb j (cells_of s)) is in
        ap (λ y. cond (inside s j) y 0) (get_or-set_other xs (base_of a + c) (base_of s + j) x 0 (λ e. ne (apart s a j c (ltb-true s 3 p.0) la (ltb-true j (cells_of s) p.1) lc e))))
        (λ (is : inside s j ≡ false). cond-false (inside s j) _ 0 is ∙ sym (cond-false (inside s j) _ 0 is))
        (cases_Bool (inside s j))

-- a key that was struck
pub key_is : (xs : List ℕ) (n : ℕ) → slice_get xs n ≡ key_at n xs
unfolding key_at
key_is [] n = refl
key_is (x ∷ xs) zero = refl
key_is (x ∷ xs) (suc n) = key_is xs n
