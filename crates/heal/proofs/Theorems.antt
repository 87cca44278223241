-- What is promised of the machine that never falls: one writer, the dead hold nothing, the family stands.
-- Assumes nothing.
use Rattle.std.proofs.Common.{◌≡◌, ℕ, zero, suc, ◌+◌, ◌<◌, ◌≤◌, Bool, true, false, cond, not, ◌&&◌, ◌||◌, T, eqb, ltb, refl, ap, ◌∙◌, subst, ⊎_elim, arith}
use Rattle.std.proofs.lemmas.Bool.Decides.{nat_tests as tests}
use Rattle.std.proofs.lemmas.Bool.{cases_eq}
use Rattle.heal.specs.House.{Proc, Living, Hand, Empty, State, living, nobody, parent_of, is_empty}
use Rattle.heal.specs.Promise.{OneWriter, DeadHoldNothing, FamilyStands, up}
use Rattle.heal.proofs.Lawful.{Kin}
use Rattle.heal.proofs.Standing.{lawful}

pub one_writer : OneWriter
one_writer every es s r = (lawful every es s r).held.writer

empty_from : (x : Hand) (b : Bool) → T (b || is_empty x) → T (not b) → x ≡ Empty
unfolding is_empty
empty_from x b i n = grind (arith, tests)

zero_from : (b : Bool) (o p : ℕ) → T (b || not (eqb o p) || eqb p 0) → T (not b) → o ≡ p → p ≡ 0
zero_from b o p d n e = grind (arith, tests)

pub dead_hold_nothing : DeadHoldNothing
dead_hold_nothing every es s r p n =
    let h = lawful every es s r in
    ((λ i. empty_from (s.hand p i) (living (s.proc p)) (h.held.bare p i) n), (λ e. zero_from (living (s.proc p)) s.owner p (h.desk p) n e))

-- how many of those below n are so
unfoldable count : ℕ → (ℕ → Bool) → ℕ
count zero f = 0
count (suc n) f = cond (f n) 1 0 + count n f

count_top : (n : ℕ) (f : ℕ → Bool) → count n f ≤ n
unfolding count
count_top zero f = omega arith
count_top (suc n) f = let r = count_top n f in grind (arith, tests)

count_le : (n : ℕ) (f g : ℕ → Bool) → ((q : ℕ) → T (f q) → T (g q)) → count n f ≤ count n g
unfolding count
count_le zero f g i = omega arith
count_le (suc n) f g i = let r = count_le n f g i in let j = i n in grind (arith, tests)

count_lt : (n : ℕ) (f g : ℕ → Bool) → ((q : ℕ) → T (f q) → T (g q)) → (k : ℕ) → k < n → f k ≡ false → g k ≡ true → count n f < count n g
unfolding count
count_lt zero f g i k l a b = absurd (omega arith)
count_lt (suc n) f g i k l a b = let r = count_lt n f g i k in let z = count_le n f g i in let j = i n in by (λ e. subst (λ m. f m ≡ false) e a) (λ e. subst (λ m. g m ≡ true) e b) r z j
  where
    by : (k ≡ n → f n ≡ false) → (k ≡ n → g n ≡ true) → (k < n → f k ≡ false → g k ≡ true → count n f < count n g) → count n f ≤ count n g → (T (f n) → T (g n)) → cond (f n) 1 0 + count n f < cond (g n) 1 0 + count n g
    by x y r z j = grind (arith, tests)

-- those of lower rank
abbrev lower : (ℕ → Proc) → (ℕ → ℕ) → ℕ → ℕ → Bool
lower proc rank r q = not (nobody (proc q)) && ltb (rank q) r

-- what a parent y of x is: p and q are their numbers, m and n their ranks
parent_of_lem : (x y : Proc) (p q m n : ℕ) → T (nobody x || living y) → T (nobody x || eqb p 1 || ltb n m) → T (nobody y || (ltb 0 q && ltb q 64)) → T (not (nobody x)) → (p ≡ 1 → ⊥) → T (not (nobody y)) × (n < m) × (q < 64)
unfolding nobody living
parent_of_lem x y p q m n a b c d o = (grind (arith, tests), grind (arith, tests), grind (arith, tests))

module _ (s : State) (rank : ℕ → ℕ) (top : ℕ) (h : Kin s.proc rank top) where
  parent_at : (p : ℕ) → T (not (nobody (s.proc p))) → (p ≡ 1 → ⊥) → T (not (nobody (s.proc (parent_of (s.proc p))))) × (rank (parent_of (s.proc p)) < rank p) × (parent_of (s.proc p) < 64)
  parent_at p n o = let q = parent_of (s.proc p) in parent_of_lem (s.proc p) (s.proc q) p q (rank p) (rank q) (h.live p) (h.ranks p) (h.range q) n o

  fewer : (p : ℕ) → T (not (nobody (s.proc p))) → (p ≡ 1 → ⊥) → count 64 (lower s.proc rank (rank (parent_of (s.proc p)))) < count 64 (lower s.proc rank (rank p))
  fewer p n o =
      let q = parent_of (s.proc p) in
      let z = parent_at p n o in
      count_lt 64 (lower s.proc rank (rank q)) (lower s.proc rank (rank p)) (λ j t. more (not (nobody (s.proc j))) (rank j) (rank q) (rank p) z.1 t) q z.2 (itself (not (nobody (s.proc q))) (rank q)) (there (not (nobody (s.proc q))) (rank q) (rank p) z.0 z.1)
    where
      more : (b : Bool) (x y z : ℕ) → y < z → T (b && ltb x y) → T (b && ltb x z)
      more b x y z l t = grind (arith, tests)

      itself : (b : Bool) (x : ℕ) → (b && ltb x x) ≡ false
      itself b x = grind (arith, tests)

      there : (b : Bool) (x y : ℕ) → T b → x < y → (b && ltb x y) ≡ true
      there b x y t l = grind (arith, tests)

  one_up : (n : ℕ) → up n s 1 ≡ 1
  unfolding up parent_of
  one_up zero = refl
  one_up (suc n) = ap (λ x. up n s (parent_of x)) h.one ∙ one_up n

  up_to_one : (n p : ℕ) → T (not (nobody (s.proc p))) → count 64 (lower s.proc rank (rank p)) ≤ n → up n s p ≡ 1
  unfolding up
  up_to_one zero p n l = ⊎_elim (λ e. e) (λ o. absurd (omega (arith, fewer p n o))) (cases_eq p 1)
  up_to_one (suc m) p n l =
      ⊎_elim
      (λ e. ap (up (suc m) s) e ∙ one_up (suc m))
      (λ o. up_to_one m (parent_of (s.proc p)) (parent_at p n o).0 (omega (arith, fewer p n o)))
      (cases_eq p 1)

in_range : (b : Bool) (p : ℕ) → T (b || (ltb 0 p && ltb p 64)) → T (not b) → (0 < p) × (p < 64)
in_range b p r n = (grind (arith, tests), grind (arith, tests))

lives_from : (b c : Bool) → T (b || c) → T (not b) → T c
lives_from b c r n = grind (arith, tests)

one_lives : (f : Proc) → f ≡ Living 1 true → T (living f)
unfolding living
one_lives f e = grind (arith, tests)

pub family_stands : FamilyStands
family_stands every es s r =
    let w = lawful every es s r in
    let h = w.kin in (
      one_lives (s.proc 1) h.one,
      (λ p n. (
        (in_range (nobody (s.proc p)) p (h.range p) n).0,
        (in_range (nobody (s.proc p)) p (h.range p) n).1,
        lives_from (nobody (s.proc p)) (living (s.proc (parent_of (s.proc p)))) (h.live p) n,
        up_to_one s w.rank w.top h 64 p n (count_top 64 (lower s.proc w.rank (w.rank p))),
      )),
    )
