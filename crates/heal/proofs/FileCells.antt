-- What the cells of the files' server say of the files and handles, and what each call makes of them.
-- Assumes nothing.
use Rattle.std.proofs.Common.{◌≡◌, ℕ, zero, suc, ◌+◌, ◌-◌, ◌*◌, ◌<◌, ◌≤◌, Bool, true, false, cond, not, ◌&&◌, ◌||◌, T, eqb, leb, ◌⊎◌, [], length, get_or, sym, refl, ap, ◌∙◌, subst, subst₂, suc-mul, arith}
use Rattle.std.proofs.lemmas.Bool.Decides.{nat_tests as tests}
use Rattle.heal.specs.declared.Call.TheVariants.{Open, Read}
use Rattle.heal.specs.declared.Answer.TheVariants.{Handle, Word}
use Rattle.heal.specs.House.{File, There, Hand, Empty, On, State, Gives, fresh, some', first, missing, words, is_on, is_empty, name_of, opened, clash, set_file, give_hand, does}
use Rattle.heal.specs.Files.{size_at, users_at, hand_at, word_at, name_in, writes_in, hand_of, size_of, sum, tally, users_from, FilesAre, opened_by}
use Rattle.heal.proofs.Lawful.{some_at}

-- sums
sum_zero : (n : ℕ) (f : ℕ → ℕ) → ((j : ℕ) → j < n → f j ≡ 0) → sum n f ≡ 0
unfolding sum
sum_zero zero f h = refl
sum_zero (suc n) f h = let r = sum_zero n f (λ j l. h j (omega arith)) in let x = h n (omega arith) in omega arith

sum_most : (n c : ℕ) (f : ℕ → ℕ) → ((j : ℕ) → f j ≤ c) → sum n f ≤ n * c
unfolding sum
sum_most zero c f h = omega arith
sum_most (suc n) c f h = let r = sum_most n c f h in let x = h n in simp suc-mul (omega arith)

sum_le : (n : ℕ) (f g : ℕ → ℕ) → ((j : ℕ) → f j ≤ g j) → sum n f ≤ sum n g
unfolding sum
sum_le zero f g h = omega arith
sum_le (suc n) f g h = let r = sum_le n f g h in let x = h n in omega arith

-- some are so, or none: the sum isn't 0, or is
sum_some : (n : ℕ) (g : ℕ → Bool) (f : ℕ → ℕ) → ((j : ℕ) → g j ≡ not (eqb (f j) 0)) → some' n g ≡ not (eqb (sum n f) 0)
unfolding sum some'
sum_some zero g f h = refl
sum_some (suc n) g f h = let r = sum_some n g f h in let x = h n in grind (arith, tests)

-- where one handle is changed
abbrev pub given : ℕ → ℕ → Hand → (ℕ → ℕ → Hand) → ℕ → ℕ → Hand
given q h x hand = λ p i. cond (eqb p q && eqb i h) x (hand p i)

module _ (f : Hand → ℕ) (q h : ℕ) (x : Hand) (hand : ℕ → ℕ → Hand) (k : ℕ) where
  row_other : (n p : ℕ) → eqb p q ≡ false → sum n (λ i. f (given q h x hand p i)) ≡ sum n (λ i. f (hand p i))
  unfolding sum
  row_other zero p e = refl
  row_other (suc n) p e = let r = row_other n p e in grind (arith, tests)

  row_above : (n : ℕ) → n ≤ h → sum n (λ i. f (given q h x hand q i)) ≡ sum n (λ i. f (hand q i))
  unfolding sum
  row_above zero l = refl
  row_above (suc n) l = let r = row_above n in grind (arith, tests)

  row_set : (n : ℕ) → h < n → sum n (λ i. f (given q h x hand q i)) + f (hand q h) ≡ sum n (λ i. f (hand q i)) + f x
  unfolding sum
  row_set zero l = grind (arith, tests)
  row_set (suc n) l = let r = row_set n in let z = row_above n in grind (arith, tests)

  col_above : (n : ℕ) → n ≤ q → sum n (λ p. sum k (λ i. f (given q h x hand p i))) ≡ sum n (λ p. sum k (λ i. f (hand p i)))
  unfolding sum
  col_above zero l = refl
  col_above (suc n) l = let r = col_above n in let z = row_other k n in grind (arith, tests)

  row_at : (n : ℕ) → n ≡ q → h < k → sum k (λ i. f (given q h x hand n i)) + f (hand q h) ≡ sum k (λ i. f (hand n i)) + f x
  row_at n e m = subst (λ j. sum k (λ i. f (given q h x hand j i)) + f (hand q h) ≡ sum k (λ i. f (hand j i)) + f x) (sym e) (row_set k m)

  col_set : (n : ℕ) → q < n → h < k → sum n (λ p. sum k (λ i. f (given q h x hand p i))) + f (hand q h) ≡ sum n (λ p. sum k (λ i. f (hand p i))) + f x
  unfolding sum
  col_set zero l m = grind (arith, tests)
  col_set (suc n) l m = let r = col_set n in let z = row_other k n in let y = row_at n in let b = col_above n in grind (arith, tests)

on_le : (n : ℕ) (x : Hand) → cond (is_on n true x) 1 0 ≤ cond (is_on n false x) 1 0
unfolding is_on
on_le n x = grind (arith, tests)

-- how many are on a file, where one handle is changed
pub tally_set : (n : ℕ) (w : Bool) (q h : ℕ) (x : Hand) (hand : ℕ → ℕ → Hand) → q < 64 → h < 8 → tally n w (given q h x hand) + cond (is_on n w (hand q h)) 1 0 ≡ tally n w hand + cond (is_on n w x) 1 0
unfolding tally
tally_set n w q h x hand l m = col_set (λ y. cond (is_on n w y) 1 0) q h x hand 8 64 l m

-- nobody is on it
pub tally_zero : (n : ℕ) (w : Bool) (hand : ℕ → ℕ → Hand) → ((p h : ℕ) → p < 64 → h < 8 → is_on n w (hand p h) ≡ false) → tally n w hand ≡ 0
unfolding tally
tally_zero n w hand z = sum_zero 64 (λ p. sum 8 (λ h. cond (is_on n w (hand p h)) 1 0)) (λ p l. sum_zero 8 (λ h. cond (is_on n w (hand p h)) 1 0) (λ h m. one (is_on n w (hand p h)) (z p h l m)))
  where
    one : (b : Bool) → b ≡ false → ◌≡◌ {A = ℕ} (cond b 1 0) 0
    one b e = grind arith

-- opened, by how many there are
tally_opened : (s : State) (n : ℕ) (w : Bool) → opened s n w ≡ not (eqb (tally n w s.hand) 0)
unfolding tally
tally_opened s n w =
    sum_some 64 (λ (p : ℕ). some' 8 (λ (h : ℕ). is_on n w (s.hand p h))) (λ p. sum 8 (λ h. cond (is_on n w (s.hand p h)) 1 0)) (λ p. sum_some 8 (λ (h : ℕ). is_on n w (s.hand p h)) (λ h. cond (is_on n w (s.hand p h)) 1 0) (λ h. one (is_on n w (s.hand p h))))
  where
    one : (b : Bool) → b ≡ not (eqb (cond b 1 0) 0)
    one b = grind (arith, tests)

-- who writes is on it
tally_le : (n : ℕ) (hand : ℕ → ℕ → Hand) → tally n true hand ≤ tally n false hand
unfolding tally
tally_le n hand = sum_le 64 (λ p. sum 8 (λ h. cond (is_on n true (hand p h)) 1 0)) (λ p. sum 8 (λ h. cond (is_on n false (hand p h)) 1 0)) (λ p. sum_le 8 (λ h. cond (is_on n true (hand p h)) 1 0) (λ h. cond (is_on n false (hand p h)) 1 0) (λ h. one (hand p h)))
  where
    one : (x : Hand) → cond (is_on n true x) 1 0 ≤ cond (is_on n false x) 1 0
    one x = on_le n x

-- 512 handles are all
tally_most : (n : ℕ) (w : Bool) (hand : ℕ → ℕ → Hand) → tally n w hand ≤ 512
unfolding tally
tally_most n w hand = sum_most 64 8 (λ p. sum 8 (λ h. cond (is_on n w (hand p h)) 1 0)) (λ p. sum_most 8 1 (λ h. cond (is_on n w (hand p h)) 1 0) (λ h. one (is_on n w (hand p h))))
  where
    one : (b : Bool) → cond b 1 0 ≤ 1
    one b = grind (arith, tests)

-- those that are so, and the first of them
pub some_none : (n : ℕ) (f : ℕ → Bool) → ((j : ℕ) → j < n → f j ≡ false) → some' n f ≡ false
unfolding some'
some_none zero f h = refl
some_none (suc n) f h = let r = some_none n f (λ j l. h j (omega arith)) in let x = h n (omega arith) in grind arith

pub first_is : (n i : ℕ) (f : ℕ → Bool) → i < n → T (f i) → ((j : ℕ) → j < i → f j ≡ false) → first n f ≡ i
unfolding first
first_is zero i f l t h = grind (arith, tests)
first_is (suc n) i f l t h = by (λ k. first_is n i f k t h) (λ k. some_at n i f k t) (λ e. some_none n f (λ j k. h j (omega (arith, e))))
  where
    by : (i < n → first n f ≡ i) → (i < n → T (some' n f)) → (i ≡ n → some' n f ≡ false) → cond (some' n f) (first n f) n ≡ i
    by a b c = grind (arith, tests)

-- only cells from 512 on mean files
pub files_same : (d e : ℕ → ℕ) (file : ℕ → File) (hand : ℕ → ℕ → Hand) → ((j : ℕ) → 512 ≤ j → e j ≡ d j) → FilesAre d file hand → FilesAre e file hand
files_same d e file hand same f =
    record {
      size = λ n l. same (size_at n) (omega arith) ∙ f.size n l;
      word = λ n i l m. same (word_at n i) (omega arith) ∙ f.word n i l m;
      short = f.short;
      held = λ p h l m. f.held p h l m ∙ ap hand_of (sym (same (hand_at p h) (omega arith)));
      named = f.named;
      there = f.there;
      users = λ n l. same (users_at n) (omega arith) ∙ f.users n l;
    }

-- at the start all cells are 0
pub files_fresh : (d : ℕ → ℕ) → ((j : ℕ) → 512 ≤ j → d j ≡ 0) → FilesAre d fresh.file fresh.hand
unfolding size_of hand_of words name_of is_empty is_on
files_fresh d z =
    record {
      size = λ n l. z (size_at n) (omega arith);
      word = λ n i l m. absurd (omega arith);
      short = λ n l. omega arith;
      held = λ p h l m. sym (ap hand_of (z (hand_at p h) (omega arith)));
      named = λ p h l m. omega arith;
      there = λ p h l m. tt;
      users = λ n l. z (users_at n) (omega arith) ∙ sym (subst₂ (λ x y. users_from x y ≡ 0) (sym (none n false)) (sym (none n true)) refl);
    }
  where
    none : (n : ℕ) (w : Bool) → tally n w (λ p h. Empty) ≡ 0
    none n w = tally_zero n w (λ p h. Empty) (λ p h l m. refl)

-- what single cells say
hand_empty : (v : ℕ) (x : Hand) → x ≡ hand_of v → is_empty x ≡ eqb v 0
unfolding hand_of is_empty
hand_empty v x e = grind (arith, tests)

hand_on : (v : ℕ) (x : Hand) → x ≡ hand_of v → (v ≡ 0 → ⊥) → x ≡ On (name_in v) (writes_in v)
unfolding hand_of
hand_on v x e n = grind (arith, tests)

file_missing : (z : ℕ) (x : File) → z ≡ size_of x → missing x ≡ eqb z 0
unfolding size_of missing
file_missing z x e = grind (arith, tests)

file_length : (z : ℕ) (x : File) → z ≡ size_of x → length (words x) ≡ z - 1
unfolding size_of words
file_length z x e = grind (arith, tests)

users_any : (all writers u : ℕ) → writers ≤ all → u ≡ users_from all writers → not (eqb all 0) ≡ not (eqb u 0)
users_any all writers u l e = grind (arith, tests)

users_write : (all writers u : ℕ) → u ≡ users_from all writers → not (eqb writers 0) ≡ eqb u 1
users_write all writers u e = grind (arith, tests)

pub named_from : (x : Hand) (n : ℕ) (w : Bool) → x ≡ On n w → name_of x < 64 → n < 64
unfolding name_of
named_from x n w e l = grind (arith, tests)

pub there_from : (file : ℕ → File) (x : Hand) (n : ℕ) (w : Bool) → x ≡ On n w → T (is_empty x || not (missing (file (name_of x)))) → missing (file n) ≡ false
unfolding name_of is_empty
there_from file x n w e l = grind (arith, tests)

there_size : (z : ℕ) (x : File) → z ≡ size_of x → missing x ≡ false → 0 < z
unfolding size_of missing
there_size z x e m = grind (arith, tests)

short_size : (z : ℕ) (x : File) → z ≡ size_of x → length (words x) ≤ 256 → z ≤ 257
unfolding size_of words
short_size z x e m = grind (arith, tests)

-- what a call comes to, by what it asks of the state
module _ (k p : ℕ) (s : State) where
  open_state : (b : Bool) (n : ℕ) (w : Bool) (e : ℕ) → give_hand p e (On n w) (cond b (set_file n (There []) s) s) ≡
      give_hand p e (On n w) (record { proc = s.proc; on = s.on; now' = s.now'; file = λ m. cond (b && eqb m n) (There []) (s.file m); hand = s.hand; owner = s.owner; screen = s.screen; keys = s.keys; heard = s.heard })
  open_state true n w e = refl
  open_state false n w e = refl

  pub does_open_first : (n : ℕ) (w : Bool) → n < 64 → (missing (s.file n) && not w) ≡ false → clash s n w ≡ false → some' 8 (λ (h : ℕ). is_empty (s.hand p h)) ≡ true →
      does k s p (Open n w) ≡ Gives (Handle (first 8 (λ (h : ℕ). is_empty (s.hand p h)))) (give_hand p (first 8 (λ (h : ℕ). is_empty (s.hand p h))) (On n w) (cond (missing (s.file n)) (set_file n (There []) s) s))
  unfolding does
  does_open_first n w l a b c = grind (arith, tests)

  pub does_open : (n : ℕ) (w : Bool) (e : ℕ) → n < 64 → (missing (s.file n) && not w) ≡ false → clash s n w ≡ false → some' 8 (λ (h : ℕ). is_empty (s.hand p h)) ≡ true → first 8 (λ (h : ℕ). is_empty (s.hand p h)) ≡ e → does k s p (Open n w) ≡ Gives (Handle e) (opened_by p e n w s)
  does_open n w e l a b c g =
      does_open_first n w l a b c ∙ ap (λ j. Gives (Handle j) (give_hand p j (On n w) (cond (missing (s.file n)) (set_file n (There []) s) s))) g ∙ ap (λ t. Gives (Handle e) t) (open_state (missing (s.file n)) n w e)

  pub does_read : (h a n : ℕ) (w : Bool) → h < 8 → s.hand p h ≡ On n w → a < length (words (s.file n)) → does k s p (Read h a) ≡ Gives (Word (get_or (words (s.file n)) a 0)) s
  unfolding does is_empty name_of
  does_read h a n w l e z = grind (arith, tests)

-- tests
pub holds : {b : Bool} → b ≡ true → T b
holds e = grind (arith, tests)

pub true_from : {b : Bool} → T b → b ≡ true
true_from {b = true} t = refl
true_from {b = false} t = absurd t

pub may_open : (b w : Bool) (z : ℕ) → b ≡ eqb z 0 → (z ≡ 0 → ⊥) ⊎ (w ≡ true) → (b && not w) ≡ false
may_open b w z e h = grind (arith, tests)

pub clash_true : (b w : Bool) (u : ℕ) → b ≡ cond w (not (eqb u 0)) (eqb u 1) → ((w ≡ true) × (u ≡ 0 → ⊥)) ⊎ ((w ≡ false) × (u ≡ 1)) → b ≡ true
clash_true b w u e h = grind (arith, tests)

pub clash_false : (b w : Bool) (u : ℕ) → b ≡ cond w (not (eqb u 0)) (eqb u 1) → ((w ≡ true) × (u ≡ 0)) ⊎ ((w ≡ false) × (u ≡ 1 → ⊥)) → b ≡ false
clash_false b w u e h = grind (arith, tests)

pub no_handle_from : (b : Bool) (h v : ℕ) → (h < 8 → b ≡ eqb v 0) → (8 ≤ h) ⊎ (v ≡ 0) → (leb 8 h || b) ≡ true
no_handle_from b h v e a = grind (arith, tests)

pub past : (y z a : ℕ) → y ≡ z - 1 → 0 < z → (z < a + 1) ⊎ (256 ≤ a) → (y < a) ⊎ (256 ≤ a)
past y z a e l h = grind (arith, tests)

module _ (s : State) (d : ℕ → ℕ) (f : FilesAre d s.file s.hand) where
  -- who has it open, by its cell
  pub any_open : (n : ℕ) → n < 64 → opened s n false ≡ not (eqb (d (users_at n)) 0)
  any_open n l = tally_opened s n false ∙ users_any (tally n false s.hand) (tally n true s.hand) (d (users_at n)) (tally_le n s.hand) (f.users n l)

  -- a writer has it open, by its cell
  pub writer_open : (n : ℕ) → n < 64 → opened s n true ≡ eqb (d (users_at n)) 1
  writer_open n l = tally_opened s n true ∙ users_write (tally n false s.hand) (tally n true s.hand) (d (users_at n)) (f.users n l)

  -- a cell of users is small
  pub users_small : (n : ℕ) → n < 64 → d (users_at n) ≤ 513
  users_small n l = let e = f.users n l in let z = tally_most n false s.hand in small (tally n false s.hand) (tally n true s.hand) (d (users_at n)) e z
    where
      small : (all writers u : ℕ) → u ≡ users_from all writers → all ≤ 512 → u ≤ 513
      small all writers u e z = grind (arith, tests)

  -- whether Open would clash
  pub clash_at : (n : ℕ) (w : Bool) → n < 64 → clash s n w ≡ cond w (not (eqb (d (users_at n)) 0)) (eqb (d (users_at n)) 1)
  clash_at n true l = any_open n l
  clash_at n false l = writer_open n l

  -- whether a file is missing
  pub missing_at : (n : ℕ) → n < 64 → missing (s.file n) ≡ eqb (d (size_at n)) 0
  missing_at n l = file_missing (d (size_at n)) (s.file n) (f.size n l)

  -- how long a file is
  pub length_at : (n : ℕ) → n < 64 → length (words (s.file n)) ≡ d (size_at n) - 1
  length_at n l = file_length (d (size_at n)) (s.file n) (f.size n l)

  -- whether a handle is empty
  pub empty_at : (p h : ℕ) → p < 64 → h < 8 → is_empty (s.hand p h) ≡ eqb (d (hand_at p h)) 0
  empty_at p h l m = hand_empty (d (hand_at p h)) (s.hand p h) (f.held p h l m)

  -- what a handle that isn't empty is on
  pub on_at : (p h v : ℕ) → p < 64 → h < 8 → d (hand_at p h) ≡ v → (v ≡ 0 → ⊥) → s.hand p h ≡ On (name_in v) (writes_in v)
  on_at p h v l m e n = hand_on v (s.hand p h) (f.held p h l m ∙ ap hand_of e) n

  -- a handle is on one of the 64 files, which is there
  pub handle_bounds : (p h v : ℕ) → p < 64 → h < 8 → d (hand_at p h) ≡ v → (v ≡ 0 → ⊥) → (name_in v < 64) × (0 < d (size_at (name_in v))) × (d (size_at (name_in v)) ≤ 257)
  handle_bounds p h v l m e n =
      let x = on_at p h v l m e n in
      let a = named_from (s.hand p h) (name_in v) (writes_in v) x (f.named p h l m) in
      let b = there_from s.file (s.hand p h) (name_in v) (writes_in v) x (f.there p h l m) in
      (a, there_size (d (size_at (name_in v))) (s.file (name_in v)) (f.size (name_in v) a) b, short_size (d (size_at (name_in v))) (s.file (name_in v)) (f.size (name_in v) a) (f.short (name_in v) a))
