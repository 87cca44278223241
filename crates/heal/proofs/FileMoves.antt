-- The cells that the files' server writes mean what the call makes of the files and handles.
-- Assumes nothing.
use Rattle.std.proofs.Common.{◌≡◌, ℕ, ◌+◌, ◌-◌, ◌*◌, ◌<◌, ◌≤◌, Bool, true, false, cond, not, ◌&&◌, ◌||◌, T, eqb, ◌⊎◌, List, [], ◌∷◌, ◌++◌, length, get_or, set as setList, sym, refl, ap, ◌∙◌, subst, inl, inr, ⊎_elim, arith}
use Rattle.std.proofs.lemmas.Bool.Decides.{nat_tests as tests}
use Rattle.std.proofs.lemmas.Bool.{cases_eq}
use Rattle.std.proofs.lemmas.List.{length-set, length_push, get_or-set_same, get_or-set_other, get_or_append_left, get_or_push}
use Rattle.heal.specs.House.{File, Missing, There, Hand, Empty, On, State, put, some', missing, words, is_on, is_empty, name_of, opened, write_in}
use Rattle.heal.specs.Files.{size_at, users_at, hand_at, word_at, name_in, writes_in, hand_of, size_of, tally, users_from, FilesAre, open_cells, close_cells, write_cells, remove_cells}
use Rattle.heal.proofs.Lawful.{none_at}
use Rattle.heal.proofs.FileCells.{given, tally_set, tally_zero}

-- a handle's cell, as it's written
hand_code : (n : ℕ) (w : Bool) → hand_of (1 + 2 * n + cond w 1 0) ≡ On n w
unfolding hand_of
hand_code n w = grind (arith, tests)

hand_none : Empty ≡ hand_of 0
unfolding hand_of
hand_none = refl

-- Open: x was empty
more_any : (m n : ℕ) (w : Bool) (x : Hand) (a b : ℕ) → x ≡ Empty → b + cond (is_on m false x) 1 0 ≡ a + cond (is_on m false (On n w)) 1 0 → b ≡ a + cond (eqb m n) 1 0
unfolding is_on
more_any m n w x a b e t = grind (arith, tests)

more_writer : (m n : ℕ) (w : Bool) (x : Hand) (a b : ℕ) → x ≡ Empty → b + cond (is_on m true x) 1 0 ≡ a + cond (is_on m true (On n w)) 1 0 → b ≡ a + cond (eqb m n && w) 1 0
unfolding is_on
more_writer m n w x a b e t = grind (arith, tests)

module _ (d : ℕ → ℕ) (file : ℕ → File) (hand : ℕ → ℕ → Hand) (p e n : ℕ) (w : Bool) (lp : p < 64) (le : e < 8) (ln : n < 64) where
  abbrev made : ℕ → File
  made = λ m. cond (missing (file n) && eqb m n) (There []) (file m)

  open_size : (m : ℕ) → m < 64 → d (size_at m) ≡ size_of (file m) → d (size_at n) ≡ size_of (file n) → open_cells p e n w (d (users_at n)) (d (size_at n)) d (size_at m) ≡ size_of (made m)
  unfolding size_of missing
  open_size m lm a b = grind (arith, tests)

  open_word : (m i : ℕ) → m < 64 → length (words (file m)) ≤ 256 → (i < length (words (file m)) → d (word_at m i) ≡ get_or (words (file m)) i 0) → i < length (words (made m)) → open_cells p e n w (d (users_at n)) (d (size_at n)) d (word_at m i) ≡ get_or (words (made m)) i 0
  unfolding words missing
  open_word m i lm a b c = grind (arith, tests)

  open_short : (m : ℕ) → length (words (file m)) ≤ 256 → length (words (made m)) ≤ 256
  unfolding words missing
  open_short m a = grind (arith, tests)

  open_held : (q i : ℕ) → q < 64 → i < 8 → hand q i ≡ hand_of (d (hand_at q i)) → given p e (On n w) hand q i ≡ hand_of (open_cells p e n w (d (users_at n)) (d (size_at n)) d (hand_at q i))
  open_held q i lq li a = let z = hand_code n w in grind (arith, tests)

  open_named : (q i : ℕ) → name_of (hand q i) < 64 → name_of (given p e (On n w) hand q i) < 64
  unfolding name_of
  open_named q i a = grind (arith, tests)

  open_there : (q i : ℕ) → T (is_empty (hand q i) || not (missing (file (name_of (hand q i))))) → T (is_empty (given p e (On n w) hand q i) || not (missing (made (name_of (given p e (On n w) hand q i)))))
  unfolding is_empty name_of missing
  open_there q i a = grind (arith, tests)

  -- a, r: all that have it open and its writers; b, t: the same afterwards
  open_users : (m a r b t : ℕ) → m < 64 → d (users_at m) ≡ users_from a r → ((w ≡ true) × (d (users_at n) ≡ 0)) ⊎ ((w ≡ false) × (d (users_at n) ≡ 1 → ⊥)) →
      b ≡ a + cond (eqb m n) 1 0 → t ≡ r + cond (eqb m n && w) 1 0 → open_cells p e n w (d (users_at n)) (d (size_at n)) d (users_at m) ≡ users_from b t
  open_users m a r b t lm u c x y = grind (arith, tests)

  pub open_files : FilesAre d file hand → d (hand_at p e) ≡ 0 → ((w ≡ true) × (d (users_at n) ≡ 0)) ⊎ ((w ≡ false) × (d (users_at n) ≡ 1 → ⊥)) → FilesAre (open_cells p e n w (d (users_at n)) (d (size_at n)) d) made (given p e (On n w) hand)
  open_files f z c =
      record {
        size = λ m l. open_size m l (f.size m l) (f.size n ln);
        word = λ m i l x. open_word m i l (f.short m l) (f.word m i l) x;
        short = λ m l. open_short m (f.short m l);
        held = λ q i l x. open_held q i l x (f.held q i l x);
        named = λ q i l x. open_named q i (f.named q i l x);
        there = λ q i l x. open_there q i (f.there q i l x);
        users = λ m l.
            open_users m (tally m false hand) (tally m true hand) (tally m false (given p e (On n w) hand)) (tally m true (given p e (On n w) hand)) l (f.users m l) c
            (more_any m n w (hand p e) (tally m false hand) (tally m false (given p e (On n w) hand)) x (tally_set m false p e (On n w) hand lp le))
            (more_writer m n w (hand p e) (tally m true hand) (tally m true (given p e (On n w) hand)) x (tally_set m true p e (On n w) hand lp le));
      }
    where
      x : hand p e ≡ Empty
      x = f.held p e lp le ∙ ap hand_of z ∙ sym hand_none

-- Close: x was the handle
less_any : (m n : ℕ) (w : Bool) (x : Hand) (a b : ℕ) → x ≡ On n w → b + cond (is_on m false x) 1 0 ≡ a + cond (is_on m false Empty) 1 0 → a ≡ b + cond (eqb m n) 1 0
unfolding is_on
less_any m n w x a b e t = grind (arith, tests)

less_writer : (m n : ℕ) (w : Bool) (x : Hand) (a b : ℕ) → x ≡ On n w → b + cond (is_on m true x) 1 0 ≡ a + cond (is_on m true Empty) 1 0 → a ≡ b + cond (eqb m n && w) 1 0
unfolding is_on
less_writer m n w x a b e t = grind (arith, tests)

-- nobody else has open what one writes
alone_at : (x : Hand) (n p h q i : ℕ) (v : Bool) → ((u : Bool) → x ≡ On n u → (p ≡ q) × (h ≡ i)) → is_on n v (cond (eqb q p && eqb i h) Empty x) ≡ false
unfolding is_on
alone_at Empty n p h q i v c = grind (arith, tests)
alone_at (On m u) n p h q i v c = let z : m ≡ n → (p ≡ q) × (h ≡ i) = λ e. c u (ap (λ j. On j u) e) in grind (arith, tests)

-- nobody writes what one reads
reading_at : (x : Hand) (n : ℕ) → (x ≡ On n true → ⊥) → is_on n true x ≡ false
unfolding is_on
reading_at Empty n c = refl
reading_at (On m u) n c = let z : m ≡ n → u ≡ true → ⊥ = λ e g. c (ap (λ j. On j u) e ∙ ap (λ b. On n b) g) in grind (arith, tests)

two_ways : (hand : ℕ → ℕ → Hand) (p h q i n : ℕ) → hand p h ≡ On n false → hand q i ≡ On n true → q ≡ p → i ≡ h → ⊥
two_ways hand p h q i n a b e g = let z : hand q i ≡ hand p h = ap (λ j. hand j i) e ∙ ap (λ j. hand p j) g in grind arith

was_on : (b : Bool) (x : Hand) (n : ℕ) (w : Bool) → cond b Empty x ≡ On n w → x ≡ On n w
was_on b x n w e = grind arith

module _ (d : ℕ → ℕ) (file : ℕ → File) (hand : ℕ → ℕ → Hand) (p h v : ℕ) (lp : p < 64) (lh : h < 8) where
  abbrev left : ℕ → ℕ → Hand
  left = given p h Empty hand

  close_size : (m : ℕ) → m < 64 → name_in v < 64 → close_cells p h v (d (users_at (name_in v))) d (size_at m) ≡ d (size_at m)
  close_size m lm ln = grind (arith, tests)

  close_word : (m i : ℕ) → name_in v < 64 → close_cells p h v (d (users_at (name_in v))) d (word_at m i) ≡ d (word_at m i)
  close_word m i ln = grind (arith, tests)

  close_held : (q i : ℕ) → q < 64 → i < 8 → name_in v < 64 → hand q i ≡ hand_of (d (hand_at q i)) → left q i ≡ hand_of (close_cells p h v (d (users_at (name_in v))) d (hand_at q i))
  close_held q i lq li ln a = let z = hand_none in grind (arith, tests)

  close_named : (q i : ℕ) → name_of (hand q i) < 64 → name_of (left q i) < 64
  unfolding name_of
  close_named q i a = grind (arith, tests)

  close_there : (q i : ℕ) → T (is_empty (hand q i) || not (missing (file (name_of (hand q i))))) → T (is_empty (left q i) || not (missing (file (name_of (left q i)))))
  unfolding is_empty name_of
  close_there q i a = grind (arith, tests)

  close_users : (m a r b t : ℕ) → m < 64 → name_in v < 64 → d (users_at m) ≡ users_from a r → a ≡ b + cond (eqb m (name_in v)) 1 0 → r ≡ t + cond (eqb m (name_in v) && writes_in v) 1 0 →
      (m ≡ name_in v → writes_in v ≡ true → b ≡ 0) → (m ≡ name_in v → t ≡ 0) → close_cells p h v (d (users_at (name_in v))) d (users_at m) ≡ users_from b t
  close_users m a r b t lm ln u x y all none = grind (arith, tests)

  module _ (f : FilesAre d file hand) (o : (p q h i n : ℕ) (w : Bool) → hand p h ≡ On n true → hand q i ≡ On n w → (p ≡ q) × (h ≡ i)) (x : hand p h ≡ On (name_in v) (writes_in v)) (ln : name_in v < 64) where
    close_all : writes_in v ≡ true → (w : Bool) → tally (name_in v) w left ≡ 0
    close_all e w = tally_zero (name_in v) w left (λ q i lq li. alone_at (hand q i) (name_in v) p h q i w (λ u y. o p q h i (name_in v) u (x ∙ ap (λ b. On (name_in v) b) e) y))

    close_none : (b : Bool) → writes_in v ≡ b → tally (name_in v) true left ≡ 0
    close_none true e = close_all e true
    close_none false e =
        let r : hand p h ≡ On (name_in v) false = x ∙ ap (λ b. On (name_in v) b) e in
        tally_zero (name_in v) true left
        (λ q i lq li. reading_at (left q i) (name_in v) (λ y.
        (let a = was_on (eqb q p && eqb i h) (hand q i) (name_in v) true y in
        let g = o q p i h (name_in v) false a r in
        two_ways hand p h q i (name_in v) r a g.0 g.1)))

    pub close_files : FilesAre (close_cells p h v (d (users_at (name_in v))) d) file left
    close_files =
        record {
          size = λ m l. close_size m l ln ∙ f.size m l;
          word = λ m i l y. close_word m i ln ∙ f.word m i l y;
          short = f.short;
          held = λ q i l y. close_held q i l y ln (f.held q i l y);
          named = λ q i l y. close_named q i (f.named q i l y);
          there = λ q i l y. close_there q i (f.there q i l y);
          users = λ m l.
              close_users m (tally m false hand) (tally m true hand) (tally m false left) (tally m true left) l ln (f.users m l)
              (less_any m (name_in v) (writes_in v) (hand p h) (tally m false hand) (tally m false left) x (tally_set m false p h Empty hand lp lh))
              (less_writer m (name_in v) (writes_in v) (hand p h) (tally m true hand) (tally m true left) x (tally_set m true p h Empty hand lp lh))
              (λ y e. subst (λ j. tally j false left ≡ 0) (sym y) (close_all e false))
              (λ y. subst (λ j. tally j true left ≡ 0) (sym y) (close_none (writes_in v) refl));
        }

length_from : (z : ℕ) (x : File) → z ≡ size_of x → 0 < z → length (words x) + 1 ≡ z
unfolding size_of words
length_from z x e l = grind (arith, tests)

-- Write: the words of a file, and its length
write_length : (ws : List ℕ) (a x z : ℕ) → length ws + 1 ≡ z → a + 1 ≤ z → length (write_in a x ws) ≡ cond (eqb (a + 1) z) z (z - 1)
unfolding write_in
write_length ws a x z e l = let u = length-set ws a x in let v = length_push ws x in grind (arith, tests)

write_in_lem : (ws : List ℕ) (a x i : ℕ) → a ≤ length ws → i < length (write_in a x ws) → get_or (write_in a x ws) i 0 ≡ cond (eqb i a) x (get_or ws i 0)
unfolding write_in
write_in_lem ws a x i l m =
    let u = length-set ws a x in
    let v = length_push ws x in
    let b : a < length ws → get_or (setList ws a x) a 0 ≡ x = get_or-set_same ws a x 0 in
    let c : (i ≡ a) ⊎ (get_or (setList ws a x) i 0 ≡ get_or ws i 0) = ⊎_elim inl (λ o. inr (get_or-set_other ws a i x 0 o)) (cases_eq i a) in
    let e : i < length ws → get_or (ws ++ (x ∷ [])) i 0 ≡ get_or ws i 0 = get_or_append_left ws (x ∷ []) 0 i in
    let g : length ws ≡ i → get_or (ws ++ (x ∷ [])) i 0 ≡ x = get_or_push ws x 0 i in
    grind (arith, tests)

module _ (d : ℕ → ℕ) (file : ℕ → File) (n a x : ℕ) (ln : n < 64) (la : a < 256) (z : ℕ) where
  abbrev written : ℕ → File
  written = put n (There (write_in a x (words (file n)))) file

  write_size : (m : ℕ) → m < 64 → 0 < z → d (size_at m) ≡ size_of (file m) → length (write_in a x (words (file n))) ≡ cond (eqb (a + 1) z) z (z - 1) → write_cells n a x z d (size_at m) ≡ size_of (written m)
  unfolding size_of
  write_size m lm lz e y = grind (arith, tests)

  -- ws: what it was
  write_same : (ws : List ℕ) (i : ℕ) → a ≤ length ws → length ws ≤ 256 → length (write_in a x ws) ≤ length ws + cond (eqb a (length ws)) 1 0 → (i < length ws → d (word_at n i) ≡ get_or ws i 0) → i < length (write_in a x ws) → get_or (write_in a x ws) i 0 ≡ cond (eqb i a) x (get_or ws i 0) →
      write_cells n a x z d (word_at n i) ≡ get_or (write_in a x ws) i 0
  write_same ws i l k g b c e = grind (arith, tests)

  write_word : (m i : ℕ) → m < 64 → length (words (file m)) ≤ 256 → (i < length (words (file m)) → d (word_at m i) ≡ get_or (words (file m)) i 0) →
      (m ≡ n → i < length (write_in a x (words (file n))) → write_cells n a x z d (word_at n i) ≡ get_or (write_in a x (words (file n))) i 0) → i < length (words (written m)) → write_cells n a x z d (word_at m i) ≡ get_or (words (written m)) i 0
  unfolding words
  write_word m i lm s b g c = grind (arith, tests)

  write_short : (m : ℕ) → m < 64 → length (words (file m)) ≤ 256 → length (write_in a x (words (file n))) ≤ 256 → length (words (written m)) ≤ 256
  unfolding words
  write_short m lm s b = grind (arith, tests)

  write_hand : (q i : ℕ) → q < 64 → i < 8 → write_cells n a x z d (hand_at q i) ≡ d (hand_at q i)
  write_hand q i lq li = grind (arith, tests)

  write_users : (m : ℕ) → m < 64 → write_cells n a x z d (users_at m) ≡ d (users_at m)
  write_users m lm = grind (arith, tests)

  write_there : (y : Hand) → T (is_empty y || not (missing (file (name_of y)))) → T (is_empty y || not (missing (written (name_of y))))
  unfolding missing
  write_there y t = grind (arith, tests)

  pub write_files : (hand : ℕ → ℕ → Hand) → FilesAre d file hand → d (size_at n) ≡ z → a + 1 ≤ z → FilesAre (write_cells n a x z d) written hand
  write_files hand f ez lz =
      record {
        size = λ m l. write_size m l (omega arith) (f.size m l) long;
        word = λ m i l c. write_word m i l (f.short m l) (f.word m i l) (λ e g. write_same (words (file n)) i (omega (arith, was)) (f.short n ln) (longer (length (words (file n))) (length (write_in a x (words (file n)))) was long) (f.word n i ln) g (write_in_lem (words (file n)) a x i (omega (arith, was)) g)) c;
        short = λ m l. write_short m l (f.short m l) (no_longer (length (words (file n))) (length (write_in a x (words (file n)))) was (f.short n ln) long);
        held = λ q i l m. f.held q i l m ∙ ap hand_of (sym (write_hand q i l m));
        named = f.named;
        there = λ q i l m. write_there (hand q i) (f.there q i l m);
        users = λ m l. write_users m l ∙ f.users m l;
      }
    where
      was : length (words (file n)) + 1 ≡ z
      was = length_from z (file n) (sym ez ∙ f.size n ln) (omega arith)

      long : length (write_in a x (words (file n))) ≡ cond (eqb (a + 1) z) z (z - 1)
      long = write_length (words (file n)) a x z was lz

      longer : (y l : ℕ) → y + 1 ≡ z → l ≡ cond (eqb (a + 1) z) z (z - 1) → l ≤ y + cond (eqb a y) 1 0
      longer y l e g = grind (arith, tests)

      no_longer : (y l : ℕ) → y + 1 ≡ z → y ≤ 256 → l ≡ cond (eqb (a + 1) z) z (z - 1) → l ≤ 256
      no_longer y l e m g = grind (arith, tests)

-- Remove
module _ (d : ℕ → ℕ) (file : ℕ → File) (n : ℕ) (ln : n < 64) where
  abbrev removed : ℕ → File
  removed = put n Missing file

  remove_size : (m : ℕ) → m < 64 → d (size_at m) ≡ size_of (file m) → remove_cells n d (size_at m) ≡ size_of (removed m)
  unfolding size_of
  remove_size m lm e = grind (arith, tests)

  remove_word : (m i : ℕ) → m < 64 → (i < length (words (file m)) → d (word_at m i) ≡ get_or (words (file m)) i 0) → i < length (words (removed m)) → remove_cells n d (word_at m i) ≡ get_or (words (removed m)) i 0
  unfolding words
  remove_word m i lm b c = grind (arith, tests)

  remove_short : (m : ℕ) → length (words (file m)) ≤ 256 → length (words (removed m)) ≤ 256
  unfolding words
  remove_short m s = grind (arith, tests)

  remove_there : (y : Hand) → is_on n false y ≡ false → T (is_empty y || not (missing (file (name_of y)))) → T (is_empty y || not (missing (removed (name_of y))))
  unfolding is_on is_empty name_of missing
  remove_there y o t = grind (arith, tests)

  remove_hand : (q i : ℕ) → q < 64 → i < 8 → remove_cells n d (hand_at q i) ≡ d (hand_at q i)
  remove_hand q i lq li = grind (arith, tests)

  remove_users : (m : ℕ) → m < 64 → remove_cells n d (users_at m) ≡ d (users_at m)
  remove_users m lm = grind (arith, tests)

  pub remove_files : (hand : ℕ → ℕ → Hand) → FilesAre d file hand → ((q i : ℕ) → q < 64 → i < 8 → is_on n false (hand q i) ≡ false) → FilesAre (remove_cells n d) removed hand
  remove_files hand f o =
      record {
        size = λ m l. remove_size m l (f.size m l);
        word = λ m i l c. remove_word m i l (f.word m i l) c;
        short = λ m l. remove_short m (f.short m l);
        held = λ q i l m. f.held q i l m ∙ ap hand_of (sym (remove_hand q i l m));
        named = f.named;
        there = λ q i l m. remove_there (hand q i) (o q i l m) (f.there q i l m);
        users = λ m l. remove_users m l ∙ f.users m l;
      }

-- nobody has it open
pub none_open : (s : State) (n : ℕ) (w : Bool) → opened s n w ≡ false → (q i : ℕ) → q < 64 → i < 8 → is_on n w (s.hand q i) ≡ false
none_open s n w e q i lq li =
    none_at 8 i (λ (h : ℕ). is_on n w (s.hand q h)) (none_at 64 q (λ (p : ℕ). some' 8 (λ (h : ℕ). is_on n w (s.hand p h))) e lq) li
