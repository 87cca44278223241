-- What each call on files comes to, by the cells of the files' server, and that the cells it writes mean the files and handles that it makes.
-- Assumes nothing.
use Rattle.std.proofs.Common.{◌≡◌, ℕ, ◌+◌, ◌-◌, ◌%◌, ◌<◌, ◌≤◌, Bool, true, false, not, ◌||◌, T, leb, ◌⊎◌, length, sym, refl, ap, ◌∙◌, subst, subst₂, arith}
use Rattle.std.proofs.lemmas.Bool.Decides.{nat_tests as tests}
use Rattle.std.proofs.lemmas.Bool.{eq-eqb, ne_eqb}
use Rattle.heal.specs.declared.Call.TheVariants.{Open, Close, Read, Write, Remove}
use Rattle.heal.specs.declared.Answer.TheVariants.{Done, No, Handle, Word}
use Rattle.heal.specs.House.{name_of, writes_of, Missing, There, Empty, On, State, Gives, some', first, missing, words, is_empty, clash, set_file, give_hand, write_in, does}
use Rattle.heal.specs.Files.{size_at, users_at, hand_at, word_at, name_in, writes_in, FilesAre, open_cells, close_cells, write_cells, remove_cells, opened_by}
use Rattle.heal.proofs.Lawful.{Lawful, some_at}
use Rattle.heal.proofs.FileCells.{holds, true_from, may_open, clash_true, clash_false, no_handle_from, past, some_none, first_is, any_open, clash_at, missing_at, length_at, empty_at, on_at, handle_bounds, does_open, does_read}
use Rattle.heal.proofs.FileMoves.{open_files, close_files, write_files, remove_files, none_open}

module _ (k p : ℕ) (s : State) (d : ℕ → ℕ) (lp : p < 64) (law : Lawful s) (f : FilesAre d s.file s.hand) where
  -- no such name
  pub open_no1 : (n : ℕ) (w : Bool) → 64 ≤ n → does k s p (Open n w) ≡ Gives (No 1) s
  unfolding does
  open_no1 n w l = grind (arith, tests)

  -- to read what is missing
  pub open_no2 : (n : ℕ) (w : Bool) → n < 64 → d (size_at n) ≡ 0 → w ≡ false → does k s p (Open n w) ≡ Gives (No 2) s
  unfolding does
  open_no2 n w l e b = let m = missing_at s d f n l ∙ eq-eqb _ 0 e in grind (arith, tests)

  -- others have it open
  pub open_no8 : (n : ℕ) (w : Bool) → n < 64 → (d (size_at n) ≡ 0 → ⊥) ⊎ (w ≡ true) → ((w ≡ true) × (d (users_at n) ≡ 0 → ⊥)) ⊎ ((w ≡ false) × (d (users_at n) ≡ 1)) → does k s p (Open n w) ≡ Gives (No 8) s
  unfolding does
  open_no8 n w l a b =
      let m = may_open (missing (s.file n)) w (d (size_at n)) (missing_at s d f n l) a in
      let c = clash_true (clash s n w) w (d (users_at n)) (clash_at s d f n w l) b in
      grind (arith, tests)

  -- all handles are taken
  pub open_no13 : (n : ℕ) (w : Bool) → n < 64 → (d (size_at n) ≡ 0 → ⊥) ⊎ (w ≡ true) → ((w ≡ true) × (d (users_at n) ≡ 0)) ⊎ ((w ≡ false) × (d (users_at n) ≡ 1 → ⊥)) →
      ((i : ℕ) → i < 8 → d (hand_at p i) ≡ 0 → ⊥) → does k s p (Open n w) ≡ Gives (No 13) s
  unfolding does
  open_no13 n w l a b c =
      let m = may_open (missing (s.file n)) w (d (size_at n)) (missing_at s d f n l) a in
      let o = clash_false (clash s n w) w (d (users_at n)) (clash_at s d f n w l) b in
      let e = some_none 8 (λ (h : ℕ). is_empty (s.hand p h)) (λ i m. empty_at s d f p i lp m ∙ ne_eqb _ 0 (c i m)) in
      grind (arith, tests)

  -- the lowest empty handle
  first_free : (e : ℕ) → e < 8 → d (hand_at p e) ≡ 0 → ((i : ℕ) → i < e → d (hand_at p i) ≡ 0 → ⊥) →
      (some' 8 (λ (h : ℕ). is_empty (s.hand p h)) ≡ true) × (first 8 (λ (h : ℕ). is_empty (s.hand p h)) ≡ e)
  first_free e le z c =
      let t : T (is_empty (s.hand p e)) = holds (empty_at s d f p e lp le ∙ eq-eqb _ 0 z) in
      (true_from (some_at 8 e (λ (h : ℕ). is_empty (s.hand p h)) le t), first_is 8 e (λ (h : ℕ). is_empty (s.hand p h)) le t (λ i m. empty_at s d f p i lp (omega arith) ∙ ne_eqb _ 0 (c i m)))

  open_gives : (n : ℕ) (w : Bool) (e : ℕ) → n < 64 → (d (size_at n) ≡ 0 → ⊥) ⊎ (w ≡ true) → ((w ≡ true) × (d (users_at n) ≡ 0)) ⊎ ((w ≡ false) × (d (users_at n) ≡ 1 → ⊥)) →
      e < 8 → d (hand_at p e) ≡ 0 → ((i : ℕ) → i < e → d (hand_at p i) ≡ 0 → ⊥) → does k s p (Open n w) ≡ Gives (Handle e) (opened_by p e n w s)
  open_gives n w e l a b le z c =
      let g = first_free e le z c in
      does_open k p s n w e l (may_open (missing (s.file n)) w (d (size_at n)) (missing_at s d f n l) a) (clash_false (clash s n w) w (d (users_at n)) (clash_at s d f n w l) b) g.0 g.1

  -- it's opened; made first if it was missing
  pub open_done : (n : ℕ) (w : Bool) (e u z : ℕ) → n < 64 → d (users_at n) ≡ u → d (size_at n) ≡ z → (z ≡ 0 → ⊥) ⊎ (w ≡ true) → ((w ≡ true) × (u ≡ 0)) ⊎ ((w ≡ false) × (u ≡ 1 → ⊥)) →
      e < 8 → d (hand_at p e) ≡ 0 → ((i : ℕ) → i < e → d (hand_at p i) ≡ 0 → ⊥) →
      (does k s p (Open n w) ≡ Gives (Handle e) (opened_by p e n w s)) × FilesAre (open_cells p e n w u z d) (opened_by p e n w s).file (opened_by p e n w s).hand
  open_done n w e u z l eu ez a b le g c =
      let a' = subst (λ y. (y ≡ 0 → ⊥) ⊎ (w ≡ true)) (sym ez) a in
      let b' = subst (λ y. ((w ≡ true) × (y ≡ 0)) ⊎ ((w ≡ false) × (y ≡ 1 → ⊥))) (sym eu) b in (
        open_gives n w e l a' b' le g c,
        subst₂ (λ x y. FilesAre (open_cells p e n w x y d) (opened_by p e n w s).file (opened_by p e n w s).hand) eu ez (open_files d s.file s.hand p e n w lp le l f g b'),
      )

  -- what Open leaves as it was
  pub open_keeps : (n : ℕ) (w : Bool) (e : ℕ) →
      ((opened_by p e n w s).proc ≡ s.proc) × ((opened_by p e n w s).on ≡ s.on) × ((opened_by p e n w s).now' ≡ s.now') × ((opened_by p e n w s).owner ≡ s.owner) × ((opened_by p e n w s).screen ≡ s.screen) × ((opened_by p e n w s).keys ≡ s.keys) × ((opened_by p e n w s).heard ≡ s.heard)
  open_keeps n w e = (refl, refl, refl, refl, refl, refl, refl)

  -- no such handle
  no_handle : (h : ℕ) → (8 ≤ h) ⊎ (d (hand_at p h) ≡ 0) → (leb 8 h || is_empty (s.hand p h)) ≡ true
  no_handle h a = no_handle_from (is_empty (s.hand p h)) h (d (hand_at p h)) (λ m. empty_at s d f p h lp m) a

  -- no such handle
  pub close_no4 : (h : ℕ) → (8 ≤ h) ⊎ (d (hand_at p h) ≡ 0) → does k s p (Close h) ≡ Gives (No 4) s
  unfolding does
  close_no4 h a = let e = no_handle h a in grind (arith, tests)

  close_gives : (h v : ℕ) → h < 8 → d (hand_at p h) ≡ v → (v ≡ 0 → ⊥) → does k s p (Close h) ≡ Gives Done (give_hand p h Empty s)
  unfolding does is_empty
  close_gives h v l e n = let q = on_at s d f p h v lp l e n in grind (arith, tests)

  -- a handle's file: one of 64, it's there, and how long it may be
  pub handle_file : (h v z : ℕ) → h < 8 → d (hand_at p h) ≡ v → (v ≡ 0 → ⊥) → d (size_at (name_in v)) ≡ z → (name_in v < 64) × (0 < z) × (z ≤ 257)
  handle_file h v z l e n ez = let b = handle_bounds s d f p h v lp l e n in (b.0, omega arith, omega arith)

  -- it's closed
  pub close_done : (h v u : ℕ) → h < 8 → d (hand_at p h) ≡ v → (v ≡ 0 → ⊥) → d (users_at (name_in v)) ≡ u →
      (does k s p (Close h) ≡ Gives Done (give_hand p h Empty s)) × FilesAre (close_cells p h v u d) s.file (give_hand p h Empty s).hand
  close_done h v u l e n eu = (
    close_gives h v l e n,
    subst (λ x. FilesAre (close_cells p h v x d) s.file (give_hand p h Empty s).hand) eu
        (close_files d s.file s.hand p h v lp l f law.held.writer (on_at s d f p h v lp l e n) (handle_bounds s d f p h v lp l e n).0),
  )

  -- no such handle
  pub read_no4 : (h a : ℕ) → (8 ≤ h) ⊎ (d (hand_at p h) ≡ 0) → does k s p (Read h a) ≡ Gives (No 4) s
  unfolding does
  read_no4 h a x = let e = no_handle h x in grind (arith, tests)

  -- past its end
  pub read_no5 : (h a v : ℕ) → h < 8 → d (hand_at p h) ≡ v → (v ≡ 0 → ⊥) → d (size_at (name_in v)) ≤ a + 1 → does k s p (Read h a) ≡ Gives (No 5) s
  unfolding does is_empty name_of
  read_no5 h a v l e n z =
      let b = handle_bounds s d f p h v lp l e n in
      let y = length_at s d f (name_in v) b.0 in
      let o = on_at s d f p h v lp l e n in
      let m : length (words (s.file (name_in v))) ≤ a = omega arith in
      grind (arith, tests)

  -- the word there
  pub read_done : (h a v : ℕ) → h < 8 → d (hand_at p h) ≡ v → (v ≡ 0 → ⊥) → a + 1 < d (size_at (name_in v)) → does k s p (Read h a) ≡ Gives (Word (d (word_at (name_in v) a))) s
  read_done h a v l e n z =
      let b = handle_bounds s d f p h v lp l e n in
      let y = length_at s d f (name_in v) b.0 in
      let m : a < length (words (s.file (name_in v))) = omega arith in
      does_read k p s h a (name_in v) (writes_in v) l (on_at s d f p h v lp l e n) m ∙ ap (λ x. Gives (Word x) s) (sym (f.word (name_in v) a b.0 m))

  -- no such handle
  pub write_no4 : (h a x : ℕ) → (8 ≤ h) ⊎ (d (hand_at p h) ≡ 0) → does k s p (Write h a x) ≡ Gives (No 4) s
  unfolding does
  write_no4 h a x y = let e = no_handle h y in grind (arith, tests)

  -- it's open to read
  pub write_no6 : (h a x v : ℕ) → h < 8 → d (hand_at p h) ≡ v → (v ≡ 0 → ⊥) → ((v - 1) % 2 ≡ 1 → ⊥) → does k s p (Write h a x) ≡ Gives (No 6) s
  unfolding does is_empty writes_of
  write_no6 h a x v l e n o =
      let q = on_at s d f p h v lp l e n in
      let w = ne_eqb ((v - 1) % 2) 1 o in
      grind (arith, tests)

  -- a handle that writes
  writing : (h v : ℕ) → h < 8 → d (hand_at p h) ≡ v → (v ≡ 0 → ⊥) → (v - 1) % 2 ≡ 1 → s.hand p h ≡ On (name_in v) true
  writing h v l e n o = on_at s d f p h v lp l e n ∙ ap (λ w. On (name_in v) w) (eq-eqb ((v - 1) % 2) 1 o)

  -- past its end, or past what a file may have
  pub write_no5 : (h a x v : ℕ) → h < 8 → d (hand_at p h) ≡ v → (v ≡ 0 → ⊥) → (v - 1) % 2 ≡ 1 → (d (size_at (name_in v)) < a + 1) ⊎ (256 ≤ a) → does k s p (Write h a x) ≡ Gives (No 5) s
  unfolding does is_empty name_of writes_of
  write_no5 h a x v l e n o z =
      let b = handle_bounds s d f p h v lp l e n in
      let q = writing h v l e n o in
      let y = past (length (words (s.file (name_in v)))) (d (size_at (name_in v))) a (length_at s d f (name_in v) b.0) b.1 z in
      grind (arith, tests)

  write_gives : (h a x v : ℕ) → h < 8 → d (hand_at p h) ≡ v → (v ≡ 0 → ⊥) → (v - 1) % 2 ≡ 1 → a + 1 ≤ d (size_at (name_in v)) → a < 256 →
      does k s p (Write h a x) ≡ Gives Done (set_file (name_in v) (There (write_in a x (words (s.file (name_in v))))) s)
  unfolding does is_empty name_of writes_of
  write_gives h a x v l e n o z m =
      let b = handle_bounds s d f p h v lp l e n in
      let y = length_at s d f (name_in v) b.0 in
      let q = writing h v l e n o in
      let c : a ≤ length (words (s.file (name_in v))) = omega arith in
      grind (arith, tests)

  -- it's written; at the end, the file is one longer
  pub write_done : (h a x v z : ℕ) → h < 8 → d (hand_at p h) ≡ v → (v ≡ 0 → ⊥) → (v - 1) % 2 ≡ 1 → d (size_at (name_in v)) ≡ z → a + 1 ≤ z → a < 256 →
      (does k s p (Write h a x) ≡ Gives Done (set_file (name_in v) (There (write_in a x (words (s.file (name_in v))))) s)) ×
      FilesAre (write_cells (name_in v) a x z d) (set_file (name_in v) (There (write_in a x (words (s.file (name_in v))))) s).file s.hand
  write_done h a x v z l e n o ez lz m =
      (write_gives h a x v l e n o (omega arith) m, write_files d s.file (name_in v) a x (handle_bounds s d f p h v lp l e n).0 m z s.hand f ez lz)

  -- no such name
  pub remove_no1 : (n : ℕ) → 64 ≤ n → does k s p (Remove n) ≡ Gives (No 1) s
  unfolding does
  remove_no1 n l = grind (arith, tests)

  -- it's missing
  pub remove_no2 : (n : ℕ) → n < 64 → d (size_at n) ≡ 0 → does k s p (Remove n) ≡ Gives (No 2) s
  unfolding does
  remove_no2 n l e = let m = missing_at s d f n l ∙ eq-eqb _ 0 e in grind (arith, tests)

  -- somebody has it open
  pub remove_no8 : (n : ℕ) → n < 64 → (d (size_at n) ≡ 0 → ⊥) → (d (users_at n) ≡ 0 → ⊥) → does k s p (Remove n) ≡ Gives (No 8) s
  unfolding does
  remove_no8 n l e u =
      let m = missing_at s d f n l ∙ ne_eqb _ 0 e in
      let o = any_open s d f n l ∙ ap not (ne_eqb (d (users_at n)) 0 u) in
      grind (arith, tests)

  remove_gives : (n : ℕ) → n < 64 → (d (size_at n) ≡ 0 → ⊥) → d (users_at n) ≡ 0 → does k s p (Remove n) ≡ Gives Done (set_file n Missing s)
  unfolding does
  remove_gives n l e u =
      let m = missing_at s d f n l ∙ ne_eqb _ 0 e in
      let o = any_open s d f n l ∙ ap not (eq-eqb (d (users_at n)) 0 u) in
      grind (arith, tests)

  -- it's missing from then on
  pub remove_done : (n : ℕ) → n < 64 → (d (size_at n) ≡ 0 → ⊥) → d (users_at n) ≡ 0 → (does k s p (Remove n) ≡ Gives Done (set_file n Missing s)) × FilesAre (remove_cells n d) (set_file n Missing s).file s.hand
  remove_done n l e u = (remove_gives n l e u, remove_files d s.file n l s.hand f (none_open s n false (any_open s d f n l ∙ ap not (eq-eqb (d (users_at n)) 0 u))))
