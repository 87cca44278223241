-- What the cells of the files' server mean: files, handles, and who has a file open.
-- Assumes nothing.
use Rattle.std.specs.Prelude.{◌≡◌, ℕ, zero, suc, ◌+◌, ◌-◌, ◌*◌, ◌/◌, ◌%◌, ◌<◌, ◌≤◌, Bool, true, false, cond, not, ◌&&◌, ◌||◌, T, [], length, ◌==◌, slice_index}
use Rattle.heal.specs.Kernel.{set}
use Rattle.heal.specs.House.{File, Missing, There, Hand, Empty, On, State, missing, words, is_on, is_empty, name_of, give_hand}

-- where they are
abbrev pub size_at : ℕ → ℕ
size_at n = 512 + n

abbrev pub users_at : ℕ → ℕ
users_at n = 576 + n

abbrev pub hand_at : ℕ → ℕ → ℕ
hand_at p h = 1024 + 8 * p + h

abbrev pub word_at : ℕ → ℕ → ℕ
word_at n i = 16384 + 256 * n + i

-- a handle's cell: 0, it's empty; else 1 + 2 name + (1 if it writes)
abbrev pub name_in : ℕ → ℕ
name_in v = (v - 1) / 2

abbrev pub writes_in : ℕ → Bool
writes_in v = (v - 1) % 2 == 1

unfoldable pub hand_of : ℕ → Hand
hand_of v = cond (v == 0) Empty (On (name_in v) (writes_in v))

-- a file's cell: 0, it's missing; else 1 + its length
unfoldable pub size_of : File → ℕ
size_of Missing = 0
size_of (There ws) = 1 + length ws

unfoldable pub sum : ℕ → (ℕ → ℕ) → ℕ
sum zero f = 0
sum (suc n) f = sum n f + f n

-- how many handles are on file n; to write
unfoldable pub tally : ℕ → Bool → (ℕ → ℕ → Hand) → ℕ
tally n w hand = sum 64 (λ p. sum 8 (λ h. cond (is_on n w (hand p h)) 1 0))

-- the cell of who has it open: 0, nobody; 1, a writer; else 1 + so many readers
abbrev pub users_from : ℕ → ℕ → ℕ
users_from all writers = cond (writers == 0) (cond (all == 0) 0 (all + 1)) 1

pub record FilesAre (d : ℕ → ℕ) (file : ℕ → File) (hand : ℕ → ℕ → Hand) : Type 0 where
  pub size : (n : ℕ) → n < 64 → d (size_at n) ≡ size_of (file n)
  pub word : (n i : ℕ) → n < 64 → i < length (words (file n)) → d (word_at n i) ≡ slice_index (words (file n)) i
  pub short : (n : ℕ) → n < 64 → length (words (file n)) ≤ 256
  pub held : (p h : ℕ) → p < 64 → h < 8 → hand p h ≡ hand_of (d (hand_at p h))
  pub named : (p h : ℕ) → p < 64 → h < 8 → name_of (hand p h) < 64
  pub there : (p h : ℕ) → p < 64 → h < 8 → T (is_empty (hand p h) || not (missing (file (name_of (hand p h)))))
  pub users : (n : ℕ) → n < 64 → d (users_at n) ≡ users_from (tally n false hand) (tally n true hand)

-- what the server writes; u and z: what the cells of who has the file open and of its size were
abbrev pub open_cells : ℕ → ℕ → ℕ → Bool → ℕ → ℕ → (ℕ → ℕ) → ℕ → ℕ
open_cells p e n w u z d = set (size_at n) (cond (z == 0) 1 z) (set (users_at n) (cond w 1 (cond (u == 0) 2 (u + 1))) (set (hand_at p e) (1 + 2 * n + cond w 1 0) d))

-- v: what the handle's cell was
abbrev pub close_cells : ℕ → ℕ → ℕ → ℕ → (ℕ → ℕ) → ℕ → ℕ
close_cells p h v u d = set (users_at (name_in v)) (cond (writes_in v) 0 (cond (u == 2) 0 (u - 1))) (set (hand_at p h) 0 d)

abbrev pub write_cells : ℕ → ℕ → ℕ → ℕ → (ℕ → ℕ) → ℕ → ℕ
write_cells n a x z d = set (size_at n) (cond (a + 1 == z) (z + 1) z) (set (word_at n a) x d)

abbrev pub remove_cells : ℕ → (ℕ → ℕ) → ℕ → ℕ
remove_cells n d = set (size_at n) 0 d

-- the state that Open makes
abbrev pub opened_by : ℕ → ℕ → ℕ → Bool → State → State
opened_by p e n w s =
    give_hand p e (On n w)
    (record { proc = s.proc; on = s.on; now' = s.now'; file = λ m. cond (missing (s.file n) && m == n) (There []) (s.file m); hand = s.hand; owner = s.owner; screen = s.screen; keys = s.keys; heard = s.heard })
