-- What a handle's cell says, and the cell of who has a file open.
-- Assumes nothing.
use Rattle.std.specs.Prelude.{◌≡◌, ℕ, ◌+◌, ◌<◌, ◌≤◌, Bool, true, false, cond, ◌⊎◌, ◌≢◌, Some, None, Option, ◌==◌}
use Rattle.heal.specs.declared.handle.Name.{Name}
use Rattle.heal.specs.declared.handle.Held.{Held}
use Rattle.heal.specs.declared.users.Users.{Users}
use Rattle.heal.specs.declared.users.Users.TheVariants.{Nobody, Writer, Readers}
use Rattle.heal.specs.Files.{hand_at, name_in, writes_in}

-- the name with the number n, if there is one
abbrev pub Names : ℕ → Option Name → Type 0
Names n None = 64 ≤ n
Names n (Some x) = (n < 64) × (x.number ≡ n)

-- what the word v of a handle's cell says that it's on
abbrev pub Says : ℕ → Option Held → Type 0
Says v None = v ≡ 0
Says v (Some x) = (v ≢ 0) × (name_in v ≡ x.name.number) × (writes_in v ≡ x.writes)

-- what a handle is on: nothing, or a file
abbrev pub Holds : ℕ → ℕ → (ℕ → ℕ) → Option Held → Type 0
Holds p h d None = (8 ≤ h) ⊎ Says (d (hand_at p h)) None
Holds p h d (Some x) = (h < 8) × Says (d (hand_at p h)) (Some x)

-- the lowest empty handle
abbrev pub Lowest : ℕ → (ℕ → ℕ) → Option ℕ → Type 0
Lowest p d None = (i : ℕ) → i < 8 → d (hand_at p i) ≢ 0
Lowest p d (Some e) = (e < 8) × (d (hand_at p e) ≡ 0) × ((i : ℕ) → i < e → d (hand_at p i) ≢ 0)

-- the word of who has a file open: 0, nobody; 1, a writer; else 1 + so many readers
abbrev pub users_word : Users → ℕ
users_word Nobody = 0
users_word Writer = 1
users_word (Readers n) = n + 1

-- readers are at least one
abbrev pub Counted : Users → Type 0
Counted Nobody = Unit {0}
Counted Writer = Unit {0}
Counted (Readers n) = 0 < n

-- whom the word v says to have a file open
abbrev pub Uses : ℕ → Users → Type 0
Uses v u = Counted u × (users_word u ≡ v)

-- the length that the word v of a file's size says; none, it's missing
abbrev pub Lasts : ℕ → Option ℕ → Type 0
Lasts v None = v ≡ 0
Lasts v (Some l) = v ≡ l + 1

-- one more opens a file, to write if w; u: the word of who has it open. None: a writer and others can't have it open at once
abbrev pub OpenedBy : Bool → ℕ → Option Users → Type 0
OpenedBy w u None = ((w ≡ true) × (u ≢ 0)) ⊎ ((w ≡ false) × (u ≡ 1))
OpenedBy w u (Some y) = (((w ≡ true) × (u ≡ 0)) ⊎ ((w ≡ false) × (u ≢ 1))) × (users_word y ≡ cond w 1 (cond (u == 0) 2 (u + 1)))
