-- What stays.
-- Assumes nothing.
use Rattle.std.specs.Prelude.{◌≡◌, ℕ, ◌+◌, ◌<◌, List}
use Rattle.heal.specs.Kernel.{Kern, Event, Between}
use Rattle.memory.specs.declared.Note.{Note}
use Rattle.memory.specs.declared.machine.Machine.{Machine}
use Rattle.memory.specs.Memory.{kern_of, seen_of}
use Rattle.memory.specs.Notes.{note_at}

-- neither the plan has changed nor how far the script is
abbrev pub Aside : Machine → Machine → Type 0
Aside m m' =
    (m'.plan ≡ m.plan) × (m'.lines ≡ m.lines) × (m'.turn ≡ m.turn) × (m'.resting ≡ m.resting) × (m'.settling ≡ m.settling) × (m'.state ≡ m.state)

-- as many rounds are still to run
abbrev pub SamePace : Machine → Machine → Type 0
SamePace m m' = (m'.resting ≡ m.resting) × (m'.settling ≡ m.settling)

-- nothing happens but what may between turns: programs ask, and keys are struck
abbrev pub BetweenTurns : Machine → Machine → Type 0
BetweenTurns m m' = Between (kern_of m) (seen_of m) (kern_of m') (seen_of m')

-- no note has changed, and none is new
abbrev pub Unnoted : Machine → Machine → Type 0
Unnoted m m' = (m'.noted ≡ m.noted) × (m'.notes.now ≡ m.notes.now)

-- one note is new
abbrev pub Noted : Note → Machine → Machine → Type 0
Noted n m m' = (m'.noted ≡ m.noted + 1) × (note_at m'.notes.now m.noted ≡ n) × ((j : ℕ) → j < m.noted → note_at m'.notes.now j ≡ note_at m.notes.now j)

-- there's a place for one note more, beside those of what is still asked in this turn
abbrev pub HasPlace : Machine → Type 0
HasPlace m = m.noted + m.left < m.room

-- only notes have changed
pub record Beside (m m' : Machine) : Type 0 where
  pub kernel : kern_of m' ≡ kern_of m
  pub aside : Aside m m'
  pub left : m'.left ≡ m.left
  pub room : m'.room ≡ m.room
  pub shown : m'.screen.len ≡ m.screen.len
  pub typed : m'.keys.len ≡ m.keys.len

-- what is meant is this kernel now, and these events; the plan and the script are as they were
pub record Changes (k : Kern) (es : List Event) (m m' : Machine) : Type 0 where
  pub kernel : kern_of m' ≡ k
  pub events : seen_of m' ≡ es
  pub aside : Aside m m'
