-- What a machine means: the kernel that its arrays hold, and the events that its notes tell.
-- Assumes nothing.
use Rattle.std.specs.Prelude.{ℕ, ◌+◌, Bool, false, cond, ◌&&◌, List, [], take, None, ◌==◌, nat_lt, slice_index, slice_index_or}
use Rattle.heal.specs.declared.Msg.{Msg}
use Rattle.heal.specs.Kernel.{Kern, cells_of, Event, Pending}
use Rattle.memory.specs.declared.lent.LentWords.{LentWords}
use Rattle.memory.specs.declared.program.Program.{Program}
use Rattle.memory.specs.declared.machine.Machine.{Machine}
use Rattle.memory.specs.Notes.{logged}
use Rattle.memory.specs.Programs.{pending_of}

abbrev pub words_of : LentWords → List ℕ
words_of w = take w.len w.words.now

-- 4,096 cells of server 0, 65,536 of server 1, 4,096 of server 2
abbrev pub base_of : ℕ → ℕ
base_of s = cond (s == 0) 0 (cond (s == 1) 4096 69632)

abbrev pub inside : ℕ → ℕ → Bool
inside s c = nat_lt s 3 && nat_lt c (cells_of s)

unfoldable pub cell_of : List ℕ → ℕ → ℕ → ℕ
cell_of xs s c = cond (inside s c) (slice_index xs (base_of s + c)) 0

unfoldable pub box_of : List (List Msg) → ℕ → List Msg
box_of boxes s = slice_index_or boxes s []

-- a program that isn't there
abbrev pub no_program : Program
no_program = record { runs = false; pending = None; number = 0 }

abbrev pub program_at : List Program → ℕ → Program
program_at ps p = slice_index_or ps p no_program

unfoldable pub runs_of : List Program → ℕ → Bool
runs_of ps p = (program_at ps p).runs

unfoldable pub waits_of : List Program → ℕ → Pending
waits_of ps p = pending_of (program_at ps p).pending

unfoldable pub number_of : List Program → ℕ → ℕ
number_of ps p = (program_at ps p).number

abbrev pub kern_of : Machine → Kern
kern_of m =
    record {
      at = m.at;
      box = box_of m.mailboxes;
      cell = cell_of m.cells.now;
      runs = runs_of m.programs;
      pending = waits_of m.programs;
      number = number_of m.programs;
      screen = words_of m.screen;
      keys = words_of m.keys;
      left = m.left;
      fell = m.fell;
    }

abbrev pub seen_of : Machine → List Event
seen_of m = logged m.noted m.notes.now
