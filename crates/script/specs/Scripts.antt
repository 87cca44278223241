-- The lines of a text, one after the other. Assumes nothing.
use Rattle.std.specs.Prelude.{◌≡◌, ℕ, ◌+◌, ◌-◌, ◌<◌, ◌≤◌, ◌⊎◌, List, ◌∷◌, ◌++◌, length, drop, ◌≢◌, slice_index, Option, Some, None, Result, Ok, Err}
use Rattle.std.specs.Iterator.{Count, at_most}
use Rattle.script.specs.declared.Line.{Line}
use Rattle.script.specs.declared.lines.WrongLine.{WrongLine}
use Rattle.script.specs.declared.lines.Lines.{Lines}
use Rattle.script.specs.Text.{text_of, Valid}

-- from `at` on the text has this line, up to a newline or the end, and `next` is past that
pub record LineAt (text : List ℕ) (at : ℕ) (line : List ℕ) (next : ℕ) : Type 0 where
  pub more : at < next
  pub within : next ≤ length text
  pub whole : (k : ℕ) → k < length line → slice_index line k ≢ 10
  pub parts : (drop at text ≡ line ++ 10 ∷ drop next text) ⊎ ((drop at text ≡ line) × (next ≡ length text))

-- what is read where `number` lines come before `at`
abbrev pub Reads : List ℕ → (at number : ℕ) → Option (Result Line WrongLine) → (at' number' : ℕ) → Type 0
Reads text at number None at' number' = (at ≡ length text) × (at' ≡ at) × (number' ≡ number)
Reads text at number (Some (Err wrong)) at' number' =
    ((line : List ℕ) × (LineAt text at line at' × ((l : Line) → Valid l → line ≢ text_of l))) × (number' ≡ number + 1) × (wrong.number ≡ number')
Reads text at number (Some (Ok l)) at' number' = LineAt text at (text_of l) at' × (number' ≡ number + 1) × Valid l

-- the same of lines that are read in turn: their text stays
pub record ReadsNext (before : Lines) (read : Option (Result Line WrongLine)) (after : Lines) : Type 0 where
  pub text : after.text.now ≡ before.text.now
  pub reads : Reads before.text.now before.at before.number read after.at after.number

-- each line takes a byte at least
abbrev pub lines_left : Lines → Count
lines_left lines = at_most (length lines.text.now - lines.at)
