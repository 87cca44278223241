-- What is printed of notes. Assumes nothing.
use Rattle.std.specs.Prelude.{◌≡◌, ℕ, zero, suc, ◌+◌, ◌<◌, List, [], ◌∷◌, ◌++◌, length, Some, None, Option, Result, MatchResult}
use Rattle.script.specs.declared.page.Full.{Full}
use Rattle.script.specs.declared.Report.{Report}
use Rattle.script.specs.declared.Report.TheVariants as report
use Rattle.script.specs.Text.{report_text}
use Rattle.memory.specs.declared.Note.{Note}
use Rattle.memory.specs.declared.Note.TheVariants as note
use Rattle.memory.specs.Notes.{note_at}

-- what programs ask, keys and rounds aren't printed
abbrev pub report_of : Note → Option Report
report_of (note.Asked p c) = None
report_of (note.Told p a) = Some (report.Told p a)
report_of (note.Began p) = Some (report.Began p)
report_of (note.Stopped p) = Some (report.Stopped p)
report_of (note.Shown p x) = Some (report.Shown p x)
report_of (note.Typed x) = None
report_of (note.Rounds n) = None
report_of (note.Busy p) = Some (report.Busy p)
report_of (note.Gone p) = Some (report.Gone p)
report_of (note.Wrong n) = Some (report.Wrong n)
report_of note.GaveUp = Some report.GaveUp

-- a line, or nothing
abbrev pub text_of : Option Report → List ℕ
text_of None = []
text_of (Some r) = report_text r ++ 10 ∷ []

abbrev pub note_text : Note → List ℕ
note_text n = text_of (report_of n)

-- the first n notes, in their order
unfoldable pub notes_text : ℕ → List ℕ → List ℕ
notes_text zero ws = []
notes_text (suc n) ws = notes_text n ws ++ note_text (note_at ws n)

-- the lines of n notes come after what was there; or those of the first k, and there's no room for the next
abbrev pub PrintedNotes : (room : ℕ) (old ws : List ℕ) (n : ℕ) (new : List ℕ) → Result (Unit {0}) Full → Type 0
PrintedNotes room old ws n new done =
    MatchResult done (λ _. new ≡ old ++ notes_text n ws) (λ _. (k : ℕ) × ((k < n) × (new ≡ old ++ notes_text k ws) × (room < length new + length (note_text (note_at ws k)))))
