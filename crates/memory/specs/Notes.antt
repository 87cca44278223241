-- What words mean as a note, and what notes mean as events.
-- Assumes nothing.
use Rattle.std.specs.Prelude.{ℕ, zero, suc, ◌+◌, ◌*◌, cond, List, [], ◌∷◌, ◌==◌, slice_index, slice_range}
use Rattle.heal.specs.Codec.{call_of, answer_of, clamped}
use Rattle.heal.specs.Kernel as kernel
use Rattle.heal.specs.Kernel.{Event}
use Rattle.memory.specs.declared.Note.{Note}
use Rattle.memory.specs.declared.Note.TheVariants.{Asked, Told, Began, Stopped, Shown, Typed, Rounds, Busy, Gone, Wrong, GaveUp}
use Rattle.memory.specs.declared.notes.NoteKind.{NoteKind}
use Rattle.memory.specs.declared.notes.NoteKind.TheVariants as kind

-- what a note's first word says; any other number says the last
abbrev pub kind_of : ℕ → NoteKind
kind_of k =
    cond (k == 1) kind.Asked (cond (k == 2) kind.Told (cond (k == 3) kind.Began (cond (k == 4) kind.Stopped (cond (k == 5) kind.Shown
    (cond (k == 6) kind.Typed (cond (k == 7) kind.Rounds (cond (k == 8) kind.Busy (cond (k == 9) kind.Gone (cond (k == 10) kind.Wrong kind.GaveUp)))))))))

-- what the other five words mean then
abbrev pub of_kind : NoteKind → (who a b c d : ℕ) → Note
of_kind kind.Asked w a b c d = Asked (clamped w) (call_of a b c d)
of_kind kind.Told w a b c d = Told (clamped w) (answer_of a b c)
of_kind kind.Began w a b c d = Began (clamped w)
of_kind kind.Stopped w a b c d = Stopped (clamped w)
of_kind kind.Shown w a b c d = Shown a b
of_kind kind.Typed w a b c d = Typed a
of_kind kind.Rounds w a b c d = Rounds a
of_kind kind.Busy w a b c d = Busy (clamped w)
of_kind kind.Gone w a b c d = Gone (clamped w)
of_kind kind.Wrong w a b c d = Wrong a
of_kind kind.GaveUp w a b c d = GaveUp

-- what six words mean as a note
abbrev pub note_of : List ℕ → Note
note_of ws = of_kind (kind_of (slice_index ws 0)) (slice_index ws 1) (slice_index ws 2) (slice_index ws 3) (slice_index ws 4) (slice_index ws 5)

-- each note has six words
unfoldable pub note_at : List ℕ → ℕ → Note
note_at ws i = note_of (slice_range ws (6 * i) (6 * i + 6))

unfoldable pub rounds : ℕ → List Event → List Event
rounds zero es = es
rounds (suc n) es = kernel.Round ∷ rounds n es

-- the events with what a note says; the last four kinds of notes are no events
abbrev pub added : Note → List Event → List Event
added (Asked p c) es = kernel.Asked p c ∷ es
added (Told p a) es = kernel.Told p a ∷ es
added (Began p) es = kernel.Began p ∷ es
added (Stopped p) es = kernel.Stopped p ∷ es
added (Shown p x) es = kernel.Shown p x ∷ es
added (Typed x) es = kernel.Typed x ∷ es
added (Rounds n) es = rounds n es
added (Busy p) es = es
added (Gone p) es = es
added (Wrong n) es = es
added GaveUp es = es

-- the events of the first n notes, the newest first
unfoldable pub logged : ℕ → List ℕ → List Event
logged zero ws = []
logged (suc n) ws = added (note_at ws n) (logged n ws)
