use Rattle.std.proofs.Common.{◌≡◌, ◌++◌}
use Rattle.script.specs.Pages.{size, written}
use Rattle.play.specs.Notes.{notes_text}
use Rattle.play.proofs.printing.print_notes.Given as goal

abbrev pub invariant-loop-i : goal.invariant-loop-i
invariant-loop-i l = (size l.page ≡ size l.initial.page) × (written l.page ≡ written l.initial.page ++ notes_text l.i l.machine.notes.now)
