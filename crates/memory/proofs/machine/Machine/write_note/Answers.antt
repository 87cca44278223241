use Rattle.std.proofs.Common.{◌+◌, ◌*◌, ap, ◌∙◌, arith}
use Rattle.std.proofs.lemmas.Slice.{between-put_mid}
use Rattle.memory.specs.Notes.{note_of, note_at}
use Rattle.memory.proofs.Words.{others_stay}
use Rattle.memory.proofs.machine.Machine.write_note.Goals as goal

pub returns-clause-here : goal.returns-clause-here
unfolding note_at
returns-clause-here c =
    ap note_of (between-put_mid _ _ _ c.copy_from_slice.new.self (6 * c.args.i + 6) (omega arith) (omega arith) ∙ c.copy_from_slice.ensures.after) ∙ c.into-words.ensures

pub returns-clause-others : goal.returns-clause-others
unfolding note_at
returns-clause-others c = λ j ne. ap note_of (others_stay c.args.self.now.notes.now c.copy_from_slice.new.self c.args.i j _ ne (omega arith) (omega arith) (omega arith))
