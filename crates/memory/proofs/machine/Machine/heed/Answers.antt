use Rattle.std.proofs.Common.{refl}
use Rattle.memory.specs.declared.Note.TheVariants.{Wrong}
use Rattle.memory.proofs.Scripts.{noted_between}
use Rattle.memory.proofs.machine.Machine.heed.Goals as goal

pub returns-in_err-note_if_room-in-Err-clause-between : goal.returns-in_err-note_if_room-in-Err-clause-between
returns-in_err-note_if_room-in-Err-clause-between c =
    noted_between (Wrong c.in-Err.wrong.number) c.args.self.now c.note_if_room.new.self _ (λ _. refl) c.note_if_room.ensures.kernel c.note_if_room.ensures.events

pub returns-in_ok-note_if_room-in-Err-clause-between : goal.returns-in_ok-note_if_room-in-Err-clause-between
returns-in_ok-note_if_room-in-Err-clause-between c =
    noted_between (Wrong c.in-Err.wrong.number) c.args.self.now c.note_if_room.new.self _ (λ _. refl) c.note_if_room.ensures.kernel c.note_if_room.ensures.events
