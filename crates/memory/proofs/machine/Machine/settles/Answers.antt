use Rattle.std.proofs.Common.{refl}
use Rattle.memory.specs.declared.Note.TheVariants.{GaveUp}
use Rattle.memory.proofs.Scripts.{noted_between}
use Rattle.memory.proofs.machine.Machine.settles.Goals as goal

pub returns-then-tries-ge-TRIES-clause-between : goal.returns-then-tries-ge-TRIES-clause-between
returns-then-tries-ge-TRIES-clause-between c = noted_between GaveUp c.args.self.now c.note_if_room.new.self _ (λ _. refl) c.note_if_room.ensures.kernel c.note_if_room.ensures.events
