use Rattle.std.proofs.Common.{arith}
use Rattle.memory.proofs.Words.{logged_new}
use Rattle.memory.proofs.machine.Machine.note.Goals as goal

pub returns-clause-events : goal.returns-clause-events
returns-clause-events c =
    rw c.write_note.ensures.noted (logged_new _ _ _ _ c.write_note.ensures.here (λ j l. c.write_note.ensures.others j (λ e. omega arith)))
