use Rattle.memory.specs.Notes.{logged}
use Rattle.memory.proofs.Begins.{no_mail, noughts, one_runs, others_rest, none_waits, none_counted}
use Rattle.std.proofs.Common.{refl}
use Rattle.memory.proofs.machine.Machine.new.Goals as goal

pub returns-clause-starts : goal.returns-clause-starts
returns-clause-starts c = (no_mail _ _ _ c.new.ensures c.new-2.ensures c.new-3.ensures, noughts _ c.requires.clean, one_runs, others_rest, none_waits, none_counted, refl, refl, refl)

pub returns-clause-unseen : goal.returns-clause-unseen
unfolding logged
returns-clause-unseen c = refl
