use Rattle.std.proofs.Common.{sym, ◌∙◌}
use Rattle.memory.specs.Lines.{reads}
use Rattle.memory.proofs.Scripts.{between_then}
use Rattle.memory.proofs.machine.Machine.run_or_read.Goals as goal

pub returns-then-eq-clause-begun : goal.returns-then-eq-clause-begun
returns-then-eq-clause-begun c = reads c.runs_on.new.self (sym c.runs_on.ensures.goes ∙ c.if-runs_on.false) c.runs_on.ensures.kept c.read_lines.ensures.went

pub returns-then-eq-clause-between : goal.returns-then-eq-clause-between
returns-then-eq-clause-between c = between_then c.runs_on.ensures.between c.read_lines.ensures.between
