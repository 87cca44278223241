use Rattle.std.proofs.Common.{◌-◌, length}
use Rattle.memory.specs.Lines.{Went}
use Rattle.memory.specs.Beside.{BetweenTurns}
use Rattle.memory.proofs.machine.Machine.read_lines.Given as goal

abbrev pub invariant-loop-read : goal.invariant-loop-read
invariant-loop-read l = BetweenTurns l.initial.self l.self × Went l.initial.self l.self

abbrev pub decreases-loop-read : goal.decreases-loop-read
decreases-loop-read l = length l.self.lines.text.now - l.self.lines.at
