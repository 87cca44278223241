use Rattle.std.proofs.Common.{◌≡◌, take}
use Rattle.heal.proofs.decision.Moment.new.Given as goal

abbrev pub invariant-loop-cell : goal.invariant-loop-cell
invariant-loop-cell l = l.t ≡ take l.cell-index l.writes
