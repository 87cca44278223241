use Rattle.std.proofs.Common.{◌-◌}
use Rattle.heal.proofs.Rounds.{Stands}
use Rattle.heal.proofs.days.Given as goal

abbrev pub invariant-loop-t : goal.invariant-loop-t
invariant-loop-t g l = Stands (g.W.Desk.kern l.w) (g.W.Desk.seen l.w)

abbrev pub decreases-loop-t : goal.decreases-loop-t
decreases-loop-t g l = l.many - l.t
