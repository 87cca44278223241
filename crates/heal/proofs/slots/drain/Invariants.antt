use Rattle.std.proofs.Common.{◌≡◌, ◌+◌, ◌*◌, ◌≤◌, true, length}
use Rattle.heal.specs.Invariant.{sweep}
use Rattle.heal.specs.Turn.{After, cells}
use Rattle.heal.proofs.slots.drain.Given as goal

-- so many messages have been taken, and at most 64 were there
abbrev pub invariant-loop : goal.invariant-loop
invariant-loop g l =
    record {
      after : After (10 * l.counter) (g.K.Desk.kern l.initial.k) (g.K.Desk.seen l.initial.k) true (g.K.Desk.kern l.k) (g.K.Desk.seen l.k);
      few : length ((g.K.Desk.kern l.k).box (g.K.Desk.kern l.k).at) + l.counter ≤ 64;
      swept : sweep (cells (g.K.Desk.kern l.k)) ≡ sweep (cells (g.K.Desk.kern l.initial.k));
    }
