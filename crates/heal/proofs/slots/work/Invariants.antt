use Rattle.std.proofs.Common.{◌*◌, true}
use Rattle.heal.specs.Turn.{After, Calm, Gives}
use Rattle.heal.proofs.slots.work.Given as goal

-- so many steps have been made
abbrev pub invariant-loop : goal.invariant-loop
invariant-loop g l =
    record {
      after : After (90 * l.counter) (g.K.Desk.kern l.initial.k) (g.K.Desk.seen l.initial.k) true (g.K.Desk.kern l.k) (g.K.Desk.seen l.k);
      calm : Calm (g.K.Desk.kern l.initial.k) (g.K.Desk.kern l.k);
      gives : Gives l.counter (g.K.Desk.kern l.initial.k) (g.K.Desk.seen l.initial.k) (g.K.Desk.kern l.k) (g.K.Desk.seen l.k);
    }
