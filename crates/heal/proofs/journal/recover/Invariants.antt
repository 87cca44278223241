use Rattle.std.proofs.Common.{◌≡◌, ◌-◌, ◌*◌, ◌≤◌}
use Rattle.heal.specs.Journal.{own}
use Rattle.heal.proofs.Atomics.{At}
use Rattle.heal.proofs.journal.recover.Given as goal

abbrev pub invariant-loop-m : goal.invariant-loop-m
invariant-loop-m g l =
    record {
      at : At (4 * (l.n - l.m)) (g.K.Desk.kern l.initial.k) (g.K.Desk.seen l.initial.k) (own (g.K.Desk.kern l.k)) (g.K.Desk.kern l.k) (g.K.Desk.seen l.k);
      count : own (g.K.Desk.kern l.k) 0 ≡ l.m;
      few : l.n ≤ 8;
      some : 32 ≤ (g.K.Desk.kern l.initial.k).left;
    }
