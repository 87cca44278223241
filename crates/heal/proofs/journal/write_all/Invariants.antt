use Rattle.std.proofs.Common.{◌≡◌, ◌-◌, ◌*◌, length, drop}
use Rattle.heal.specs.Journal.{own, entries}
use Rattle.heal.proofs.Atomics.{At}
use Rattle.heal.proofs.journal.write_all.Given as goal

abbrev pub invariant-loop-i : goal.invariant-loop-i
invariant-loop-i g l =
    record {
      can : (goal.iterator-loop-i g).can_next l.i-iterator;
      finite : (goal.iterator-loop-i g).is_finite l.i-iterator;
      at : At (2 * length l.yielded) (g.K.Desk.kern l.initial.k) (g.K.Desk.seen l.initial.k) (own (g.K.Desk.kern l.k)) (g.K.Desk.kern l.k) (g.K.Desk.seen l.k);
      settled : own (g.K.Desk.kern l.k) 0 ≡ 0;
      noted : entries (length l.yielded) (own (g.K.Desk.kern l.k)) ≡ drop (length l.pairs - length l.yielded) l.pairs;
    }
