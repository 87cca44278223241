use Rattle.std.proofs.Common.{◌≡◌, ℕ, ◌<◌, true}
use Rattle.heal.specs.Journal.{viewed}
use Rattle.heal.specs.Files.{hand_at}
use Rattle.heal.specs.Turn.{After, Exact, cells}
use Rattle.heal.proofs.files.lowest_empty.Given as goal

-- none of those below it is empty
abbrev pub invariant-loop-handle : goal.invariant-loop-handle
invariant-loop-handle g l =
    record {
      after : After l.handle (g.K.Desk.kern l.initial.k) (g.K.Desk.seen l.initial.k) true (g.K.Desk.kern l.k) (g.K.Desk.seen l.k);
      same : Exact (viewed (g.K.Desk.kern l.initial.k)) (g.K.Desk.seen l.initial.k) (g.K.Desk.kern l.k) (g.K.Desk.seen l.k);
      taken : (i : ℕ) → i < l.handle → cells (g.K.Desk.kern l.initial.k) (hand_at l.p i) ≡ 0 → ⊥;
    }
