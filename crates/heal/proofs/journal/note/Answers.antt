use Rattle.std.proofs.Common.{◌≡◌, ℕ, ◌+◌, ◌*◌, ◌<◌, true, List, sym, refl, ap, ◌∙◌, add-one, arith}
use mathlib.Core.Bool.{false≢true}
use Rattle.heal.specs.Kernel.{Kern, Event, Does, kept, set}
use Rattle.heal.specs.Journal.{Sound, own, entries}
use Rattle.heal.proofs.Cells.{front_settled, front_fine, entry_put}
use Rattle.heal.proofs.Atomics.{At, at_start, at_put, lost_put, end_same, more, not_ok}
use Rattle.heal.proofs.journal.note.Goals as goal

-- the first put
module _ (i x : ℕ) (k : Kern) (es : List Event) (h : Sound k) (e : own k 0 ≡ 0) (few : i < 8) (k1 : Kern) (es1 : List Event) (d : Does k (kept (2 * i + 1) x k) es es true k1 es1) where
  one : At 1 k es (set (2 * i + 1) x (own k)) k1 es1
  one = at_put (at_start k es h) (2 * i + 1) x (front_settled (2 * i + 1) x (own k) e (omega arith) (omega arith)).1 (front_fine k.at (2 * i + 1) x (own k) e (omega arith) (omega arith)) d refl

pub returns-in_err-put : goal.returns-in_err-put
returns-in_err-put g c =
    let no = not_ok c.from_residual.result c.from_residual.ensures.0 in
    let i = c.args.i in
    let w =
    lost_put (at_start _ _ c.requires.recovered.sound) _ _ (2 * i + 1) c.args.cell (front_settled (2 * i + 1) c.args.cell _ c.requires.recovered.settled (omega arith) (omega arith)).1
    (front_fine _ (2 * i + 1) c.args.cell _ c.requires.recovered.settled (omega arith) (omega arith)) c.in_err-put.ensures refl no in
    record { still = record { sound = w.0; settled = λ e. absurd (false≢true (sym no ∙ e)) }; noted = λ e. absurd (false≢true (sym no ∙ e)); same = more (omega arith) w.1 }

pub returns : goal.returns
returns g c =
    let a = one c.args.i c.args.cell _ _ c.requires.recovered.sound c.requires.recovered.settled c.requires.few _ _ c.in_ok-put.ensures in
    let i = c.args.i in
    let f = own (g.K.Desk.kern c.args.k.now) in
    let s = front_settled (2 * i + 1) c.args.cell f c.requires.recovered.settled (omega arith) (omega arith) in
    let t = front_settled (2 * i + 2) c.args.word (set (2 * i + 1) c.args.cell f) s.0 (omega arith) (omega arith) in
    let w =
    end_same a (2 * i + 2) c.args.word t.1 (front_fine _ (2 * i + 2) c.args.word _ s.0 (omega arith) (omega arith)) c.put-2.ensures in
    record { still = record { sound = w.0; settled = λ e. ap (λ h. h 0) (w.1 e) ∙ t.0 }; noted = λ e. ap (entries (i + 1)) (w.1 e) ∙ rw (add-one i) (entry_put i c.args.cell c.args.word f); same = w.2 }
