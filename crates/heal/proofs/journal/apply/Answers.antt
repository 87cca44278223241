use Rattle.std.proofs.Common.{◌≡◌, ℕ, ◌+◌, ◌*◌, ◌<◌, true, List, Ok, Result, sym, refl, ap, ◌∙◌, arith, rules}
use mathlib.Core.Bool.{false≢true}
use Rattle.heal.specs.Kernel.{Kern, Event, Does, cells_of, set}
use Rattle.heal.specs.Journal.{Sound, own}
use Rattle.heal.specs.declared.Down.{Down}
use Rattle.heal.proofs.Cells.{Applies, applies, set_here}
use Rattle.heal.proofs.Atomics.{At, at_start, at_get, at_put, at_left, at_there, lost_get, lost_put, end_same, more, not_ok, ok_is, sound_own, sound_few, cells_many, cells_few}
use Rattle.heal.proofs.journal.apply.Goals as goal

-- both reads
module _ (m : ℕ) (k : Kern) (es : List Event) (h : Sound k) (e : own k 0 ≡ m + 1) (x : ℕ) (k1 : Kern) (es1 : List Event) (dx : Does k k es es true k1 es1) (ex : ◌≡◌ {A = Result ℕ Down} (Ok x) (Ok (own k (2 * m + 1)))) where
  one : At 1 k es (own k) k1 es1
  one = at_get (at_start k es h) dx refl

  x-is : x ≡ own k (2 * m + 1)
  x-is = ok_is x (own k (2 * m + 1)) ex

  x-small : x + 17 < cells_of k.at
  x-small = (applies k.at m x (own k (2 * m + 2)) (own k) e (sound_own k h) x-is refl).inside

  module _ (y : ℕ) (k2 : Kern) (es2 : List Event) (dy : Does k1 k1 es1 es1 true k2 es2) (ey : ◌≡◌ {A = Result ℕ Down} (Ok y) (Ok (own k1 (2 * m + 2)))) where
    two : At 2 k es (own k) k2 es2
    unfolding one
    two = at_get one dy refl

    facts : Applies k.at m x y (own k)
    unfolding one
    facts = applies k.at m x y (own k) e (sound_own k h) x-is (ok_is y (own k1 (2 * m + 2)) ey ∙ ap (λ f. f (2 * m + 2)) one.cells)

pub returns-in_err-cell : goal.returns-in_err-cell
returns-in_err-cell g c =
    let no = not_ok c.from_residual.result c.from_residual.ensures.0 in
    let w = lost_get (at_start _ _ c.requires.sound) _ _ c.in_err-cell.ensures.1 refl no in
    record { sound = w.0; count = λ e. absurd (false≢true (sym no ∙ e)); same = more (omega arith) w.1 }

pub overflow_cast-cell : goal.overflow_cast-cell
overflow_cast-cell g c =
    let h = x-small _ _ _ c.requires.sound c.requires.count c.in_ok-cell.field-0 _ _ c.in_ok-cell.ensures.1 (c.in_ok-cell.ensures.0 refl) in
    let i = cells_few (g.K.Desk.kern c.args.k.now).at in search rules

pub overflow_add-cell : goal.overflow_add-cell
overflow_add-cell g c =
    let h = x-small _ _ _ c.requires.sound c.requires.count c.in_ok-cell.field-0 _ _ c.in_ok-cell.ensures.1 (c.in_ok-cell.ensures.0 refl) in
    let i = cells_few (g.K.Desk.kern c.args.k.now).at in search rules

pub get-requires-2 : goal.get-requires-2
get-requires-2 g c =
    let h = sound_few (g.K.Desk.kern c.args.k.now) c.requires.sound in
    let i = cells_many (g.K.Desk.kern c.get.new.self).at in
    let a = one _ _ _ c.requires.sound c.requires.count c.in_ok-cell.field-0 _ _ c.in_ok-cell.ensures.1 (c.in_ok-cell.ensures.0 refl) in
    (omega (arith, c.requires.some, at_left a), omega arith)

pub returns-in_err-word : goal.returns-in_err-word
returns-in_err-word g c =
    let no = not_ok c.from_residual-in_err-word.result c.from_residual-in_err-word.ensures.0 in
    let a = one _ _ _ c.requires.sound c.requires.count c.in_ok-cell.field-0 _ _ c.in_ok-cell.ensures.1 (c.in_ok-cell.ensures.0 refl) in
    let w = lost_get a _ _ c.in_err-word.ensures.1 refl no in
    record { sound = w.0; count = λ e. absurd (false≢true (sym no ∙ e)); same = more (omega arith) w.1 }

pub put-requires : goal.put-requires
put-requires g c =
    let a = two _ _ _ c.requires.sound c.requires.count c.in_ok-cell.field-0 _ _ c.in_ok-cell.ensures.1 (c.in_ok-cell.ensures.0 refl) c.in_ok-word.word _ _ c.in_ok-word.ensures.1 (c.in_ok-word.ensures.0 refl) in
    (omega (arith, c.requires.some, at_left a), at_there a (c.in_ok-cell.field-0 + 17) (x-small _ _ _ c.requires.sound c.requires.count c.in_ok-cell.field-0 _ _ c.in_ok-cell.ensures.1 (c.in_ok-cell.ensures.0 refl)))

pub returns-in_err-put : goal.returns-in_err-put
returns-in_err-put g c =
    let no = not_ok c.from_residual-in_err-put.result c.from_residual-in_err-put.ensures.0 in
    let a = two _ _ _ c.requires.sound c.requires.count c.in_ok-cell.field-0 _ _ c.in_ok-cell.ensures.1 (c.in_ok-cell.ensures.0 refl) c.in_ok-word.word _ _ c.in_ok-word.ensures.1 (c.in_ok-word.ensures.0 refl) in
    let f = facts _ _ _ c.requires.sound c.requires.count c.in_ok-cell.field-0 _ _ c.in_ok-cell.ensures.1 (c.in_ok-cell.ensures.0 refl) c.in_ok-word.word _ _ c.in_ok-word.ensures.1 (c.in_ok-word.ensures.0 refl) in
    let w = lost_put a _ _ _ _ f.view_1 f.fine_1 c.in_err-put.ensures refl no in
    record { sound = w.0; count = λ e. absurd (false≢true (sym no ∙ e)); same = more (omega arith) w.1 }

pub put-requires-2 : goal.put-requires-2
put-requires-2 g c =
    let a = two _ _ _ c.requires.sound c.requires.count c.in_ok-cell.field-0 _ _ c.in_ok-cell.ensures.1 (c.in_ok-cell.ensures.0 refl) c.in_ok-word.word _ _ c.in_ok-word.ensures.1 (c.in_ok-word.ensures.0 refl) in
    let f = facts _ _ _ c.requires.sound c.requires.count c.in_ok-cell.field-0 _ _ c.in_ok-cell.ensures.1 (c.in_ok-cell.ensures.0 refl) c.in_ok-word.word _ _ c.in_ok-word.ensures.1 (c.in_ok-word.ensures.0 refl) in
    let b = at_put a _ _ f.view_1 f.fine_1 c.in_ok-put.ensures refl in
    let i = cells_many (g.K.Desk.kern c.put.new.self).at in
    (omega (arith, c.requires.some, at_left b), omega arith)

pub returns : goal.returns
returns g c =
    let a = two _ _ _ c.requires.sound c.requires.count c.in_ok-cell.field-0 _ _ c.in_ok-cell.ensures.1 (c.in_ok-cell.ensures.0 refl) c.in_ok-word.word _ _ c.in_ok-word.ensures.1 (c.in_ok-word.ensures.0 refl) in
    let f = facts _ _ _ c.requires.sound c.requires.count c.in_ok-cell.field-0 _ _ c.in_ok-cell.ensures.1 (c.in_ok-cell.ensures.0 refl) c.in_ok-word.word _ _ c.in_ok-word.ensures.1 (c.in_ok-word.ensures.0 refl) in
    let b = at_put a _ _ f.view_1 f.fine_1 c.in_ok-put.ensures refl in
    let w = end_same b _ _ f.view_2 f.fine_2 c.put-2.ensures in
    record { sound = w.0; count = λ e. ap (λ h. h 0) (w.1 e) ∙ set_here 0 c.args.m (set (c.in_ok-cell.field-0 + 17) c.in_ok-word.word (own (g.K.Desk.kern c.args.k.now))) 0 refl; same = w.2 }
