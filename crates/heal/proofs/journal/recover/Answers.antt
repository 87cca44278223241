use Rattle.std.proofs.Common.{◌≡◌, ℕ, ◌≤◌, true, List, Ok, Result, sym, refl, ap, ◌∙◌, arith}
use mathlib.Core.Bool.{false≢true}
use Rattle.heal.specs.Kernel.{Kern, Event, Does}
use Rattle.heal.specs.Journal.{Sound, own}
use Rattle.heal.specs.declared.Down.{Down}
use Rattle.heal.proofs.Atomics.{At, at_start, at_own, at_get, at_call, at_left, at_join, at_more, at_end, lost_get, lost_call, more, not_ok, ok_is, sound_few, stood}
use Rattle.heal.proofs.journal.recover.Goals as goal

-- the first read
module _ (k : Kern) (es : List Event) (h : Sound k) (x : ℕ) (k1 : Kern) (es1 : List Event) (d : Does k k es es true k1 es1) (e : ◌≡◌ {A = Result ℕ Down} (Ok x) (Ok (own k 0))) where
  read : At 1 k es (own k1) k1 es1
  read = at_own (at_get (at_start k es h) d refl)

  few : x ≤ 8
  few = omega (arith, sound_few k h, ok_is x (own k 0) e)

  count : own k1 0 ≡ x
  count = ap (λ f. f 0) (at_get (at_start k es h) d refl).cells ∙ sym (ok_is x (own k 0) e)

pub loop-m-init : goal.loop-m-init
loop-m-init g c =
    let a = read _ _ c.requires.sound c.in_ok-n.field-0 _ _ c.in_ok-n.ensures.1 (c.in_ok-n.ensures.0 refl) in
    record {
      at = at_more (omega arith) (at_start _ _ a.sound);
      count = count _ _ c.requires.sound c.in_ok-n.field-0 _ _ c.in_ok-n.ensures.1 (c.in_ok-n.ensures.0 refl);
      few = few _ _ c.requires.sound c.in_ok-n.field-0 _ _ c.in_ok-n.ensures.1 (c.in_ok-n.ensures.0 refl);
      some = omega (arith, at_left a, c.requires.some);
    }

pub loop-m-preserved : goal.loop-m-preserved
loop-m-preserved g c =
    let p = c.in_ok-apply.ensures in
    let i = c.loop-m.invariant in record { at = at_more (omega arith) (at_call i.at p.sound p.same refl); count = p.count refl; few = i.few; some = i.some }

pub returns-in_err-n : goal.returns-in_err-n
returns-in_err-n g c =
    let no = not_ok c.from_residual.result c.from_residual.ensures.0 in
    let w = lost_get (at_start _ _ c.requires.sound) _ _ c.in_err-n.ensures.1 refl no in record { still = record { sound = w.0; settled = λ e. absurd (false≢true (sym no ∙ e)) }; same = more (omega arith) w.1 }

pub returns-in_err-apply-clause-same : goal.returns-in_err-apply-clause-same
returns-in_err-apply-clause-same g c =
    let no = not_ok c.from_residual-in_err-apply.result c.from_residual-in_err-apply.ensures.0 in
    let a = read _ _ c.requires.sound c.in_ok-n.field-0 _ _ c.in_ok-n.ensures.1 (c.in_ok-n.ensures.0 refl) in
    more (omega arith) (lost_call (at_join a c.loop-m.invariant.at) _ _ _ c.in_err-apply.ensures.same refl no)

pub returns-clause-same : goal.returns-clause-same
returns-clause-same g c =
    let a = read _ _ c.requires.sound c.in_ok-n.field-0 _ _ c.in_ok-n.ensures.1 (c.in_ok-n.ensures.0 refl) in
    more (omega arith) (at_end (at_join a c.loop-m.invariant.at) (stood c.in_ok-n.ensures.1 refl).0)
