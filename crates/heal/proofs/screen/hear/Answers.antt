use Rattle.std.proofs.Common.{◌≡◌, None, Some, sym, refl, ap, ◌∙◌, arith}
use Rattle.heal.specs.declared.Call.TheVariants.{Hear}
use Rattle.heal.specs.Kernel.{key_at}
use Rattle.heal.specs.Journal.{viewed}
use Rattle.heal.proofs.Steps.{able, after_then, same_cell}
use Rattle.heal.proofs.Ending.{looked, look_then, or_err, fell, passes, ends}
use Rattle.heal.proofs.Serving.{at_desk, counts_fit, desk_cell, desk_not_own}
use Rattle.heal.proofs.Deciders.{hears, hear_waits, hear_done}
use Rattle.heal.proofs.screen.hear.Goals as goal

pub returns-in_err-ensure_owner : goal.returns-in_err-ensure_owner
returns-in_err-ensure_owner g c = desk_not_own c.args.p hears c.requires.stand _ c.in_err-ensure_owner.ensures c.from_residual.result c.from_residual.ensures.1 (omega arith)

pub read-requires-clause-able : goal.read-requires-clause-able
read-requires-clause-able g c = able c.requires.able c.in_ok-ensure_owner.ensures.0.after 1 (omega arith)

pub returns-in_err-heard : goal.returns-in_err-heard
returns-in_err-heard g c = fell c.args.p Hear c.from_residual-in_err-heard.result c.from_residual-in_err-heard.ensures.1 (after_then c.in_ok-ensure_owner.ensures.0.after c.in_err-heard.ensures.after) (omega arith)

pub key-requires : goal.key-requires
key-requires g c =
    let a = after_then c.in_ok-ensure_owner.ensures.0.after c.in_ok-heard.ensures.after in
    record { able = able c.requires.able a 1 (omega arith); two = a.seat ∙ at_desk (g.K.Desk.kern c.args.k.now) hears c.requires.stand }

pub returns-in_err-key : goal.returns-in_err-key
returns-in_err-key g c = fell c.args.p Hear c.from_residual-in_err-key.result c.from_residual-in_err-key.ensures.1 (after_then (after_then c.in_ok-ensure_owner.ensures.0.after c.in_ok-heard.ensures.after) c.in_err-key.ensures.after) (omega arith)

pub returns-in_err-word : goal.returns-in_err-word
returns-in_err-word g c =
    let k0 = g.K.Desk.kern c.args.k.now in
    let z = c.requires.stand in
    let two = at_desk k0 hears z in
    let d = c.in_ok-ensure_owner.ensures in
    let s = look_then d.0 (looked c.in_ok-heard.ensures) in
    let o = or_err c.in_ok-key.field-0 c.in_err-word.ensures.value in
    let n : (viewed k0).cell 2 54 ≡ c.in_ok-heard.heard = desk_cell k0 54 two ∙ sym ((c.in_ok-heard.ensures.gives _ refl).0 ∙ same_cell k0 d.0.same 54) in
    let none : key_at ((viewed k0).cell 2 54) k0.keys ≡ None = ap (λ n. key_at n k0.keys) n ∙ (ap (λ κ. key_at c.in_ok-heard.heard κ.keys) (sym s.same.is) ∙ (sym (c.in_ok-key.ensures.gives _ refl).0 ∙ o.0)) in
    passes c.args.p Hear c.from_residual-in_err-word.result c.from_residual-in_err-word.ensures.1 o.1 (look_then s (looked c.in_ok-key.ensures)) (z, hear_waits c.args.p (viewed k0) _ two z (desk_cell k0 52 two ∙ d.1) none) (omega arith)

pub overflow_add-heard : goal.overflow_add-heard
overflow_add-heard g c =
    let k0 = g.K.Desk.kern c.args.k.now in
    let z = c.requires.stand in
    let w = counts_fit k0 (at_desk k0 hears z) z c.requires.able in
    let v = (c.in_ok-heard.ensures.gives _ refl).0 ∙ same_cell k0 c.in_ok-ensure_owner.ensures.0.same 54 in
    omega (arith, w.1, v)

pub returns : goal.returns
returns g c =
    let k0 = g.K.Desk.kern c.args.k.now in
    let z = c.requires.stand in
    let two = at_desk k0 hears z in
    let d = c.in_ok-ensure_owner.ensures in
    let s = look_then d.0 (looked c.in_ok-heard.ensures) in
    let n : (viewed k0).cell 2 54 ≡ c.in_ok-heard.heard = desk_cell k0 54 two ∙ sym ((c.in_ok-heard.ensures.gives _ refl).0 ∙ same_cell k0 d.0.same 54) in
    let key : key_at c.in_ok-heard.heard k0.keys ≡ Some c.in_ok-word.word = ap (λ κ. key_at c.in_ok-heard.heard κ.keys) (sym s.same.is) ∙ (sym (c.in_ok-key.ensures.gives _ refl).0 ∙ c.in_ok-word.ensures.ok_part) in
    ends c.args.p Hear c.new.ensures.answer c.new.ensures.writes (look_then s (looked c.in_ok-key.ensures)) z (hear_done c.args.p (viewed k0) _ two c.in_ok-heard.heard c.in_ok-word.word z (desk_cell k0 52 two ∙ d.1) n key) (omega arith)
