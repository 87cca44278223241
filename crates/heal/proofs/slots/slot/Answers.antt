use Rattle.std.proofs.Common.{◌+◌, cond, refl, ap, ◌∙◌, arith}
use Rattle.heal.specs.Codec.{number_of, has_b, has_x}
use Rattle.heal.specs.Turn.{cells}
use Rattle.heal.proofs.Holding.{slot_none, slot_some, same_words}
use Rattle.heal.proofs.Steps.{did_ok, after_then, read_read, same_cells}
use Rattle.heal.proofs.slots.slot.Goals as goal

pub returns-then-not-branch : goal.returns-then-not-branch
returns-then-not-branch g c =
    let k0 = g.K.Desk.kern c.args.k.now in
    let r1 = c.in_ok-is_full.ensures in
    let x1 = r1.gives _ refl in did_ok r1.after (slot_none c.args.p k0 (x1.1 c.if-not-branch.true), x1.2) (omega arith)

pub returns : goal.returns
returns g c =
    let K = g.K.Desk.kern in
    let S = g.K.Desk.seen in
    let k0 = K c.args.k.now in
    let s0 = S c.args.k.now in
    let k1 = K c.is_full.new.k in
    let s1 = S c.is_full.new.k in
    let k2 = K c.read.new.k in
    let s2 = S c.read.new.k in
    let k3 = K c.read-2.new.k in
    let s3 = S c.read-2.new.k in
    let k4 = K c.read_if.new.k in
    let s4 = S c.read_if.new.k in
    let k5 = K c.read_if-2.new.k in
    let s5 = S c.read_if-2.new.k in
    let r1 = c.in_ok-is_full.ensures in
    let r2 = c.in_ok-read.ensures in
    let r3 = c.in_ok-a.ensures in
    let r4 = c.in_ok-b.ensures in
    let r5 = c.in_ok-x.ensures in
    let x1 = r1.gives _ refl in
    let x2 = r2.gives _ refl in
    let x3 = r3.gives _ refl in
    let x4 = r4.gives _ refl in
    let x5 = r5.gives _ refl in
    let p = c.args.p in
    let q1 = same_cells k0 x1.2 in
    let q2 = same_cells k1 x2.1 ∙ q1 in
    let q3 = same_cells k2 x3.1 ∙ q2 in
    let q4 = same_cells k3 x4.1 ∙ q3 in
    let n = number_of c.from-kind.result in
    let kind = x2.0 ∙ ap (λ f. f (192 + p)) q1 in
    let a = x3.0 ∙ ap (λ f. f (256 + p)) q2 in
    let b = x4.0 ∙ (ap (λ h. cond h (cells k3 (320 + p)) 0) c.has_b.ensures ∙ ap (λ f. cond (has_b n) (f (320 + p)) 0) q3) in
    let x = x5.0 ∙ (ap (λ h. cond h (cells k4 (384 + p)) 0) c.has_x.ensures ∙ ap (λ f. cond (has_x n) (f (384 + p)) 0) q4) in
    let ex = read_read k0 (read_read k0 (read_read k0 (read_read k0 x1.2 x2.1) x3.1) x4.1) x5.1 in
    let is = same_words c.into.result c.from-kind.result _ _ _ _ _ _ _ _ c.into.ensures c.from-kind.ensures kind a b x in
    did_ok (after_then (after_then (after_then (after_then r1.after r2.after) r3.after) r4.after) r5.after) (slot_some p k0 s0 c.into.result c.requires.small (x1.0 c.if-not-branch.false) is c.requires.able.inv, ex) (omega arith)
