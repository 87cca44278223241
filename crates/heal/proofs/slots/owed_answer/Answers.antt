use Rattle.std.proofs.Common.{refl, sym, ◌∙◌, arith}
use Rattle.heal.specs.Codec.{answer_of}
use Rattle.heal.proofs.Steps.{did_ok, after_then, same_cell, read_read}
use Rattle.heal.proofs.slots.owed_answer.Goals as goal

pub returns : goal.returns
returns g c =
    let K = g.K.Desk.kern in
    let S = g.K.Desk.seen in
    let k0 = K c.args.k.now in
    let s0 = S c.args.k.now in
    let k1 = K c.read.new.k in
    let s1 = S c.read.new.k in
    let k2 = K c.read-2.new.k in
    let s2 = S c.read-2.new.k in
    let k3 = K c.read-3.new.k in
    let s3 = S c.read-3.new.k in
    let r1 = c.in_ok-read.ensures in
    let r2 = c.in_ok-a.ensures in
    let r3 = c.in_ok-x.ensures in
    let x1 = r1.gives _ refl in
    let x2 = r2.gives _ refl in
    let x3 = r3.gives _ refl in
    let q1 = same_cell k0 x1.1 in
    let q2 = same_cell k1 x2.1 in
    let a = x2.0 ∙ q1 34 in
    let x = x3.0 ∙ (q2 35 ∙ q1 35) in
    let is = c.into.ensures ∙ sym (c.into-kind.ensures c.in_ok-a.a c.in_ok-x.x) ∙ (λ i. answer_of (x1.0 i) (a i) (x i)) in
    did_ok (after_then (after_then r1.after r2.after) r3.after) (is, read_read k0 (read_read k0 x1.1 x2.1) x3.1) (omega arith)
