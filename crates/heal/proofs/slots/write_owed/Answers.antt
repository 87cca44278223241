use Rattle.std.proofs.Common.{◌≡◌, cond, refl, ap, ◌∙◌, inl, inr, arith}
use Rattle.heal.specs.Codec.{answer_number_of, answer_has_a, answer_has_x}
use Rattle.heal.specs.Journal.{viewed}
use Rattle.heal.specs.Turn.{cells}
use Rattle.heal.proofs.Steps.{did_then, after_then}
use Rattle.heal.proofs.Sweeping.{answer_keeps, put_other, put_here}
use Rattle.heal.proofs.Finishing.{one_word, word_if, if_here, if_other, words_then, words_noted, noted}
use Rattle.heal.proofs.slots.write_owed.Goals as goal

pub write-requires-clause-keeps : goal.write-requires-clause-keeps
write-requires-clause-keeps g c = answer_keeps 33 _ (viewed (g.K.Desk.kern c.args.k.now)) _ (inl refl) c.requires.calm

pub write_if-requires-clause-keeps : goal.write_if-requires-clause-keeps
write_if-requires-clause-keeps g c =
    let k1 = g.K.Desk.kern c.write.new.k in
    let same = put_other 33 _ (g.K.Desk.kern c.args.k.now) k1 _ _ (c.in_ok-write.ensures.gives _ refl) 32 (λ e. omega arith) in answer_keeps 34 _ (viewed k1) _ (inr (inl refl)) (omega (arith, c.requires.calm))

pub write_if-requires-2-clause-keeps : goal.write_if-requires-2-clause-keeps
write_if-requires-2-clause-keeps g c =
    let K = g.K.Desk.kern in
    let k1 = K c.write.new.k in
    let k2 = K c.write_if.new.k in
    let same = put_other 33 _ (K c.args.k.now) k1 _ _ (c.in_ok-write.ensures.gives _ refl) 32 (λ e. omega arith) in
    let same2 = if_other 34 _ k1 k2 _ _ _ (c.in_ok-write_if.ensures.gives _ refl) 32 (λ e. omega arith) in answer_keeps 35 _ (viewed k2) _ (inr (inr refl)) (omega (arith, c.requires.calm))

pub returns : goal.returns
returns g c =
    let K = g.K.Desk.kern in
    let S = g.K.Desk.seen in
    let k0 = K c.args.k.now in
    let s0 = S c.args.k.now in
    let k1 = K c.write.new.k in
    let s1 = S c.write.new.k in
    let k2 = K c.write_if.new.k in
    let s2 = S c.write_if.new.k in
    let k3 = K c.write_if-2.new.k in
    let s3 = S c.write_if-2.new.k in
    let w = c.from-w.result in
    let x1 = c.in_ok-write.ensures.gives _ refl in
    let x2 = c.in_ok-write_if.ensures.gives _ refl in
    did_then (after_then c.in_ok-write.ensures.after c.in_ok-write_if.ensures.after) c.write_if-2.ensures (λ y e x3.
    (let words =
    words_then (words_then (one_word 33 _ k0 (omega arith, omega arith) x1) (word_if 34 w.a k1 k2 s1 s2 _ (omega arith, omega arith) x2)) (word_if 35 w.x k2 k3 s2 s3 _ (omega arith, omega arith) x3) in
    let kind : cells k3 33 ≡ answer_number_of w.kind = if_other 35 w.x k2 k3 s2 s3 _ x3 33 (λ e. omega arith) ∙ if_other 34 w.a k1 k2 s1 s2 _ x2 33 (λ e. omega arith) ∙ put_here 33 _ k0 k1 s0 s1 x1 ∙ c.into.ensures in
    let a : cells k3 34 ≡ cond (answer_has_a (answer_number_of w.kind)) w.a (cells k1 34) =
    if_other 35 w.x k2 k3 s2 s3 _ x3 34 (λ e. omega arith) ∙ if_here 34 w.a k1 k2 s1 s2 _ x2 ∙ ap (λ h. cond h w.a (cells k1 34)) c.has_a.ensures in
    let x : cells k3 35 ≡ cond (answer_has_x (answer_number_of w.kind)) w.x (cells k2 35) = if_here 35 w.x k2 k3 s2 s3 _ x3 ∙ ap (λ h. cond h w.x (cells k2 35)) c.has_x.ensures in
    noted words (words_noted w.kind w.a w.x _ (cells k3) _ _ c.from-w.ensures kind a x))) (omega arith)
