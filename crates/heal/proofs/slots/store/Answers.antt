use Rattle.std.proofs.Common.{◌+◌, refl, ap, ◌∙◌, inl, inr, arith}
use Rattle.heal.specs.Codec.{call_of}
use Rattle.heal.specs.Journal.{viewed}
use Rattle.heal.proofs.Steps.{able, did_then, did_lost, after_then}
use Rattle.heal.proofs.Storing.{word_keeps, word_storing, words_there, last_keeps, stored}
use Rattle.heal.proofs.slots.store.Goals as goal

pub write-requires-clause-keeps : goal.write-requires-clause-keeps
write-requires-clause-keeps g c = word_keeps c.args.p c.args.number c.args.call (viewed (g.K.Desk.kern c.args.k.now)) _ (192 + c.args.p) _ c.requires.small (inl refl) c.requires.storing

pub write-requires-2-clause-keeps : goal.write-requires-2-clause-keeps
write-requires-2-clause-keeps g c =
    let K = g.K.Desk.kern in
    let k1 = K c.write.new.k in
    let p = c.args.p in
    let small = c.requires.small in
    let h1 = word_storing p c.args.number c.args.call (192 + p) _ (K c.args.k.now) k1 _ _ small (inl refl) c.requires.storing (c.in_ok-write.ensures.gives _ refl) in
    word_keeps p c.args.number c.args.call (viewed k1) _ (256 + p) _ small (inr (inl refl)) h1

pub write-requires-3-clause-keeps : goal.write-requires-3-clause-keeps
write-requires-3-clause-keeps g c =
    let K = g.K.Desk.kern in
    let k1 = K c.write.new.k in
    let k2 = K c.write-2.new.k in
    let p = c.args.p in
    let small = c.requires.small in
    let h1 = word_storing p c.args.number c.args.call (192 + p) _ (K c.args.k.now) k1 _ _ small (inl refl) c.requires.storing (c.in_ok-write.ensures.gives _ refl) in
    let h2 = word_storing p c.args.number c.args.call (256 + p) _ k1 k2 _ _ small (inr (inl refl)) h1 (c.in_ok-write-2.ensures.gives _ refl) in
    word_keeps p c.args.number c.args.call (viewed k2) _ (320 + p) _ small (inr (inr (inl refl))) h2

pub write-requires-4-clause-keeps : goal.write-requires-4-clause-keeps
write-requires-4-clause-keeps g c =
    let K = g.K.Desk.kern in
    let k1 = K c.write.new.k in
    let k2 = K c.write-2.new.k in
    let k3 = K c.write-3.new.k in
    let p = c.args.p in
    let small = c.requires.small in
    let h1 = word_storing p c.args.number c.args.call (192 + p) _ (K c.args.k.now) k1 _ _ small (inl refl) c.requires.storing (c.in_ok-write.ensures.gives _ refl) in
    let h2 = word_storing p c.args.number c.args.call (256 + p) _ k1 k2 _ _ small (inr (inl refl)) h1 (c.in_ok-write-2.ensures.gives _ refl) in
    let h3 = word_storing p c.args.number c.args.call (320 + p) _ k2 k3 _ _ small (inr (inr (inl refl))) h2 (c.in_ok-write-3.ensures.gives _ refl) in
    word_keeps p c.args.number c.args.call (viewed k3) _ (384 + p) _ small (inr (inr (inr refl))) h3

pub write-requires-5-clause-keeps : goal.write-requires-5-clause-keeps
write-requires-5-clause-keeps g c =
    let K = g.K.Desk.kern in
    let k0 = K c.args.k.now in
    let k1 = K c.write.new.k in
    let k2 = K c.write-2.new.k in
    let k3 = K c.write-3.new.k in
    let k4 = K c.write-4.new.k in
    let p = c.args.p in
    let small = c.requires.small in
    let x1 = c.in_ok-write.ensures.gives _ refl in
    let x2 = c.in_ok-write-2.ensures.gives _ refl in
    let x3 = c.in_ok-write-3.ensures.gives _ refl in
    let x4 = c.in_ok-write-4.ensures.gives _ refl in
    let h1 = word_storing p c.args.number c.args.call (192 + p) _ k0 k1 _ _ small (inl refl) c.requires.storing x1 in
    let h2 = word_storing p c.args.number c.args.call (256 + p) _ k1 k2 _ _ small (inr (inl refl)) h1 x2 in
    let h3 = word_storing p c.args.number c.args.call (320 + p) _ k2 k3 _ _ small (inr (inr (inl refl))) h2 x3 in
    let h4 = word_storing p c.args.number c.args.call (384 + p) _ k3 k4 _ _ small (inr (inr (inr refl))) h3 x4 in
    let w = c.from-w.result in
    let means = words_there p _ _ _ _ k0 k1 k2 k3 k4 _ _ _ _ _ small x1 x2 x3 x4 ∙ ap (λ n. call_of n w.a w.b w.x) c.into.ensures ∙ c.from-w.ensures in
    last_keeps p c.args.number c.args.call (viewed k4) _ h4 means

pub returns : goal.returns
returns g c =
    let K = g.K.Desk.kern in
    let S = g.K.Desk.seen in
    let k0 = K c.args.k.now in
    let s0 = S c.args.k.now in
    let k1 = K c.write.new.k in
    let s1 = S c.write.new.k in
    let k2 = K c.write-2.new.k in
    let s2 = S c.write-2.new.k in
    let k3 = K c.write-3.new.k in
    let s3 = S c.write-3.new.k in
    let k4 = K c.write-4.new.k in
    let s4 = S c.write-4.new.k in
    let k5 = K c.write-5.new.k in
    let s5 = S c.write-5.new.k in
    let r1 = c.in_ok-write.ensures in
    let r2 = c.in_ok-write-2.ensures in
    let r3 = c.in_ok-write-3.ensures in
    let r4 = c.in_ok-write-4.ensures in
    let a4 = after_then (after_then (after_then r1.after r2.after) r3.after) r4.after in
    did_then a4 c.write-5.ensures (λ y e x5. stored c.args.p c.args.number _ _ _ _ k0 k1 k2 k3 k4 k5 s0 s1 s2 s3 s4 s5 c.requires.small (r1.gives _ refl) (r2.gives _ refl) (r3.gives _ refl) (r4.gives _ refl) x5) (omega arith)

pub write-requires-4-clause-able : goal.write-requires-4-clause-able
write-requires-4-clause-able g c =
    let a = after_then (after_then c.in_ok-write.ensures.after c.in_ok-write-2.ensures.after) c.in_ok-write-3.ensures.after in able c.requires.able a 1 (omega arith)

pub write-requires-5-clause-able : goal.write-requires-5-clause-able
write-requires-5-clause-able g c =
    let a = after_then (after_then (after_then c.in_ok-write.ensures.after c.in_ok-write-2.ensures.after) c.in_ok-write-3.ensures.after) c.in_ok-write-4.ensures.after in able c.requires.able a 1 (omega arith)

pub returns-in_err-write-3 : goal.returns-in_err-write-3
returns-in_err-write-3 g c =
    let a = after_then (after_then c.in_ok-write.ensures.after c.in_ok-write-2.ensures.after) c.in_err-write-3.ensures.after in did_lost c.from_residual-in_err-write-3.ensures.0 a (omega arith)

pub returns-in_err-write-4 : goal.returns-in_err-write-4
returns-in_err-write-4 g c =
    let a = after_then (after_then (after_then c.in_ok-write.ensures.after c.in_ok-write-2.ensures.after) c.in_ok-write-3.ensures.after) c.in_err-write-4.ensures.after in did_lost c.from_residual-in_err-write-4.ensures.0 a (omega arith)
