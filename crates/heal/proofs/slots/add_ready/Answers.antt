use Rattle.std.proofs.Common.{sym, refl, ◌∙◌, arith}
use Rattle.heal.specs.Journal.{viewed}
use Rattle.heal.proofs.Kept.{ready_kept}
use Rattle.heal.proofs.Steps.{did_then, same_cell, read_put}
use Rattle.heal.proofs.Storing.{has_in, has_new'}
use Rattle.heal.proofs.slots.add_ready.Goals as goal

pub write-requires-clause-keeps : goal.write-requires-clause-keeps
write-requires-clause-keeps g c =
    let K = g.K.Desk.kern in
    let k1 = K c.read.new.k in
    let x = c.in_ok-bits.ensures.gives _ refl in
    let s = same_cell (K c.args.k.now) x.1 36 in λ a i. ready_kept a (viewed k1) _ i _ (λ q h t u. has_in c.args.p q _ _ _ c.insert.ensures (x.0 ∙ sym s) t)

pub returns : goal.returns
returns g c =
    let K = g.K.Desk.kern in
    let r = c.in_ok-bits.ensures in
    did_then r.after c.write.ensures (λ y e f. (_, has_new' c.args.p _ _ c.insert.ensures, read_put _ _ _ (r.gives _ refl).1 f)) (omega arith)
