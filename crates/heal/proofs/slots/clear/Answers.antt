use Rattle.std.proofs.Common.{◌≡◌, ◌+◌, ◌<◌, sym, refl, ap, ◌∙◌, subst, arith}
use Rattle.heal.specs.Journal.{viewed}
use Rattle.heal.specs.Kernel.{kept}
use Rattle.heal.specs.Invariant.{last, done, plus}
use Rattle.heal.specs.Turn.{cells, IsAt, BoxIsEmpty}
use Rattle.heal.proofs.Kept.{ready_kept}
use Rattle.heal.proofs.Steps.{after_then, did_then, same_cell, same_cells, same_box, put_box, inv_exact}
use Rattle.heal.proofs.Sweeping.{put_other, clear_gives, less, has_out, give_pre}
use Rattle.heal.proofs.Advancing.{calm_advanced, calm_then}
use Rattle.heal.proofs.slots.clear.Given.{Over}
use Rattle.heal.proofs.slots.clear.Goals as goal
use Rattle.heal.proofs.slots.clear.Goals.{In_ok-write}

-- the ready set was written, and no other cell
vacated : (g : Over) (c : In_ok-write g) → IsAt c.args.p (g.K.Desk.kern c.write.new.k) × (done (cells (g.K.Desk.kern c.write.new.k)) c.args.p ≡ last (cells (g.K.Desk.kern c.write.new.k)) c.args.p) × BoxIsEmpty (g.K.Desk.kern c.write.new.k)
vacated g c =
    let k0 = g.K.Desk.kern c.args.k.now in
    let k1 = g.K.Desk.kern c.read.new.k in
    let k2 = g.K.Desk.kern c.write.new.k in
    let r1 = c.in_ok-bits.ensures in
    let x1 = r1.gives _ refl in
    let r2 = c.in_ok-write.ensures in
    let x2 = r2.gives _ refl in
    let p = c.args.p in
    let q1 = same_cells k0 x1.1 in
    let o = put_other 36 _ k1 k2 _ _ x2 in
    let at = o 32 (λ z. omega arith) ∙ (ap (λ f. f 32) q1 ∙ c.requires.at.0) in
    let d = o (128 + p) (λ z. omega arith) ∙ ap (λ f. f (128 + p)) q1 in
    let l = o (64 + p) (λ z. omega arith) ∙ ap (λ f. f (64 + p)) q1 in
    ((at, c.requires.at.1, c.requires.at.2), d ∙ (c.requires.vacant ∙ sym l), ap (λ f. f k2.at) (put_box 36 _ k1 x2 ∙ same_box k0 x1.1) ∙ (ap k0.box (r2.after.seat ∙ r1.after.seat) ∙ c.requires.empty))

pub write-requires-clause-keeps : goal.write-requires-clause-keeps
write-requires-clause-keeps g c =
    let k0 = g.K.Desk.kern c.args.k.now in
    let k1 = g.K.Desk.kern c.read.new.k in
    let x1 = c.in_ok-bits.ensures.gives _ refl in
    let v1 = same_cell k0 x1.1 (128 + c.args.p) in
    let v2 = same_cell k0 x1.1 (64 + c.args.p) in
    λ a i. ready_kept a (viewed k1) _ i _ (λ q h t u. has_out c.args.p q _ _ _ c.remove.ensures (x1.0 ∙ sym (same_cell k0 x1.1 36)) (λ e. (let w = subst (λ y. done (cells k1) y < last (cells k1) y) e u in omega arith)) t)

pub advance-requires-clause-keeps : goal.advance-requires-clause-keeps
advance-requires-clause-keeps g c =
    let k2 = g.K.Desk.kern c.write.new.k in
    let v = vacated g (goal.at.advance-requires-clause-keeps g c).In_ok-write in
    λ to f a i. less k2.at 1 a (kept 32 to (viewed k2)) _ (clear_gives c.args.p to a (viewed k2) _ v.0.0 v.0.1 v.0.2 v.1 v.2 f i)

pub returns : goal.returns
returns g c =
    let k1 = g.K.Desk.kern c.read.new.k in
    let k2 = g.K.Desk.kern c.write.new.k in
    let k3 = g.K.Desk.kern c.advance.new.k in
    let x1 = c.in_ok-bits.ensures.gives _ refl in
    let x2 = c.in_ok-write.ensures.gives _ refl in
    let A2 = after_then c.in_ok-bits.ensures.after c.in_ok-write.ensures.after in
    let v = vacated g (goal.at.returns g c).In_ok-write in
    let b2 = put_box 36 _ k1 x2 ∙ same_box (g.K.Desk.kern c.args.k.now) x1.1 in
    did_then A2 c.advance.ensures (λ y e f. record { calm = calm_then b2 (calm_advanced f); gave = give_pre 1 k3 (g.K.Desk.seen c.advance.new.k) A2 (λ a i. inv_exact (plus k2.at 1 a) f.exact (clear_gives c.args.p f.to a (viewed k2) _ v.0.0 v.0.1 v.0.2 v.1 v.2 f.first i)) }) (omega arith)
