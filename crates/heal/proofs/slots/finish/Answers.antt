use Rattle.std.proofs.Common.{◌≡◌, ℕ, List, [], ◌∷◌, ◌++◌, subst, refl, ◌∙◌, arith}
use Rattle.heal.proofs.Steps.{after_then, did_then, same_box}
use Rattle.heal.proofs.Finishing.{due, due_keeps, due_within, finished}
use Rattle.heal.proofs.slots.finish.Goals as goal

owes : (ps qs : List (ℕ × ℕ)) (w v : ℕ) → w ≡ v → qs ≡ ps ++ ((32, w) ∷ []) → qs ≡ ps ++ ((32, v) ∷ [])
owes ps qs w v e f = subst (λ x. qs ≡ ps ++ ((32, x) ∷ [])) e f

pub commit-requires-clause-within : goal.commit-requires-clause-within
commit-requires-clause-within g c =
    let x = c.in_ok-n.ensures.gives _ refl in
    due_within (due (g.K.Desk.kern c.write_owed.new.k) c.requires.decided.1.0 c.requires.decided.1.1 (c.in_ok-write_owed.ensures.gives _ refl) x.1 x.0 c.set.ensures (owes _ _ _ _ c.into.ensures c.set-2.ensures))

pub commit-requires-clause-keeps : goal.commit-requires-clause-keeps
commit-requires-clause-keeps g c =
    let x = c.in_ok-n.ensures.gives _ refl in
    due_keeps (due (g.K.Desk.kern c.write_owed.new.k) c.requires.decided.1.0 c.requires.decided.1.1 (c.in_ok-write_owed.ensures.gives _ refl) x.1 x.0 c.set.ensures (owes _ _ _ _ c.into.ensures c.set-2.ensures))

pub returns : goal.returns
returns g c =
    let k1 = g.K.Desk.kern c.write_owed.new.k in
    let w = c.in_ok-write_owed.ensures.gives _ refl in
    let x = c.in_ok-n.ensures.gives _ refl in
    let a = after_then c.in_ok-write_owed.ensures.after c.in_ok-n.ensures.after in
    let u = due k1 c.requires.decided.1.0 c.requires.decided.1.1 w x.1 x.0 c.set.ensures (owes _ _ _ _ c.into.ensures c.set-2.ensures) in
    did_then a c.commit.ensures (λ _ _ e. finished a (same_box k1 x.1 ∙ w.boxes) u e) (omega arith)
