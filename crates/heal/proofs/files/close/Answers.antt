use Rattle.std.proofs.Common.{◌≡◌, ℕ, ◌-◌, ◌<◌, cond, eqb, [], ◌∷◌, sym, refl, ap, ◌∙◌, subst, arith}
use Rattle.heal.specs.declared.Call.TheVariants.{Close}
use Rattle.heal.specs.declared.decision.Refusal.TheVariants.{NoSuchHandle}
use Rattle.heal.specs.Kernel.{server_of}
use Rattle.heal.specs.Files.{users_at, name_in}
use Rattle.heal.specs.Handles.{Holds, users_word}
use Rattle.heal.proofs.Deciders.{close_4, close_yes}
use Rattle.heal.proofs.Serving.{at_one}
use Rattle.heal.proofs.Looking.{looks, looked, found, users_are, handed, ends_by, ends}
use Rattle.heal.proofs.files.close.Goals as goal

there : (h : ℕ) → server_of (Close h) ≡ 1
unfolding server_of
there h = refl

pub find_held-requires-clause-one : goal.find_held-requires-clause-one
find_held-requires-clause-one g c = at_one c.args.p (Close c.args.handle) _ c.requires.stand (there c.args.handle)

pub returns-in_err-held : goal.returns-in_err-held
returns-in_err-held g c =
    let L0 = looks (there c.args.handle) c.requires.able c.requires.stand in
    let L1 = looked L0 c.in_ok-find_held.ensures in
    let y = found L0 (Holds c.args.p c.args.handle) c.in_ok-find_held.ensures c.in_err-held.ensures.ok_part in
    ends_by L1 NoSuchHandle c.from_residual-in_err-held.result c.from_residual-in_err-held.ensures.1 (handed c.in_err-held.ensures.value c.in_err-held.ensures.ok_part) (close_4 c.args.p _ _ L0.one L0.stand.small c.args.handle L0.stand y) (omega arith)

pub handle_cell-requires-clause-there : goal.handle_cell-requires-clause-there
handle_cell-requires-clause-there g c =
    let L0 = looks (there c.args.handle) c.requires.able c.requires.stand in
    (found L0 (Holds c.args.p c.args.handle) c.in_ok-find_held.ensures c.in_ok-held.ensures.ok_part).0

pub returns : goal.returns
returns g c =
    let L0 = looks (there c.args.handle) c.requires.able c.requires.stand in
    let L1 = looked L0 c.in_ok-find_held.ensures in
    let L2 = looked L1 c.in_ok-users_of.ensures in
    let y = found L0 (Holds c.args.p c.args.handle) c.in_ok-find_held.ensures c.in_ok-held.ensures.ok_part in
    let u = users_are L1 c.in_ok-users_of.ensures (sym y.1.1) in
    let n : name_in _ < 64 = subst (λ n. n < 64) (sym y.1.1) c.in_ok-held.held.name.small in
    ends L2 c.new.ensures.answer
    (c.new.ensures.writes ∙ (λ i. (c.handle_cell.ensures i, 0) ∷ ((c.users_cell.ensures ∙ ap users_at (sym y.1.1)) i, (c.word.ensures ∙ (c.closed-users.ensures ∙ (λ j. cond (sym y.1.2 j) 0 (cond (eqb (users_word c.in_ok-users_of.field-0) 2) 0 (users_word c.in_ok-users_of.field-0 - 1))))) i) ∷ []))
    (close_yes c.args.p _ _ L0.one L0.stand.small c.args.handle _ _ L0.stand y.0 refl y.1.0 n u) (omega arith)
