use Rattle.std.proofs.Common.{◌≡◌, ℕ, ◌+◌, ◌*◌, ◌<◌, Bool, true, cond, eqb, ◌⊎◌, [], ◌∷◌, Some, None, sym, refl, ap, ◌∙◌, subst, inl, inr, arith}
use Rattle.std.proofs.lemmas.Bool.Decides.{nat_tests as tests}
use Rattle.heal.specs.declared.Call.TheVariants.{Open}
use Rattle.heal.specs.declared.decision.Refusal.TheVariants.{NoSuchName, MissingFile, FileInUse, NoHandleLeft}
use Rattle.heal.specs.Kernel.{server_of}
use Rattle.heal.specs.Files.{size_at, users_at}
use Rattle.heal.specs.Handles.{Lowest, Names, OpenedBy, users_word}
use Rattle.heal.proofs.Deciders.{open_1, open_2, open_8, open_13, open_yes, open_have}
use Rattle.heal.proofs.Looking.{file_cells, looks, looked, found, users_are, missing_is, there_is, handed, users_bound, seat, ends_by, ends_refused, ends}
use Rattle.heal.proofs.files.open.Goals as goal
use Rattle.heal.proofs.files.open.Goals.{else-is_none-via-then-is_none+else-not-writes, else-is_none-via-else-is_none}

there : (n : ℕ) (w : Bool) → server_of (Open n w) ≡ 1
unfolding server_of
there n w = refl

few : (w : Bool) (u v : ℕ) → v ≡ cond w 1 (cond (eqb u 0) 2 (u + 1)) → u < 1000 → v < 18446744073709551616
few w u v e h = grind (arith, tests)

pub returns-in_err-name : goal.returns-in_err-name
returns-in_err-name g c =
    let L0 = looks (there c.args.name c.args.writes) c.requires.able c.requires.stand in
    let n = subst (Names c.args.name) c.in_err-name.ensures.ok_part c.new.ensures in
    ends_by L0 NoSuchName c.from_residual.result c.from_residual.ensures.1 (handed c.in_err-name.ensures.value c.in_err-name.ensures.ok_part) (open_1 c.args.p _ _ L0.one L0.stand.small c.args.name c.args.writes L0.stand n) (omega arith)

pub returns-then-not-writes : goal.returns-then-not-writes
returns-then-not-writes g c =
    let L0 = looks (there c.args.name c.args.writes) c.requires.able c.requires.stand in
    let L1 = looked L0 c.in_ok-length.ensures in
    let n = subst (Names c.args.name) c.in_ok-name.ensures.ok_part c.new.ensures in
    ends_refused L1 MissingFile (open_2 c.args.p _ _ L0.one L0.stand.small c.args.name c.args.writes L0.stand n.0 (missing_is L0 c.in_ok-length.ensures n.1 c.is_none.ensures c.if-is_none.true) c.if-not-writes.true) (omega arith)

pub opened-requires-clause-few : goal.opened-requires-clause-few
opened-requires-clause-few g c =
    let L0 = looks (there c.args.name c.args.writes) c.requires.able c.requires.stand in
    let n = subst (Names c.args.name) c.in_ok-name.ensures.ok_part c.new.ensures in
    let L1 = looked L0 c.in_ok-length.ensures in
    let u = users_are L1 c.in_ok-users_of.ensures n.1 in
    omega (arith, users_bound L0 c.args.name n.0, u)

pub returns-in_err-users : goal.returns-in_err-users
returns-in_err-users g c =
    let L0 = looks (there c.args.name c.args.writes) c.requires.able c.requires.stand in
    let L1 = looked L0 c.in_ok-length.ensures in
    let L2 = looked L1 c.in_ok-users_of.ensures in
    let n = subst (Names c.args.name) c.in_ok-name.ensures.ok_part c.new.ensures in
    let u = users_are L1 c.in_ok-users_of.ensures n.1 in
    let a : (file_cells (g.K.Desk.kern c.args.k.now) (size_at c.args.name) ≡ 0 → ⊥) ⊎ (c.args.writes ≡ true) = elim c.else-is_none.branch [ else-is_none-via-then-is_none+else-not-writes b ↦ inr b.if-not-writes.false | else-is_none-via-else-is_none b ↦ inl (there_is L0 c.in_ok-length.ensures n.1 c.is_none.ensures b.if-is_none.false) ] in
    let o = subst (OpenedBy c.args.writes (users_word c.in_ok-users_of.field-0)) c.in_err-users.ensures.ok_part c.opened.ensures in
    ends_by L2 FileInUse c.from_residual-in_err-users.result c.from_residual-in_err-users.ensures.1 (handed c.in_err-users.ensures.value c.in_err-users.ensures.ok_part)
    (open_8 c.args.p _ _ L0.one L0.stand.small c.args.name c.args.writes L0.stand n.0 a (subst (λ v. OpenedBy c.args.writes v None) (sym u) o)) (omega arith)

pub lowest_empty-requires-clause-one : goal.lowest_empty-requires-clause-one
lowest_empty-requires-clause-one g c =
    let L0 = looks (there c.args.name c.args.writes) c.requires.able c.requires.stand in
    let L1 = looked L0 c.in_ok-length.ensures in
    seat (looked L1 c.in_ok-users_of.ensures)

pub returns-in_err-handle : goal.returns-in_err-handle
returns-in_err-handle g c =
    let L0 = looks (there c.args.name c.args.writes) c.requires.able c.requires.stand in
    let L1 = looked L0 c.in_ok-length.ensures in
    let L2 = looked L1 c.in_ok-users_of.ensures in
    let L3 = looked L2 c.in_ok-lowest_empty.ensures in
    let n = subst (Names c.args.name) c.in_ok-name.ensures.ok_part c.new.ensures in
    let u = users_are L1 c.in_ok-users_of.ensures n.1 in
    let a : (file_cells (g.K.Desk.kern c.args.k.now) (size_at c.args.name) ≡ 0 → ⊥) ⊎ (c.args.writes ≡ true) = elim c.else-is_none.branch [ else-is_none-via-then-is_none+else-not-writes b ↦ inr b.if-not-writes.false | else-is_none-via-else-is_none b ↦ inl (there_is L0 c.in_ok-length.ensures n.1 c.is_none.ensures b.if-is_none.false) ] in
    let o = subst (OpenedBy c.args.writes (users_word c.in_ok-users_of.field-0)) c.in_ok-users.ensures.ok_part c.opened.ensures in
    let e = found L2 (Lowest c.args.p) c.in_ok-lowest_empty.ensures c.in_err-handle.ensures.ok_part in
    ends_by L3 NoHandleLeft c.from_residual-in_err-handle.result c.from_residual-in_err-handle.ensures.1 (handed c.in_err-handle.ensures.value c.in_err-handle.ensures.ok_part)
    (open_13 c.args.p _ _ L0.one L0.stand.small c.args.name c.args.writes L0.stand n.0 a (subst (λ v. OpenedBy c.args.writes v (Some c.in_ok-users.users)) (sym u) o).0 e) (omega arith)

pub handle_cell-requires-clause-there : goal.handle_cell-requires-clause-there
handle_cell-requires-clause-there g c =
    let L0 = looks (there c.args.name c.args.writes) c.requires.able c.requires.stand in
    let L1 = looked L0 c.in_ok-length.ensures in
    let L2 = looked L1 c.in_ok-users_of.ensures in
    (found L2 (Lowest c.args.p) c.in_ok-lowest_empty.ensures c.in_ok-handle.ensures.ok_part).0

pub word-requires : goal.word-requires
word-requires g c =
    let L0 = looks (there c.args.name c.args.writes) c.requires.able c.requires.stand in
    let n = subst (Names c.args.name) c.in_ok-name.ensures.ok_part c.new.ensures in
    let L1 = looked L0 c.in_ok-length.ensures in
    let u = users_are L1 c.in_ok-users_of.ensures n.1 in
    let o = subst (OpenedBy c.args.writes (users_word c.in_ok-users_of.field-0)) c.in_ok-users.ensures.ok_part c.opened.ensures in
    few c.args.writes _ _ o.1 (omega (arith, users_bound L0 c.args.name n.0, u))

pub returns-then-is_none-2 : goal.returns-then-is_none-2
returns-then-is_none-2 g c =
    let L0 = looks (there c.args.name c.args.writes) c.requires.able c.requires.stand in
    let L1 = looked L0 c.in_ok-length.ensures in
    let L2 = looked L1 c.in_ok-users_of.ensures in
    let L3 = looked L2 c.in_ok-lowest_empty.ensures in
    let n = subst (Names c.args.name) c.in_ok-name.ensures.ok_part c.new.ensures in
    let u = users_are L1 c.in_ok-users_of.ensures n.1 in
    let w : c.args.writes ≡ true = elim c.else-is_none.branch [ else-is_none-via-then-is_none+else-not-writes b ↦ b.if-not-writes.false | else-is_none-via-else-is_none b ↦ absurd (there_is L0 c.in_ok-length.ensures n.1 c.is_none.ensures b.if-is_none.false (missing_is L0 c.in_ok-length.ensures n.1 c.is_none-2.ensures c.if-is_none-2.true)) ] in
    let o = subst (OpenedBy c.args.writes (users_word c.in_ok-users_of.field-0)) c.in_ok-users.ensures.ok_part c.opened.ensures in
    let e = found L2 (Lowest c.args.p) c.in_ok-lowest_empty.ensures c.in_ok-handle.ensures.ok_part in
    ends L3 c.new-then-is_none-2.ensures.answer
    (c.new-then-is_none-2.ensures.writes ∙ (λ i. (c.handle_cell.ensures i, (c.into.ensures ∙ ap (λ m. 1 + 2 * m + cond c.args.writes 1 0) n.1) i) ∷ ((c.users_cell.ensures ∙ ap users_at n.1) i, (c.word.ensures ∙ o.1) i) ∷ ((c.size_cell.ensures ∙ ap size_at n.1) i, c.size_word.ensures i) ∷ []))
    (open_yes c.args.p _ _ L0.one L0.stand.small c.args.name c.args.writes c.in_ok-handle.handle _ 0 L0.stand n.0 u (missing_is L0 c.in_ok-length.ensures n.1 c.is_none-2.ensures c.if-is_none-2.true) (inr w) o.0 e.0 e.1 e.2) (omega arith)

pub returns : goal.returns
returns g c =
    let L0 = looks (there c.args.name c.args.writes) c.requires.able c.requires.stand in
    let L1 = looked L0 c.in_ok-length.ensures in
    let L2 = looked L1 c.in_ok-users_of.ensures in
    let L3 = looked L2 c.in_ok-lowest_empty.ensures in
    let n = subst (Names c.args.name) c.in_ok-name.ensures.ok_part c.new.ensures in
    let u = users_are L1 c.in_ok-users_of.ensures n.1 in
    let o = subst (OpenedBy c.args.writes (users_word c.in_ok-users_of.field-0)) c.in_ok-users.ensures.ok_part c.opened.ensures in
    let e = found L2 (Lowest c.args.p) c.in_ok-lowest_empty.ensures c.in_ok-handle.ensures.ok_part in
    ends L3 c.new-2.ensures.answer
    (c.new-2.ensures.writes ∙ (λ i. (c.handle_cell.ensures i, (c.into.ensures ∙ ap (λ m. 1 + 2 * m + cond c.args.writes 1 0) n.1) i) ∷ ((c.users_cell.ensures ∙ ap users_at n.1) i, (c.word.ensures ∙ o.1) i) ∷ []))
    (open_have c.args.p _ _ L0.one L0.stand.small c.args.name c.args.writes c.in_ok-handle.handle _ _ L0.stand n.0 u refl (there_is L0 c.in_ok-length.ensures n.1 c.is_none-2.ensures c.if-is_none-2.false) o.0 e.0 e.1 e.2) (omega arith)
