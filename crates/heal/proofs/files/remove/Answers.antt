use Rattle.std.proofs.Common.{◌≡◌, ℕ, ◌⊎◌, ⊎_elim, [], ◌∷◌, refl, ap, ◌∙◌, subst, arith}
use Rattle.heal.specs.declared.Call.TheVariants.{Remove}
use Rattle.heal.specs.declared.decision.Refusal.TheVariants.{NoSuchName, MissingFile, FileInUse}
use Rattle.heal.specs.declared.users.Users.{Users}
use Rattle.heal.specs.declared.users.Users.TheVariants.{Writer, Readers}
use Rattle.heal.specs.Kernel.{server_of}
use Rattle.heal.specs.Files.{size_at}
use Rattle.heal.specs.Handles.{Names, users_word}
use Rattle.heal.proofs.Deciders.{remove_1, remove_2, remove_8, remove_yes}
use Rattle.heal.proofs.Looking.{looks, looked, users_are, missing_is, there_is, handed, ends_by, ends_refused, ends}
use Rattle.heal.proofs.files.remove.Goals as goal

there : (n : ℕ) → server_of (Remove n) ≡ 1
unfolding server_of
there n = refl

somebody : (v : ℕ) (u : Users) → v ≡ users_word u → (u ≡ Writer) ⊎ ((x : ℕ) × (u ≡ Readers x)) → v ≡ 0 → ⊥
somebody v u e h z = ⊎_elim (λ a. omega (arith, z, e ∙ ap users_word a)) (λ a. omega (arith, z, e ∙ ap users_word a.1)) h

pub returns-in_err-name : goal.returns-in_err-name
returns-in_err-name g c =
    let L0 = looks (there c.args.name) c.requires.able c.requires.stand in
    let n = subst (Names c.args.name) c.in_err-name.ensures.ok_part c.new.ensures in
    ends_by L0 NoSuchName c.from_residual.result c.from_residual.ensures.1 (handed c.in_err-name.ensures.value c.in_err-name.ensures.ok_part) (remove_1 c.args.p _ _ L0.one L0.stand.small c.args.name L0.stand n) (omega arith)

pub returns-then-is_none : goal.returns-then-is_none
returns-then-is_none g c =
    let L0 = looks (there c.args.name) c.requires.able c.requires.stand in
    let L1 = looked L0 c.in_ok-length_of.ensures in
    let n = subst (Names c.args.name) c.in_ok-name.ensures.ok_part c.new.ensures in
    ends_refused L1 MissingFile (remove_2 c.args.p _ _ L0.one L0.stand.small c.args.name L0.stand n.0 (missing_is L0 c.in_ok-length_of.ensures n.1 c.is_none.ensures c.if-is_none.true)) (omega arith)

pub returns-in-Nobody : goal.returns-in-Nobody
returns-in-Nobody g c =
    let L0 = looks (there c.args.name) c.requires.able c.requires.stand in
    let L1 = looked L0 c.in_ok-length_of.ensures in
    let L2 = looked L1 c.in_ok-users_of.ensures in
    let n = subst (Names c.args.name) c.in_ok-name.ensures.ok_part c.new.ensures in
    let u = users_are L1 c.in_ok-users_of.ensures n.1 in
    ends L2 c.new-in-Nobody.ensures.answer (c.new-in-Nobody.ensures.writes ∙ (λ i. ((c.size_cell.ensures ∙ ap size_at n.1) i, 0) ∷ []))
    (remove_yes c.args.p _ _ L0.one L0.stand.small c.args.name L0.stand n.0 (there_is L0 c.in_ok-length_of.ensures n.1 c.is_none.ensures c.if-is_none.false) (u ∙ ap users_word c.in-Nobody.is)) (omega arith)

pub returns-in-Writer : goal.returns-in-Writer
returns-in-Writer g c =
    let L0 = looks (there c.args.name) c.requires.able c.requires.stand in
    let L1 = looked L0 c.in_ok-length_of.ensures in
    let L2 = looked L1 c.in_ok-users_of.ensures in
    let n = subst (Names c.args.name) c.in_ok-name.ensures.ok_part c.new.ensures in
    let u = users_are L1 c.in_ok-users_of.ensures n.1 in
    ends_refused L2 FileInUse (remove_8 c.args.p _ _ L0.one L0.stand.small c.args.name L0.stand n.0 (there_is L0 c.in_ok-length_of.ensures n.1 c.is_none.ensures c.if-is_none.false) (somebody _ _ u c.in-Writer.is)) (omega arith)
