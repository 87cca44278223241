use Rattle.std.proofs.Common.{◌≡◌, ℕ, zero, suc, ◌<◌, sym, refl, ap, ◌∙◌, subst, arith}
use Rattle.heal.specs.Files.{name_in}
use Rattle.heal.specs.Turn.{cells}
use Rattle.heal.proofs.Serving.{handle_name}
use Rattle.heal.proofs.files.find_held.Goals as goal

-- an empty handle's word has a small name too
name_fits : (v : ℕ) → ((v ≡ 0 → ⊥) → name_in v < 64) → name_in v < 64
name_fits zero h = omega arith
name_fits (suc v) h = h (λ e. omega arith)

pub from_word-requires : goal.from_word-requires
from_word-requires g c =
    let k = g.K.Desk.kern c.args.k.now in
    let w = (c.in_ok-word.ensures.gives _ refl).0 ∙ ap (cells k) c.handle_cell.ensures in
    subst (λ v. name_in v < 64) (sym w) (name_fits _ (λ n. (handle_name c.args.p c.args.handle k _ c.requires.one c.requires.small c.if-handle-ge8.false n c.requires.able.inv).0))
