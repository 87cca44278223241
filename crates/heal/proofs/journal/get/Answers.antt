use Rattle.std.proofs.Common.{ℕ, Ok, Result, sym, refl, ap, ◌∙◌}
use Rattle.heal.specs.declared.Down.{Down}
use Rattle.heal.specs.Journal.{own, viewed}
use Rattle.heal.proofs.Cells.{view_settled}
use Rattle.heal.proofs.Atomics.{stood, does_sound, does_viewed}
use Rattle.heal.proofs.journal.get.Goals as goal

pub returns : goal.returns
returns g c =
    let k = g.K.Desk.kern c.args.k.now in
    let d = c.get.ensures in
    let h = c.requires.recovered in
    record {
      still = record { sound = does_sound d.1 h.sound h.sound; settled = λ e. ap (λ κ. own κ 0) (stood d.1 e).1 ∙ h.settled };
      word = λ e. d.0 e ∙ ap {B = Result ℕ Down} (λ f. Ok (f c.args.cell)) (sym (view_settled (own k) h.settled));
      done = does_viewed (viewed k) d.1 refl;
    }
