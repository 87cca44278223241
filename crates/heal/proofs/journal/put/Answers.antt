use Rattle.std.proofs.Common.{◌+◌, ap, ◌∙◌}
use Rattle.heal.specs.Kernel.{kept}
use Rattle.heal.specs.Journal.{own, viewed}
use Rattle.heal.proofs.Cells.{behind_settled, fine_settled}
use Rattle.heal.proofs.Atomics.{stood, does_sound, does_viewed, viewed_one, sound_kept, own_kept}
use Rattle.heal.proofs.journal.put.Goals as goal

pub returns : goal.returns
returns g c =
    let k = g.K.Desk.kern c.args.k.now in
    let d = c.put.ensures in
    let h = c.requires.recovered in
    let b = behind_settled c.args.cell c.args.word (own k) h.settled in
    record {
      still = record { sound = does_sound d h.sound (sound_kept (c.args.cell + 17) c.args.word k h.sound (fine_settled k.at _ b.0)); settled = λ e. ap (λ κ. own κ 0) (stood d e).1 ∙ ap (λ f. f 0) (own_kept (c.args.cell + 17) c.args.word k) ∙ b.0 };
      done = does_viewed (kept c.args.cell c.args.word (viewed k)) d (viewed_one (c.args.cell + 17) c.args.cell c.args.word k b.1);
    }
