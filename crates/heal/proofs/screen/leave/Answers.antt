use Rattle.std.proofs.Common.{◌∙◌, arith}
use Rattle.heal.specs.declared.Call.TheVariants.{Leave}
use Rattle.heal.specs.Journal.{viewed}
use Rattle.heal.proofs.Ending.{ends}
use Rattle.heal.proofs.Serving.{at_desk, desk_cell, desk_not_own}
use Rattle.heal.proofs.Deciders.{leaves, leave_done}
use Rattle.heal.proofs.screen.leave.Goals as goal

pub returns-in_err-ensure_owner : goal.returns-in_err-ensure_owner
returns-in_err-ensure_owner g c = desk_not_own c.args.p leaves c.requires.stand _ c.in_err-ensure_owner.ensures c.from_residual.result c.from_residual.ensures.1 (omega arith)

pub returns : goal.returns
returns g c =
    let k0 = g.K.Desk.kern c.args.k.now in
    let z = c.requires.stand in
    let two = at_desk k0 leaves z in
    let d = c.in_ok-ensure_owner.ensures in
    ends c.args.p Leave c.new.ensures.answer c.new.ensures.writes d.0 z (leave_done c.args.p (viewed k0) _ two z (desk_cell k0 52 two ∙ d.1)) (omega arith)
