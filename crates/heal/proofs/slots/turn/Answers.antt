use Rattle.heal.proofs.Turning.{recovered, able_first, turned_lost, turned}
use Rattle.heal.proofs.slots.turn.Goals as goal

pub proceed-requires : goal.proceed-requires
proceed-requires g c =
    let r = c.in_ok-recover.ensures in
    record { able = able_first c.requires.some c.requires.inv (recovered c.requires.stands r.still r.same) }

pub returns-in_err-recover : goal.returns-in_err-recover
returns-in_err-recover g c =
    let r = c.in_err-recover.ensures in
    turned_lost c.from_residual.result c.from_residual.ensures.0 (recovered c.requires.stands r.still r.same)

pub returns : goal.returns
returns g c =
    let r = c.in_ok-recover.ensures in
    turned c.proceed.result (recovered c.requires.stands r.still r.same) c.proceed.ensures
