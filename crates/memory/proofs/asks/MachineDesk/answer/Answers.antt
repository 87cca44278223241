use Rattle.std.proofs.Common.{refl, rules}
use Rattle.heal.specs.Kernel.{answered, answers}
use Rattle.memory.proofs.Fates.{as_planned, does, answered_counted}
use Rattle.memory.proofs.asks.MachineDesk.answer.Goals as goal

pub returns : goal.returns
returns c =
    let planned = as_planned (answered c.args.pid c.args.number) (answers c.args.pid c.args.number c.args.a) c.perform.ensures (answered_counted c.args.pid c.args.number) (λ _ _. refl) (λ n n' x ready step. search rules) in
    record { does = does planned.planned; planned = planned }
