use Rattle.std.proofs.Common.{refl, rules}
use Rattle.heal.specs.Kernel.{stopped, stops}
use Rattle.memory.proofs.Fates.{as_planned, does}
use Rattle.memory.proofs.asks.MachineDesk.stop.Goals as goal

pub returns : goal.returns
returns c =
    let planned = as_planned (stopped c.args.pid) (stops c.args.pid) c.perform.ensures (λ _. refl) (λ _ _. refl) (λ n n' x ready step. search rules) in
    record { does = does planned.planned; planned = planned }
