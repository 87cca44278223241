use Rattle.std.proofs.Common.{refl, rules}
use Rattle.heal.specs.Kernel.{begins, begun}
use Rattle.memory.proofs.Fates.{as_planned, does}
use Rattle.memory.proofs.asks.MachineDesk.begin.Goals as goal

pub returns : goal.returns
returns c =
    let planned = as_planned (begun c.args.pid) (begins c.args.pid) c.perform.ensures (λ _. refl) (λ _ _. refl) (λ n n' x ready step. search rules) in
    record { does = does planned.planned; planned = planned }
