use Rattle.std.proofs.Common.{refl, rules}
use Rattle.heal.specs.Kernel.{taken}
use Rattle.memory.proofs.Fates.{as_planned, does}
use Rattle.memory.proofs.asks.MachineDesk.take.Goals as goal

pub returns : goal.returns
returns c =
    let planned = as_planned taken (λ k es. es) c.perform.ensures (λ _. refl) (λ _ _. refl) (λ n n' x ready step. search rules) in
    record { does = does planned.planned; planned = planned }
