use Rattle.std.proofs.Common.{refl, rules}
use Rattle.heal.specs.Kernel.{key_at}
use Rattle.memory.proofs.Fates.{as_planned, does, value_is}
use Rattle.memory.proofs.asks.MachineDesk.key.Goals as goal

pub returns : goal.returns
returns c =
    let planned = as_planned (λ k. k) (λ k es. es) c.perform.ensures (λ _. refl) (λ _ _. refl) (λ n n' x ready step. search rules) in
    record { does = (value_is (λ k. key_at c.args.n k.keys) c.perform.ensures (λ _. refl) (λ n n' x ready step. search rules), does planned.planned); planned = planned }
