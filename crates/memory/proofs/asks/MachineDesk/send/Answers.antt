use Rattle.std.proofs.Common.{refl, rules}
use Rattle.heal.specs.Kernel.{has_room, sent}
use Rattle.memory.proofs.Fates.{as_planned, does, value_is, sent_counted}
use Rattle.memory.proofs.asks.MachineDesk.send.Goals as goal

pub returns : goal.returns
returns c =
    let planned = as_planned (sent c.args.to c.args.m) (λ k es. es) c.perform.ensures (sent_counted c.args.to c.args.m) (λ _ _. refl) (λ n n' x ready step. search rules) in
    record { does = (value_is (has_room c.args.to) c.perform.ensures (λ _. refl) (λ n n' x ready step. search rules), does planned.planned); planned = planned }
