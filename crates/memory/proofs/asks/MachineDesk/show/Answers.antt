use Rattle.std.proofs.Common.{refl, rules}
use Rattle.heal.specs.Kernel.{showed, shows}
use Rattle.memory.proofs.Fates.{as_planned, does, showed_counted}
use Rattle.memory.proofs.asks.MachineDesk.show.Goals as goal

pub returns : goal.returns
returns c =
    let planned = as_planned (showed c.args.place c.args.x) (shows c.args.place c.args.x) c.perform.ensures (showed_counted c.args.place c.args.x) (λ _ _. refl) (λ n n' x ready step. search rules) in
    record { does = does planned.planned; planned = planned }
