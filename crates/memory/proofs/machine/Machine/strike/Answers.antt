use Rattle.std.proofs.Common.{[], ◌∷◌, ◌++◌, ap, ◌∙◌, rules}
use Rattle.heal.specs.Kernel.{with_screen}
use Rattle.memory.specs.Memory.{kern_of}
use Rattle.memory.proofs.Scripts.{typed_once}
use Rattle.memory.proofs.machine.Machine.strike.Goals as goal

pub returns : goal.returns
returns c =
    let k = kern_of c.note.new.self in
    let struck = ap (λ keys. with_screen k.screen keys k) c.push.ensures.words ∙ ap (λ k. with_screen k.screen (k.keys ++ (c.args.x ∷ [])) k) c.note.ensures.beside.kernel in
    record { followed = search rules; between = typed_once _ _ _ _ c.args.x (search rules) struck c.note.ensures.events; lines = search rules }
