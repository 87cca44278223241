use Rattle.std.proofs.lemmas.Bool.{cond-true, cond-false}
use Rattle.std.proofs.Common.{sym, ap, ◌∙◌, rules}
use Rattle.heal.specs.Kernel.{showed}
use Rattle.memory.specs.Memory.{kern_of}
use Rattle.memory.proofs.Kernels.{next_place, no_place, showed_is, showed_none}
use Rattle.memory.proofs.machine.Machine.show_next.Goals as goal

pub returns-then-place-self : goal.returns-then-place-self
returns-then-place-self c =
    let no = no_place c.args.self.now c.args.place c.if-place-self.true in
    record { kernel = showed_none (kern_of c.args.self.now) c.args.place c.args.x no; events = sym (cond-false _ _ _ no); aside = search rules }

pub returns : goal.returns
returns c =
    let n = c.note.ensures in
    let is = next_place c.note.new.self c.args.place (c.if-place-self.false ∙ sym n.beside.shown) in
    record {
      kernel = showed_is (kern_of c.note.new.self) c.args.place c.args.x _ is c.push.ensures.words ∙ ap (showed c.args.place c.args.x) n.beside.kernel;
      events = n.events ∙ sym (cond-true _ _ _ (next_place c.args.self.now c.args.place c.if-place-self.false));
      aside = search rules;
    }
