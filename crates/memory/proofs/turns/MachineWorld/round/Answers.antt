use Rattle.std.proofs.Common.{Bool, cond, ◌∷◌, sym, ap, ◌∙◌}
use Rattle.std.proofs.lemmas.Bool.{cond-true}
use Rattle.heal.specs.Kernel.{Round}
use Rattle.memory.specs.Memory.{seen_of}
use Rattle.memory.specs.Notes.{logged, rounds}
use Rattle.memory.proofs.Words.{logged_round}
use Rattle.memory.proofs.Scripts.{T_true}
use Rattle.memory.proofs.turns.MachineWorld.round.Goals as goal

pub returns-in-Some-clause-whole : goal.returns-in-Some-clause-whole
returns-in-Some-clause-whole c =
    let h = c.in-Some.ensures in
    let n = c.write_note.ensures in
    (n.beside.kernel, λ t. ap (λ k. logged k c.write_note.new.self.notes.now) n.noted ∙ logged_round _ _ _ _ h.0 h.1 n.here n.others)

pub returns-in-Some-clause-seen : goal.returns-in-Some-clause-seen
returns-in-Some-clause-seen c =
    let h = c.in-Some.ensures in
    let n = c.write_note.ensures in
    ap (λ k. logged k c.write_note.new.self.notes.now) n.noted ∙ logged_round _ _ _ _ h.0 h.1 n.here n.others

pub returns-in_default-clause-whole : goal.returns-in_default-clause-whole
unfolding rounds
returns-in_default-clause-whole c = (c.note_if_room.ensures.kernel, λ t. c.note_if_room.ensures.events ∙ cond-true _ _ _ (sym c.is_ok.ensures.value ∙ T_true _ t))

pub returns-in_default-clause-seen : goal.returns-in_default-clause-seen
unfolding rounds
returns-in_default-clause-seen c =
    let es = seen_of c.args.self.now in
    c.note_if_room.ensures.events ∙ ap (λ (b : Bool). cond b (Round ∷ es) es) (sym c.is_ok.ensures.value)
