use Rattle.std.proofs.Common.{sym, refl, ◌∙◌, rules}
use Rattle.memory.specs.declared.Note.TheVariants.{Gone, Busy}
use Rattle.memory.specs.Memory.{kern_of, runs_of, waits_of}
use Rattle.memory.proofs.Scripts.{aside_follows, noted_between, gone_note, busy_note, gone_kern, busy_kern, runs_past, idle_none}
use Rattle.memory.proofs.machine.Machine.ask.Goals as goal

pub returns-then-pid-ge64 : goal.returns-then-pid-ge64
returns-then-pid-ge64 c =
    let n = c.note_if_room.ensures in
    let no = runs_past c.args.self.now.programs c.args.pid (search rules) in
    record {
      followed = aside_follows c.args.pid c.args.call _ c.args.self.now _ _ (gone_note c.args.pid c.args.call (kern_of c.args.self.now) no) (gone_kern c.args.pid c.args.call (kern_of c.args.self.now) no) n.kernel n.room n.done n.refused;
      between = noted_between (Gone c.args.pid) c.args.self.now c.note_if_room.new.self _ (λ _. refl) n.kernel n.events;
      lines = n.kept.2;
    }

pub returns-then-not-program : goal.returns-then-not-program
unfolding runs_of
returns-then-not-program c =
    let n = c.note_if_room-then-not-program.ensures in
    let no = c.if-not-program.true in
    record {
      followed = aside_follows c.args.pid c.args.call _ c.args.self.now _ _ (gone_note c.args.pid c.args.call (kern_of c.args.self.now) no) (gone_kern c.args.pid c.args.call (kern_of c.args.self.now) no) n.kernel n.room n.done n.refused;
      between = noted_between (Gone c.args.pid) c.args.self.now c.note_if_room-then-not-program.new.self _ (λ _. refl) n.kernel n.events;
      lines = n.kept.2;
    }

pub returns-then-not-is_idle : goal.returns-then-not-is_idle
unfolding runs_of waits_of
returns-then-not-is_idle c =
    let n = c.note_if_room-then-not-is_idle.ensures in
    let no = sym c.is_idle.ensures ∙ c.if-not-is_idle.true in
    record {
      followed = aside_follows c.args.pid c.args.call _ c.args.self.now _ _ (busy_note c.args.pid c.args.call (kern_of c.args.self.now) c.if-not-program.false no) (busy_kern c.args.pid c.args.call (kern_of c.args.self.now) no) n.kernel n.room n.done n.refused;
      between = noted_between (Busy c.args.pid) c.args.self.now c.note_if_room-then-not-is_idle.new.self _ (λ _. refl) n.kernel n.events;
      lines = n.kept.2;
    }

pub enter-requires : goal.enter-requires
unfolding runs_of waits_of
enter-requires c = record { pid = c.if-pid-ge64.false; runs = c.if-not-program.false; idle = idle_none _ (sym c.is_idle.ensures ∙ c.if-not-is_idle.false) }
