use Rattle.std.proofs.Common.{◌<◌, ◌≤◌, [], ◌∷◌, ◌++◌, length, sym, refl, ap, ◌∙◌, subst, inl, inr, rules, arith}
use Rattle.std.proofs.lemmas.Bool.{ltb-false}
use Rattle.heal.specs.declared.Msg.TheVariants.{Asks}
use Rattle.heal.specs.Kernel.{with_box}
use Rattle.heal.specs.Kernel as kernel
use Rattle.script.specs.declared.Line.TheVariants as line
use Rattle.memory.specs.Lines.{Lacks}
use Rattle.memory.specs.Memory.{kern_of, seen_of, number_of}
use Rattle.memory.specs.Notes.{note_at}
use Rattle.memory.proofs.Arrays.{box_read}
use Rattle.memory.proofs.Scripts.{refused_between, asked_once, asked_is, asked_note, asked_kern}
use Rattle.memory.proofs.machine.Machine.enter.Goals.{then-number-via-then-number, then-number-via-else-number+then-is_full, then-number-via-else-number+else-is_full+then-not-has_room}
use Rattle.memory.proofs.machine.Machine.enter.Goals as goal

pub returns-then-number : goal.returns-then-number
unfolding number_of
returns-then-number c =
    let h = c.refuse.ensures in
    let m = c.args.self.now in
    let to = c.server_of-to in
    let many = ap length (box_read m.mailboxes to.result c.index-mailboxes-to.result (search rules)) in
    let lacks : Lacks (line.Ask c.args.pid c.args.call) m =
    elim c.then-number.branch [
      | then-number-via-then-number w ↦ inr (inl w.if-number.true)
      | then-number-via-else-number+then-is_full w ↦ let full : 512 ≤ length ((kern_of m).box to.result) = omega (arith, c.len-is_full.ensures, many, w.if-is_full.true) in inr (inr (subst (λ s. 512 ≤ length ((kern_of m).box s)) to.ensures.0 full))
      | then-number-via-else-number+else-is_full+then-not-has_room w ↦ inl (ltb-false _ _ (sym w.has_room.ensures ∙ w.if-not-has_room.true))
    ] in
    record { followed = inr (lacks, refl, h.refused); between = refused_between m _ h.refused; lines = h.kept.2 }

pub put_in-requires-clause-room : goal.put_in-requires-clause-room
put_in-requires-clause-room c =
    let m = c.args.self.now in
    let to = c.server_of-to.result in
    let many = ap length (box_read m.mailboxes to c.index-mailboxes-to.result (search rules)) in
    let same = ap (λ k. length (k.box to)) c.note.ensures.beside.kernel in
    omega (arith, c.len-is_full.ensures, many, same)

pub returns : goal.returns
unfolding number_of
returns c =
    let m = c.args.self.now in
    let number = number_of m.programs c.args.pid in
    let below : number < 18446744073709551615 = search rules in
    let n = c.note.ensures in
    let p = c.put_in.ensures in
    let to = c.server_of-to in
    let k =
    p.changes.kernel
    ∙ (ap (λ k. with_box (kernel.set to.result (k.box to.result ++ (Asks c.args.pid number c.args.call ∷ [])) k.box) k) n.beside.kernel
    ∙ asked_is m c.args.pid to.result c.args.call _ (search rules) to.ensures.0 refl refl refl) in
    let a = asked_note c.args.pid c.args.call (kern_of m) c.requires.runs c.requires.idle in
    record {
      followed =
          inl record {
            kernel = k ∙ sym (asked_kern c.args.pid c.args.call (kern_of m) c.requires.runs c.requires.idle);
            noted = (p.unnoted.0 ∙ n.noted.0, ap (λ ws. note_at ws m.noted) p.unnoted.1 ∙ (n.noted.1 ∙ sym a), λ j l. ap (λ ws. note_at ws j) p.unnoted.1 ∙ n.noted.2 j l);
            plan = p.changes.aside.0 ∙ n.beside.aside.0;
            rests = p.changes.aside.3 ∙ n.beside.aside.3;
            settles = p.changes.aside.4 ∙ n.beside.aside.4;
            is = p.changes.aside.5 ∙ n.beside.aside.5;
            goes_on = refl;
          };
      between = asked_once (kern_of m) _ (seen_of m) _ c.args.pid c.args.call c.requires.pid c.requires.runs c.requires.idle below k (p.changes.events ∙ n.events);
      lines = p.changes.aside.1 ∙ n.beside.aside.1;
    }
