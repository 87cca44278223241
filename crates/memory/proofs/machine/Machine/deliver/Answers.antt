use Rattle.std.proofs.Common.{length, sym, ap, ◌∙◌, arith, rules}
use Rattle.std.proofs.lemmas.Bool.{cond-true, cond-false}
use Rattle.memory.specs.Memory.{kern_of}
use Rattle.memory.proofs.Arrays.{box_read}
use Rattle.memory.proofs.Kernels.{room_is, room_not}
use Rattle.memory.proofs.machine.Machine.deliver.Goals as goal

pub returns-then-len-ge-BOX : goal.returns-then-len-ge-BOX
returns-then-len-ge-BOX c =
    let many = ap length (box_read c.args.self.now.mailboxes c.args.to c.index-mailboxes-to.result (search rules)) in
    let full = room_not (kern_of c.args.self.now) c.args.to (omega (arith, c.len.ensures, many)) in
    record { room = sym full; changes = record { kernel = sym (cond-false _ _ _ full); events = search rules; aside = search rules } }

pub put_in-requires-clause-room : goal.put_in-requires-clause-room
put_in-requires-clause-room c =
    let many = ap length (box_read c.args.self.now.mailboxes c.args.to c.index-mailboxes-to.result (search rules)) in
    omega (arith, c.len.ensures, many)

pub returns : goal.returns
returns c =
    let many = ap length (box_read c.args.self.now.mailboxes c.args.to c.index-mailboxes-to.result (search rules)) in
    let free = room_is (kern_of c.args.self.now) c.args.to (omega (arith, c.len.ensures, many)) in
    let put = c.put_in.ensures.changes in
    record { room = sym free; changes = record { kernel = put.kernel ∙ sym (cond-true _ _ _ free); events = put.events; aside = put.aside } }
