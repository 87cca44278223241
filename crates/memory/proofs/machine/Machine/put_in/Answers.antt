use Rattle.std.proofs.Common.{◌<◌, length, sym, ap, subst, rules}
use Rattle.memory.proofs.Arrays.{box_read}
use Rattle.memory.proofs.Kernels.{put_is}
use Rattle.memory.proofs.machine.Machine.put_in.Goals as goal

pub push-requires : goal.push-requires
push-requires c = subst (λ n. n < 512) (sym (ap length (box_read c.args.self.now.mailboxes c.args.to c.index-mailboxes-to.result (search rules)))) c.requires.room

pub returns-clause-changes : goal.returns-clause-changes
returns-clause-changes c = record { kernel = put_is c.args.self.now c.args.to c.args.m _ _ (search rules) c.push.ensures; events = search rules; aside = search rules }
