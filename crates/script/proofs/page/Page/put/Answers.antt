use Rattle.std.proofs.Common.{◌++◌, refl, ap, ◌∙◌, arith, rules}
use Rattle.std.proofs.lemmas.List.{take_all}
use Rattle.script.specs.Pages.{written}
use Rattle.script.proofs.Writing.{byte_more}
use Rattle.script.proofs.page.Page.put.Goals as goal

pub loop-byte-preserved : goal.loop-byte-preserved
loop-byte-preserved c = (search rules, omega arith, byte_more c.loop-byte.self.buf.now c.args.bytes.now (written c.args.self.now) c.loop-byte.self.len c.loop-byte.byte-index _ c.loop-byte.invariant.2 (omega arith) (omega arith) refl)

pub returns : goal.returns
returns c = record { stays = c.loop-byte.invariant.0; text = c.loop-byte.invariant.2 ∙ ap (λ l. written c.args.self.now ++ l) (take_all _ c.args.bytes.now (omega arith)) }
