use Rattle.std.proofs.Common.{ap, ◌∙◌}
use Rattle.script.specs.Senses.{line_of}
use Rattle.script.proofs.Cutting.{of_none}
use Rattle.script.proofs.Laws.{parsed, no_words}
use Rattle.script.proofs.parse.Goals as goal

pub returns-in_err-cut : goal.returns-in_err-cut
returns-in_err-cut c = of_none _ c.from_residual.ensures (no_words c.args.text.now c.in_err-cut.ensures)

pub returns : goal.returns
returns c = parsed c.args.text.now c.in_ok-cut.field-0.items c.line_of.result c.in_ok-cut.ensures.0 c.in_ok-cut.ensures.1 (c.line_of.ensures ∙ ap line_of c.deref.ensures.0)
