use Rattle.std.proofs.Common.{◌≡◌, ap, ◌∙◌}
use Rattle.script.specs.Text.{report_text}
use Rattle.script.specs.Words.{spell}
use Rattle.script.proofs.Spelling.{report_text_lem}
use Rattle.script.proofs.page.Page.print.Goals as goal

pub returns-clause-printed : goal.returns-clause-printed
returns-clause-printed c =
    let text : spell c.deref.result.now ≡ report_text c.args.r = ap spell (c.deref.ensures.0 ∙ c.report_words.ensures) ∙ report_text_lem c.args.r in
    rw text at c.whole.ensures.printed
