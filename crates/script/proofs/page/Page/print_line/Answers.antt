use Rattle.std.proofs.Common.{◌≡◌, ap, ◌∙◌}
use Rattle.script.specs.Text.{text_of}
use Rattle.script.specs.Words.{spell}
use Rattle.script.proofs.Spelling.{line_text}
use Rattle.script.proofs.page.Page.print_line.Goals as goal

pub returns-clause-printed : goal.returns-clause-printed
returns-clause-printed c =
    let text : spell c.deref.result.now ≡ text_of c.args.l = ap spell (c.deref.ensures.0 ∙ c.line_words.ensures) ∙ line_text c.args.l in
    rw text at c.whole.ensures.printed
