use Rattle.std.proofs.Common.{sym, ◌∙◌}
use Rattle.script.proofs.Cutting.{keyword_is}
use Rattle.script.proofs.read.token_of.Goals as goal

pub returns-in_ok-keyword_of-in-None : goal.returns-in_ok-keyword_of-in-None
returns-in_ok-keyword_of-in-None c =
    (tt, keyword_is c.args.word.now c.in_ok-keyword_of-in-None.field-0 (sym c.keyword_of.ensures ∙ c.in_ok-keyword_of-in-None.was))
