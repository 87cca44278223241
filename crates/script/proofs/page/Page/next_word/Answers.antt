use Rattle.std.proofs.Common.{[], ◌∷◌}
use Rattle.script.proofs.Writing.{writes_on}
use Rattle.script.proofs.page.Page.next_word.Goals as goal

pub returns : goal.returns
returns c = writes_on _ _ _ (32 ∷ []) _ c.in_ok-put.ensures.text c.put.ensures.stays c.word.ensures
