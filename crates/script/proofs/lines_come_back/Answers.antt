use Rattle.script.proofs.Laws.{comes_back}
use Rattle.script.proofs.lines_come_back.Goals as goal

pub returns : goal.returns
returns c = comes_back
