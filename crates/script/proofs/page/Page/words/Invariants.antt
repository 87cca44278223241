use Rattle.std.proofs.Common.{◌≡◌, ◌++◌}
use Rattle.script.specs.Pages.{size, written}
use Rattle.script.proofs.Spelling.{first_words}
use Rattle.script.proofs.page.Page.words.Given as goal

abbrev pub invariant-loop-word : goal.invariant-loop-word
invariant-loop-word l = (size l.self ≡ size l.fn.self) × (written l.self ≡ written l.fn.self ++ first_words l.words l.word-index)
