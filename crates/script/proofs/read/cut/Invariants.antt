use Rattle.std.proofs.Common.{◌≡◌, ◌≤◌, map, length, All}
use Rattle.script.specs.Words.{spelt}
use Rattle.script.specs.Cuts.{Readable}
use Rattle.script.proofs.read.cut.Given as goal

abbrev pub invariant-loop-word : goal.invariant-loop-word
invariant-loop-word l =
    (goal.iterator-loop-word).can_next l.word-iterator ×
    (goal.iterator-loop-word).is_finite l.word-iterator ×
    (map spelt l.words.items ≡ map (λ x. x.now) l.yielded) ×
    All Readable l.words.items × (length l.words.items ≤ 5)
