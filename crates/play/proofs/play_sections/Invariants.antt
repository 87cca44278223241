use Rattle.std.proofs.Common.{◌≡◌, ◌-◌, length}
use Rattle.script.specs.Pages.{size}
use Rattle.play.proofs.play_sections.Given as goal

abbrev pub invariant-loop-line : goal.invariant-loop-line
invariant-loop-line l = (l.lines.text.now ≡ l.script) × (size l.page ≡ size l.initial.page)

-- each section reads on
abbrev pub decreases-loop-line : goal.decreases-loop-line
decreases-loop-line l = length l.script - l.lines.at
