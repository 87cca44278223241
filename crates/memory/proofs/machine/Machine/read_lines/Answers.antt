use Rattle.std.proofs.Common.{is_some, Some, None, sym, refl, ap, ◌∙◌}
use Rattle.std.specs.ControlFlow.{continue_value}
use Rattle.heal.specs.Kernel.{rest}
use Rattle.memory.specs.Lines.{none, more}
use Rattle.memory.proofs.Scripts.{between_then, heeded_as, goes_is}
use Rattle.memory.proofs.machine.Machine.read_lines.Goals as goal

pub loop-read-init : goal.loop-read-init
loop-read-init c = (rest _ _, none)

pub loop-read-preserved : goal.loop-read-preserved
loop-read-preserved c =
    let on = goes_is c.heed.result ∙ (ap (λ f. is_some (continue_value f)) (sym c.unwrap_or-flow.ensures) ∙ (sym c.is_continue.ensures ∙ c.if-not-is_continue.false)) in
    let read = c.in-Some.ensures.steps in
    let m = record c.loop-read.self { lines = c.next.new.self } in (
      between_then c.loop-read.invariant.0 c.heed.ensures.between,
      more _ (Some c.in-Some.read) c.loop-read.invariant.1 (refl, (refl, refl), refl, (refl, refl), refl, read.text, read.reads) (heeded_as (Some c.in-Some.read) _ _ _ c.heed.new.self on c.heed.ensures.heeded) c.heed.ensures.lines,
    )

pub returns-then-not-is_continue-clause-went : goal.returns-then-not-is_continue-clause-went
returns-then-not-is_continue-clause-went c =
    let off = goes_is c.heed.result ∙ (ap (λ f. is_some (continue_value f)) (sym c.unwrap_or-flow.ensures) ∙ (sym c.is_continue.ensures ∙ c.if-not-is_continue.true)) in
    let read = c.in-Some.ensures.steps in
    record {
      till = _;
      at = _;
      last = Some c.in-Some.read;
      went = c.loop-read.invariant.1;
      moved = (refl, (refl, refl), refl, (refl, refl), refl, read.text, read.reads);
      heeded = heeded_as (Some c.in-Some.read) _ _ _ c.heed.new.self off c.heed.ensures.heeded;
      lines = c.heed.ensures.lines;
    }

pub returns-clause-went : goal.returns-clause-went
returns-clause-went c =
    let read = c.in_default.ensures.steps in
    let m = record c.loop-read.self { lines = c.next.new.self } in
    record {
      till = _;
      at = m;
      last = None;
      went = c.loop-read.invariant.1;
      moved = (refl, (refl, refl), refl, (refl, refl), refl, read.text, read.reads);
      heeded = (refl, refl, refl, (refl, refl));
      lines = refl;
    }
