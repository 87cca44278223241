use Rattle.std.proofs.Common.{◌≡◌, sym, refl, ap, ◌∙◌, arith, below_more}
use Rattle.heal.specs.Files.{hand_at}
use Rattle.heal.specs.Turn.{cells}
use Rattle.heal.proofs.Steps.{after_then, did_ok, same_cells, read_read}
use Rattle.heal.proofs.files.lowest_empty.Goals as goal

pub returns-then-word-eq0 : goal.returns-then-word-eq0
returns-then-word-eq0 g c =
    let k = g.K.Desk.kern c.args.k.now in
    let x = c.in_ok-word.ensures.gives _ refl in
    let i = c.loop-handle.invariant in
    let w = x.0 ∙ (ap (λ f. f c.handle_cell.result) (same_cells k i.same) ∙ ap (cells k) c.handle_cell.ensures) in
    did_ok (after_then i.after c.in_ok-word.ensures.after) ((c.loop-handle-test.true, sym w ∙ c.if-word-eq0.true, i.taken), read_read k i.same x.1) (omega (arith, c.loop-handle-test.true))

pub loop-handle-preserved : goal.loop-handle-preserved
loop-handle-preserved g c =
    let k = g.K.Desk.kern c.args.k.now in
    let x = c.in_ok-word.ensures.gives _ refl in
    let i = c.loop-handle.invariant in
    let w = x.0 ∙ (ap (λ f. f c.handle_cell.result) (same_cells k i.same) ∙ ap (cells k) c.handle_cell.ensures) in
    record {
      after = after_then i.after c.in_ok-word.ensures.after;
      same = read_read k i.same x.1;
      taken = below_more (λ j. cells k (hand_at c.args.p j) ≡ 0 → ⊥) c.loop-handle.handle i.taken (λ e. c.if-word-eq0.false (w ∙ e));
    }
