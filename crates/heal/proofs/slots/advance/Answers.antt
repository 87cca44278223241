use Rattle.std.proofs.Common.{◌≡◌, ◌+◌, sym, refl, ap, ◌∙◌, subst, arith}
use Rattle.heal.specs.Kernel.{kept}
use Rattle.heal.specs.Journal.{viewed}
use Rattle.heal.specs.Ready.{FirstFrom}
use Rattle.heal.specs.Sweep.{word_of, slot_of}
use Rattle.heal.specs.Invariant.{ready}
use Rattle.heal.specs.Turn.{cells, Keeps}
use Rattle.heal.proofs.Advancing.{may_put, next_word}
use Rattle.heal.proofs.Steps.{did_then, read_put}
use Rattle.heal.proofs.slots.advance.Goals as goal

pub write-requires-clause-keeps : goal.write-requires-clause-keeps
write-requires-clause-keeps g c =
    let k1 = g.K.Desk.kern c.next_ready.new.k in
    let s1 = g.K.Desk.seen c.next_ready.new.k in
    let x1 = c.in_ok-next.ensures.gives _ refl in
    let e : c.into.result ≡ word_of (slot_of c.in_ok-next.next) = c.into.ensures ∙ ap word_of c.from.ensures in
    subst (λ w. Keeps (viewed k1) s1 (kept 32 w (viewed k1)) s1) (sym e) (may_put 32 _ (g.K.Desk.kern c.args.k.now) x1.1 (c.requires.keeps _ (next_word _ _ _ (omega arith) x1.0)))

pub returns : goal.returns
returns g c =
    let k0 = g.K.Desk.kern c.args.k.now in
    let r1 = c.in_ok-next.ensures in
    let x1 = r1.gives _ refl in
    let e : c.into.result ≡ word_of (slot_of c.in_ok-next.next) = c.into.ensures ∙ ap word_of c.from.ensures in
    did_then r1.after c.write.ensures (λ y e' f. record { to = c.into.result; first = subst (λ w. FirstFrom (c.args.p + 1) (ready (cells k0)) w) (sym e) (next_word _ _ _ (omega arith) x1.0); exact = read_put 32 c.into.result k0 x1.1 f }) (omega arith)
