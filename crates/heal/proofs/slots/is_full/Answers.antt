use Rattle.std.proofs.Common.{◌+◌, refl, arith}
use Rattle.std.proofs.lemmas.Bool.Decides.{nat_tests as tests}
use Rattle.heal.proofs.Steps.{after_then, did_ok, same_cell, read_read}
use Rattle.heal.proofs.slots.is_full.Goals as goal

pub returns : goal.returns
returns g c =
    let K = g.K.Desk.kern in
    let k0 = K c.args.k.now in
    let r1 = c.in_ok-last.ensures in
    let x1 = r1.gives _ refl in
    let A1 = r1.after in
    let r2 = c.in_ok-done.ensures in
    let x2 = r2.gives _ refl in
    let A2 = after_then A1 r2.after in
    let q1 = same_cell k0 x1.1 (128 + c.args.p) in
    let le = (c.requires.able.inv.2.numbers k0.at c.args.p c.requires.small).le in
    let u1 = x1.0 in
    let u2 = x2.0 in
    did_ok A2 ((λ h. grind (arith, tests)), (λ h. grind (arith, tests)), read_read k0 x1.1 x2.1) (omega arith)
