use Rattle.std.proofs.Common.{refl}
use Rattle.heal.proofs.Ending.{looked}
use Rattle.heal.proofs.Serving.{is_owner, not_owner}
use Rattle.heal.proofs.screen.ensure_owner.Goals as goal

pub returns-then-ne : goal.returns-then-ne
returns-then-ne g c =
    let x = c.in_ok-owner.ensures.gives _ refl in
    (looked c.in_ok-owner.ensures, not_owner c.in_ok-owner.field-0 x.0 c.requires.low c.if-ne.ensures, refl)

pub returns : goal.returns
returns g c =
    let x = c.in_ok-owner.ensures.gives _ refl in
    (looked c.in_ok-owner.ensures, is_owner c.in_ok-owner.field-0 x.0 c.if-ne.ensures)
