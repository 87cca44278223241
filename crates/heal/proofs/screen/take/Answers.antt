use Rattle.std.proofs.Common.{◌≡◌, ◌⊎◌, sym, refl, ◌∙◌, inl, inr, arith}
use Rattle.heal.specs.declared.Call.TheVariants.{Take}
use Rattle.heal.specs.declared.decision.Refusal.TheVariants.{DeskNotOwn}
use Rattle.heal.specs.Kernel.{server_of}
use Rattle.heal.specs.Journal.{viewed}
use Rattle.heal.proofs.Ending.{looked, refuses, ends}
use Rattle.heal.proofs.Serving.{desk_cell}
use Rattle.heal.proofs.Deciders.{take_no9, take_done}
use Rattle.heal.proofs.screen.take.Goals as goal
use Rattle.heal.proofs.screen.take.Goals.{in_default-via-in-Some+else-owner-p, in_default-via-in_default}

there : server_of Take ≡ 2
unfolding server_of
there = refl

pub returns-in-Some : goal.returns-in-Some
returns-in-Some g c =
    let k0 = g.K.Desk.kern c.args.k.now in
    let z = c.requires.stand in
    let two = sym z.here ∙ there in
    let x = c.in_ok-owner.ensures.gives _ refl in
    let o = rw c.in-Some.is at x.0 in
    let w : (viewed k0).cell 2 52 ≡ c.in-Some.owner = desk_cell k0 52 two ∙ o.0 in
    refuses c.args.p Take DeskNotOwn (looked c.in_ok-owner.ensures) z (take_no9 c.args.p (viewed k0) _ two z (λ e. o.1 (sym w ∙ e)) (λ e. c.if-owner-p.true (sym w ∙ e))) (omega arith)

pub returns-in_default : goal.returns-in_default
returns-in_default g c =
    let k0 = g.K.Desk.kern c.args.k.now in
    let z = c.requires.stand in
    let two = sym z.here ∙ there in
    let x = c.in_ok-owner.ensures.gives _ refl in
    let d = desk_cell k0 52 two in
    let free : ((viewed k0).cell 2 52 ≡ 0) ⊎ ((viewed k0).cell 2 52 ≡ c.args.p) = elim c.in_default.branch [ in_default-via-in-Some+else-owner-p w ↦ (let o = rw w.in-Some.is at x.0 in inr (d ∙ (o.0 ∙ w.if-owner-p.false))) | in_default-via-in_default w ↦ (let o = rw w.in_default.is at x.0 in inl (d ∙ o)) ] in
    ends c.args.p Take c.new.ensures.answer c.new.ensures.writes (looked c.in_ok-owner.ensures) z (take_done c.args.p (viewed k0) _ two z free) (omega arith)
