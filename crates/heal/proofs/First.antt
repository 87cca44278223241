-- The first message.
-- Assumes nothing.
use Rattle.std.proofs.Common.{◌≡◌, ℕ, ◌+◌, ◌<◌, List, [], ◌∷◌, Some, None, Option, refl, subst, arith}
use Rattle.heal.specs.declared.Call.{Call}
use Rattle.heal.specs.declared.Msg.{Msg}
use Rattle.heal.specs.declared.Msg.TheVariants.{Asks, Tells}
use Rattle.heal.specs.Kernel.{Event, Kern, first_of}
use Rattle.heal.specs.Journal.{viewed}
use Rattle.heal.specs.Invariant.{Inv, All, MsgOk, nothing}
use Rattle.heal.proofs.Storing.{head_fine}

pub first_is : (xs : List Msg) (o : Option Msg) (m : Msg) → o ≡ first_of xs → o ≡ Some m → (ms : List Msg) × (xs ≡ m ∷ ms)
unfolding first_of
first_is [] o m e f = absurd (cc)
first_is (x ∷ xs) o m e f = (xs, cc)

pub first_no : (xs : List Msg) (o : Option Msg) → o ≡ first_of xs → o ≡ None → xs ≡ []
unfolding first_of
first_no [] o e f = refl
first_no (x ∷ xs) o e f = absurd (cc)

pub no_tells : (a : ℕ → ℕ) (k : Kern) (es : List Event) (f t x y z : ℕ) (ms : List Msg) → k.box k.at ≡ Tells f t x y z ∷ ms → Inv a k es → ⊥
no_tells a k es f t x y z ms e i = (subst (All (MsgOk k.pending (k.cell k.at) k.at)) e (i.2.mail k.at).fine).0

-- its number has a successor
pub first_fits : (k : Kern) (es : List Event) (p n : ℕ) (c : Call) (ms : List Msg) → k.box k.at ≡ Asks p n c ∷ ms → Inv nothing (viewed k) es → (p < 64) × (n + 1 < 18446744073709551616)
first_fits k es p n c ms e i =
    let o = head_fine nothing (viewed k) es p n c ms e i in
    let u = i.2.numbers k.at p o.1 in
    let t = u.this n c o.2 in (o.1, omega (arith, u.fits))
