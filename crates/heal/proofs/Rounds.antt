-- The days: what stands between turns, and after a round in which none fell.
-- Assumes nothing.
use Rattle.std.proofs.Common.{◌≡◌, ℕ, ◌≤◌, Bool, true, false, ◌⊎◌, List, [], ◌∷◌, sym, refl, ap, ◌∙◌, subst, subst₂, inl, inr, arith}
use Rattle.std.proofs.lemmas.Bool.Decides.{nat_tests as tests}
use Rattle.heal.specs.declared.Call.{Call}
use Rattle.heal.specs.declared.Call.TheVariants.{Spawn, Exit, Wait, Kill, Open, Close, Read, Write, Remove, Take, Leave, Say, Hear}
use Rattle.heal.specs.Kernel.{Event, Round, Kern, at', with_fell, server_of, Between, AtStart}
use Rattle.heal.specs.House.{Explained}
use Rattle.heal.specs.Promise.{can}
use Rattle.heal.specs.Journal.{viewed, Sound}
use Rattle.heal.specs.Invariant.{Inv, nothing, credit}
use Rattle.heal.specs.Turn.{Turned}
use Rattle.heal.proofs.Told.{between_kept, round_kept, start_kept}
use Rattle.heal.proofs.Meant.{between_viewed, between_cells, between_fell, cells_sound, seat_sound, renew_sound, start_sound, start_viewed}

-- none has fallen; and if the round is whole so far, the servers that had their turn have given their credits
pub record Good (a : ℕ → ℕ) (b : Bool) (k : Kern) (es : List Event) : Type 0 where
  pub up : k.fell ≡ false
  pub sound : Sound k
  pub inv : Inv nothing (viewed k) es
  pub rich : b ≡ true → Inv a (viewed k) es

abbrev pub Stands : Kern → List Event → Type 0
Stands k es = (k.fell ≡ false) × Sound k × Inv nothing (viewed k) es

pub few0 : (σ : ℕ) → nothing σ ≤ 1000
few0 σ = omega arith

pub good_start : (k : Kern) (es : List Event) → AtStart k → es ≡ [] → Stands k es
good_start k es h e = (h.8, start_sound k h, subst (Inv nothing (viewed k)) (sym e) (start_kept (viewed k) (start_viewed k h)))

pub good_loop : (k : Kern) (es : List Event) → Stands k es → Good nothing true k es
good_loop k es h = record { up = h.0; sound = h.1; inv = h.2; rich = λ _. h.2 }

pub good_between : (a : ℕ → ℕ) → ((σ : ℕ) → a σ ≤ 1000) → (b : Bool) {k l : Kern} {es fs : List Event} → Good a b k es → Between k es l fs → Good a b l fs
good_between a f b {k = k} {l = l} h d = record { up = between_fell d ∙ h.up; sound = cells_sound k l (between_cells d) h.sound; inv = between_kept nothing few0 (between_viewed d) h.inv; rich = λ e. between_kept a f (between_viewed d) (h.rich e) }

-- a server has its turn
pub record Seated (a : ℕ → ℕ) (b : Bool) (σ : ℕ) (k : Kern) (es : List Event) : Type 0 where
  pub good : Good a b k es
  pub whose : k.at ≡ σ
  pub many : 4096 ≤ k.left

pub seated : (a : ℕ → ℕ) → ((σ : ℕ) → a σ ≤ 1000) → (b : Bool) (σ : ℕ) {k l m : Kern} {es fs gs : List Event} → Good a b k es → Between k es l fs → m ≡ at' σ l → gs ≡ fs → Seated a b σ m gs
seated a u b σ {l = l} {fs = fs} h d e f = subst₂ (λ x y. Seated a b σ x y) (sym e) (sym f) (let i = good_between a u b h d in record { good = record { up = i.up; sound = seat_sound σ l i.sound; inv = i.inv; rich = i.rich }; whose = refl; many = omega arith })

-- how a turn ended, with whether the round was whole before and is so after
abbrev pub Ended : Kern → List Event → Kern → List Event → Bool → Bool → Type 0
Ended k es m gs b c = (Turned k es true m gs × (c ≡ b)) ⊎ ((l : Kern) × (fs : List Event) × Turned k es false l fs × (m ≡ with_fell false l) × (gs ≡ fs) × (c ≡ false))

module _ {V : Type 0} (kern : V → Kern) (seen : V → List Event) where
  pub ended_ok : (u v : V) {b c : Bool} {k : Kern} {es : List Event} → Turned k es true (kern u) (seen u) → v ≡ u → c ≡ b → Ended k es (kern v) (seen v) b c
  ended_ok u v {k = k} {es = es} t e w = inl (subst (λ x. Turned k es true (kern x) (seen x)) (sym e) t, w)

  pub ended_err : (t u v : V) {b c : Bool} {k : Kern} {es : List Event} → Turned k es false (kern t) (seen t) → (kern u ≡ with_fell false (kern t)) × (seen u ≡ seen t) → v ≡ u → c ≡ false → Ended k es (kern v) (seen v) b c
  ended_err t u v x r e w = inr (kern t, seen t, x, ap kern e ∙ r.0, ap seen e ∙ r.1, w)

pub ended : (a : ℕ → ℕ) (σ : ℕ) {b c : Bool} {k m : Kern} {es gs : List Event} → Seated a b σ k es → Ended k es m gs b c → Good (credit σ 32 a) c m gs
ended a σ {k = k} {m = m} {es = es} {gs = gs} s (inl x) =
    record { up = x.0.fell; sound = x.0.sound; inv = x.0.kept nothing s.good.inv; rich = λ e. subst (λ τ. Inv (credit τ 32 a) (viewed m) gs) s.whose (x.0.gave refl a (s.good.rich (sym x.1 ∙ e))) }
ended a σ {c = c} {m = m} {gs = gs} s (inr x) =
    record { up = ap (λ y. y.fell) x.3; sound = subst Sound (sym x.3) (renew_sound false x.0 x.2.sound); inv = subst₂ (λ y z. Inv nothing (viewed y) z) (sym x.3) (sym x.4) (x.2.kept nothing s.good.inv); rich = λ e. absurd (cc x.5) }

abbrev pub one : ℕ → ℕ
one = credit 0 32 nothing

abbrev pub two : ℕ → ℕ
two = credit 1 32 one

abbrev pub three : ℕ → ℕ
three = credit 2 32 two

pub few1 : (σ : ℕ) → one σ ≤ 1000
few1 σ = grind (arith, tests)

pub few2 : (σ : ℕ) → two σ ≤ 1000
few2 σ = grind (arith, tests)

rich : (c : Call) → 32 ≤ three (server_of c)
unfolding server_of
rich (Spawn n) = omega arith
rich (Exit c) = omega arith
rich Wait = omega arith
rich (Kill p) = omega arith
rich (Open n w) = omega arith
rich (Close h) = omega arith
rich (Read h a) = omega arith
rich (Write h a x) = omega arith
rich (Remove n) = omega arith
rich Take = omega arith
rich Leave = omega arith
rich (Say x) = omega arith
rich Hear = omega arith

pub rounds : {b : Bool} {k : Kern} {es : List Event} → Good three b k es → b ≡ true → Inv nothing (viewed k) (Round ∷ es)
rounds {k = k} {es = es} h e = round_kept three (viewed k) es rich (h.rich e)

pub round_needs : {b : Bool} {k : Kern} {es : List Event} → Good three b k es → b ≡ true → (k.fell ≡ false) × Explained can (Round ∷ es)
round_needs h e = let i = rounds h e in (h.up, (i.0, i.1))

module _ {V : Type 0} (kern : V → Kern) (seen : V → List Event) where
  pub again_round : (t u v : V) {b : Bool} → Good three b (kern t) (seen t) → b ≡ true → kern u ≡ kern t → seen u ≡ Round ∷ seen t → v ≡ u → Stands (kern v) (seen v)
  again_round t u v h e p q w =
      subst (λ x. Stands (kern x) (seen x)) (sym w) (subst₂ (λ y z. Stands y z) (sym p) (sym q) (h.up, h.sound, rounds h e))

  pub again_not : (t v : V) {b : Bool} → Good three b (kern t) (seen t) → v ≡ t → Stands (kern v) (seen v)
  again_not t v h w = subst (λ x. Stands (kern x) (seen x)) (sym w) (h.up, h.sound, h.inv)
