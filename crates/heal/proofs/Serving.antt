-- A word shown, and what handlers read: as facts about the cells at the start of a decision.
-- Assumes nothing.
use Rattle.std.proofs.Common.{◌≡◌, ℕ, ◌+◌, ◌<◌, ◌≤◌, Bool, true, false, cond, not, T, eqb, ◌⊎◌, List, [], ◌∷◌, ◌++◌, length, nat_eq, Some, None, Option, is_ok, Err, Result, IsErrAnd, sym, refl, ap, ◌∙◌, subst, subst₂, inl, inr, arith, length-append}
use Rattle.std.specs.Option.{option_eq}
use Rattle.std.proofs.lemmas.Bool.Decides.{nat_tests as tests}
use Rattle.std.proofs.lemmas.Bool.{eqb-true}
use Rattle.heal.specs.declared.Down.{Down}
use Rattle.heal.specs.declared.Call.{Call}
use Rattle.heal.specs.declared.Call.TheVariants.{Spawn, Exit, Wait, Kill, Say}
use Rattle.heal.specs.declared.decision.Moment.{Moment}
use Rattle.heal.specs.declared.decision.Refusal.TheVariants.{DeskNotOwn}
use Rattle.heal.specs.declared.decision.NotDone.{NotDone}
use Rattle.heal.specs.declared.decision.NotDone.TheVariants.{Refused, Waits, Fell}
use Rattle.heal.specs.Kernel.{Event, Kern, Does, Some', server_of, kept, with_screen, showed, shows}
use Rattle.heal.specs.House.{Explained, core}
use Rattle.heal.specs.Promise.{can}
use Rattle.heal.specs.Journal.{viewed, own, with_left}
use Rattle.heal.specs.Ready.{FirstFrom}
use Rattle.heal.specs.Files.{hand_at, size_at, name_in}
use Rattle.heal.specs.Invariant.{Inv, last, done, sweep, ready, owner_in, shown_in, heard_in, nothing, plus}
use Rattle.heal.specs.Deciding.{Standing, Pass, Chosen, Decides, OwnedBy, OwnDesk, Onscreen}
use Rattle.heal.specs.Turn.{Able, Did, Keeps, cells}
use Rattle.heal.proofs.Kept.{loose}
use Rattle.heal.proofs.Moments.{show_kept}
use Rattle.heal.proofs.Atomics.{stood, does_sound, does_viewed, does_atomic}
use Rattle.heal.proofs.Meant.{cells_sound, showed_viewed, showed_cells}
use Rattle.heal.proofs.Steps.{atomic_did, did_and, did_lost}
use Rattle.heal.proofs.FileCells.{handle_bounds}
use Rattle.heal.proofs.Finishing.{pass_gives, standing_left}
use Rattle.heal.proofs.Ending.{handed_on, refuses}
use Rattle.heal.proofs.Deciders.{OwnersCall, leaves, says, hears, not_own}

cond_as : {X : Type 0} (f : Kern → X) (b : Bool) (x y : Kern) → f x ≡ f y → f (cond b x y) ≡ f y
cond_as f true x y e = e
cond_as f false x y e = refl

-- what stands of a call and its kernel, at another screen
standing_screen : (p : ℕ) (c : Call) (xs : List ℕ) (k : Kern) → Standing p c k → Standing p c (with_screen xs k.keys k)
standing_screen p c xs k z = record { number = z.number; low = z.low; small = z.small; at = z.at; pend = z.pend; here = z.here; held = z.held; undone = z.undone; none = z.none }

module _ (p place x : ℕ) (k : Kern) (es : List Event) (two : k.at ≡ 2) (z : Standing p (Say x) k) (o : owner_in (k.cell 2) ≡ p) (w : place ≡ shown_in (k.cell 2)) where
  at2 : sweep (k.cell 2) ≡ p
  at2 = subst (λ σ. sweep (k.cell σ) ≡ p) two z.at

  pub shows_kept : (a : ℕ → ℕ) → Inv a k es → Inv a (showed place x k) (shows place x k es)
  shows_kept a i = show_kept a k es i p z.number x at2 z.pend (omega (arith, subst (λ σ. last (k.cell σ) p ≡ z.number + 1) two z.held)) (subst (λ σ. done (k.cell σ) p ≤ z.number) two z.undone) o place w

  pub on_screen : Inv nothing k es → Onscreen p place x (showed place x k)
  on_screen i = by (eqb place (length k.screen)) refl
    where
      by : (b : Bool) → eqb place (length k.screen) ≡ b → Onscreen p place x (cond b (with_screen (k.screen ++ (x ∷ [])) k.keys k) k)
      by true e = record { stand = standing_screen p (Say x) (k.screen ++ (x ∷ [])) k z; two = two; own = o; which = sym w; len = length-append k.screen (x ∷ []) ∙ ap (λ n. n + 1) (sym (eqb-true place (length k.screen) e)) }
      by false e = record { stand = z; two = two; own = o; which = sym w; len = (let y = i.2.desk.places (flip place (length k.screen) (shown_in (k.cell 2)) w e) in y.next ∙ ap (λ n. n + 1) (sym w)) }
        where
          flip : (a b c : ℕ) → a ≡ c → eqb a b ≡ false → eqb b c ≡ false
          flip a b c e f = grind (arith, tests)

on_left : (p place x m : ℕ) (k : Kern) → Onscreen p place x k → Onscreen p place x (with_left m k)
on_left p place x m k h = record { stand = standing_left p (Say x) m k h.stand; two = h.two; own = h.own; which = h.which; len = h.len }

pub show_needs : (p place x : ℕ) (k : Kern) (es : List Event) → Able 1 k es → k.at ≡ 2 → Standing p (Say x) (viewed k) → owner_in (cells k) ≡ p → place ≡ shown_in (cells k) → (0 < k.left) × ((k.at ≡ 2) × Explained can (shows place x k es))
show_needs p place x k es h two z o w =
    let j = shows_kept p place x (viewed k) es two z (subst (λ σ. owner_in ((viewed k).cell σ) ≡ p) two o) (subst (λ σ. place ≡ shown_in ((viewed k).cell σ)) two w) nothing h.inv in
    (h.some, (two, (j.0, j.1)))

pub show_did : (p place x : ℕ) (k l : Kern) (es gs : List Event) (r : Result (Unit {0}) Down) → Able 1 k es → k.at ≡ 2 → Standing p (Say x) (viewed k) → owner_in (cells k) ≡ p → place ≡ shown_in (cells k) → Does k (showed place x k) es (shows place x k es) (is_ok r) l gs → Did 1 k es r l gs (λ _. Onscreen p place x (viewed l) × (l.box ≡ k.box))
show_did p place x k l es gs r h two z o w d =
    let b = eqb place (length k.screen) in
    let o' = subst (λ σ. owner_in ((viewed k).cell σ) ≡ p) two o in
    let w' = subst (λ σ. place ≡ shown_in ((viewed k).cell σ)) two w in
    did_and (atomic_did 1 k (showed place x (viewed k)) l es (shows place x (viewed k) es) gs r h.stands (cond_as (λ κ. κ.at) b _ (viewed k) refl) (cond_as (λ κ. κ.fell) b _ (viewed k) refl) (λ a i. shows_kept p place x (viewed k) es two z o' w' a i)
    (does_sound d h.sound (cells_sound k (showed place x k) (showed_cells place x k) h.sound))
    (λ u. ap (λ κ. own κ 0) (stood d u).1 ∙ (cond_as (λ κ. own κ 0) b _ k refl ∙ h.settled))
    (does_atomic (does_viewed (showed place x (viewed k)) d (showed_viewed place x k)) (cond_as (λ κ. κ.left) b _ (viewed k) refl))) (λ y u q. (subst (Onscreen p place x) (sym q.is) (on_left p place x l.left (showed place x (viewed k)) (on_screen p place x (viewed k) es two z o' w' h.inv)), ap (λ κ. κ.box) q.is ∙ cond_as (λ κ. κ.box) b _ (viewed k) refl))

-- a word counted, a key heard: there's always a number for it
pub counts_fit : {p n : ℕ} {c : Call} (k : Kern) {es : List Event} → k.at ≡ 2 → Standing p c (viewed k) → Able n k es → (shown_in (cells k) + 1 < 18446744073709551616) × (heard_in (cells k) + 1 < 18446744073709551616)
counts_fit {p = p} {c = c} k two z able =
    let i = able.inv in
    let p1 : p ≡ 1 = i.2.only p z.number c z.pend in
    let f = i.2.desk.few in
    let u = i.2.numbers k.at p z.small in
    let t = u.this z.number c z.pend in
    let b = u.fits in
    let dn : done ((viewed k).cell 2) 1 ≤ z.number = subst₂ (λ σ r. done ((viewed k).cell σ) r ≤ z.number) two p1 z.undone in
    let f' = subst (λ σ. shown_in ((viewed k).cell σ) + heard_in ((viewed k).cell σ) ≤ done ((viewed k).cell 2) 1) (sym two) f in
    (omega arith, omega arith)

-- the sweep goes on from a call that waits
pub pass_keeps : (p : ℕ) (c : Call) (w : ℕ) (k : Kern) (es : List Event) → Chosen p c Pass k es → FirstFrom (p + 1) (ready (k.cell k.at)) w → Keeps k es (kept 32 w k) es
pass_keeps p c w k es h f a i = loose (plus k.at 1 a) (kept 32 w k) es (pass_gives p c w k es h.0 h.1 f a i) a (λ τ. grind (arith, tests))

-- the calls that aren't built
pub is_not_built : (c : Call) → ((x : ℕ) × (c ≡ Spawn x)) ⊎ (((x : ℕ) × (c ≡ Exit x)) ⊎ ((c ≡ Wait) ⊎ ((x : ℕ) × (c ≡ Kill x)))) → T (not (can c))
unfolding core
is_not_built c (inl h) = subst (λ c. T (not (can c))) (sym h.1) tt
is_not_built c (inr (inl h)) = subst (λ c. T (not (can c))) (sym h.1) tt
is_not_built c (inr (inr (inl e))) = subst (λ c. T (not (can c))) (sym e) tt
is_not_built c (inr (inr (inr h))) = subst (λ c. T (not (can c))) (sym h.1) tt

-- where a call is served
pub at_one : (p : ℕ) (c : Call) (k : Kern) → Standing p c k → server_of c ≡ 1 → k.at ≡ 1
at_one p c k z e = sym z.here ∙ e

-- the desk's cells, as its server reads them
pub desk_cell : (k : Kern) (j : ℕ) → k.at ≡ 2 → (viewed k).cell 2 j ≡ cells k j
desk_cell k j two = ap (λ σ. (viewed k).cell σ j) (sym two)

pub at_desk : {p : ℕ} {c : Call} (k : Kern) → OwnersCall c → Standing p c (viewed k) → k.at ≡ 2
unfolding server_of
at_desk k leaves z = sym z.here
at_desk k (says x) z = sym z.here
at_desk k hears z = sym z.here

-- p is whom the word of the desk's owner names, or it's not
pub is_owner : (o : Option ℕ) {w p : ℕ} → OwnedBy o w → false ≡ not (option_eq nat_eq o (Some p)) → w ≡ p
is_owner None h e = cc
is_owner (Some q) h e = grind (arith, tests)

pub not_owner : (o : Option ℕ) {w p : ℕ} → OwnedBy o w → 0 < p → true ≡ not (option_eq nat_eq o (Some p)) → w ≡ p → ⊥
not_owner None h l e = λ f. omega arith
not_owner (Some q) h l e = λ f. grind (arith, tests)

-- at a `?` where the desk has to be p's own
module _ (p : ℕ) {c : Call} {m : ℕ} {k l : Kern} {es fs : List Event} (w : OwnersCall c) (z : Standing p c (viewed k)) where
  desk_refused : (s : NotDone) → OwnDesk p k es (Err s) l fs → 1 ≤ m → Decides m p c k es (Err s) l fs
  desk_refused (Refused f) d h =
      let two = at_desk k w z in
      subst (λ f. Decides m p c k es (Err (Refused f)) l fs) (sym d.2) (refuses p c DeskNotOwn d.0 z (not_own p (viewed k) es two w z (λ e. d.1 (sym (desk_cell k 52 two) ∙ e))) h)
  desk_refused Waits d h = absurd d
  desk_refused Fell d h = did_lost refl d h

  pub desk_not_own : (s : NotDone) → OwnDesk p k es (Err s) l fs → (r : Result Moment NotDone) → IsErrAnd r (λ t. t ≡ s) → 1 ≤ m → Decides m p c k es r l fs
  desk_not_own s d r e h = handed_on (λ r. Decides m p c k es r l fs) r e (desk_refused s d h)

-- a handle's file
pub handle_name : (p h : ℕ) (k : Kern) (es : List Event) → k.at ≡ 1 → p < 64 → h < 8 → (cells k (hand_at p h) ≡ 0 → ⊥) → Inv nothing (viewed k) es → (name_in (cells k (hand_at p h)) < 64) × (0 < cells k (size_at (name_in (cells k (hand_at p h))))) × (cells k (size_at (name_in (cells k (hand_at p h)))) ≤ 257)
handle_name p h k es one lp lh n i = subst (λ σ. ((viewed k).cell σ (hand_at p h) ≡ 0 → ⊥) → (name_in ((viewed k).cell σ (hand_at p h)) < 64) × (0 < (viewed k).cell σ (size_at (name_in ((viewed k).cell σ (hand_at p h))))) × ((viewed k).cell σ (size_at (name_in ((viewed k).cell σ (hand_at p h)))) ≤ 257)) (sym one) (λ m. handle_bounds i.0 ((viewed k).cell 1) i.2.files p h ((viewed k).cell 1 (hand_at p h)) lp lh refl m) n

-- from what a slot holds to what stands
pub standing_slot : (p : ℕ) (c : Call) (k : Kern) → 0 < p → p < 64 → sweep (cells k) ≡ p → k.box k.at ≡ [] → (n : ℕ) × (k.pending p ≡ Some' n c) × (server_of c ≡ k.at) × (last (cells k) p ≡ n + 1) × (done (cells k) p ≤ n) → Standing p c (viewed k)
standing_slot p c k lo sm at bx h = record { number = h.0; low = lo; small = sm; at = at; pend = h.1; here = h.2; held = h.3; undone = h.4; none = bx }
