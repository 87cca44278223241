-- The steps of the sweep: finish, tell, clear.
-- Assumes nothing.
use Rattle.std.proofs.Common.{◌≡◌, ℕ, ◌+◌, ◌-◌, ◌<◌, ◌≤◌, Bool, true, false, cond, not, ◌&&◌, T, eqb, ◌⊎◌, List, [], is_ok, Result, sym, refl, ap, ◌∙◌, subst, subst₂, arith}
use Rattle.std.proofs.lemmas.Bool.Decides.{nat_tests as tests}
use Rattle.heal.specs.declared.Answer.{Answer}
use Rattle.heal.specs.declared.Down.{Down}
use Rattle.heal.specs.Kernel.{Event, Kern, Does, is_call, mine, kept, answered, answers}
use Rattle.heal.specs.House.{Explained}
use Rattle.heal.specs.Promise.{can}
use Rattle.heal.specs.Journal.{viewed, own}
use Rattle.heal.specs.Codec.{answer_of}
use Rattle.heal.specs.Ready.{has, FirstFrom}
use Rattle.heal.specs.Invariant.{Inv, last, done, sweep, ready, owed, nothing, plus, credit}
use Rattle.heal.specs.Turn.{Able, After, Did, Exact, Keeps, cells, Told, Gives}
use Rattle.heal.proofs.Kept.{owed_words_kept, told_kept, clear_kept, begin_kept, loose}
use Rattle.heal.proofs.Told.{told_small, told_mine, answer_kept, answer_over}
use Rattle.heal.proofs.Atomics.{stood, does_sound, does_viewed, does_atomic}
use Rattle.heal.proofs.Meant.{cells_sound, answered_viewed, answered_cells}
use Rattle.heal.proofs.Steps.{atomic_did, did_and, put_cell}

-- what the answer asks, and what it gives
pub tell_needs : (k : Kern) (es : List Event) (p n : ℕ) (a : Answer) → sweep (cells k) ≡ 64 + p → n ≡ done (cells k) p - 1 → a ≡ owed (cells k) → Able 1 k es → (0 < k.left) × ((p < 64) × (T (mine p n k) × Explained can (answers p n a k es)))
tell_needs k es p n a e f g h =
    let j = answer_kept nothing (viewed k) es p e h.inv in
    (h.some, (told_small nothing (viewed k) es p e h.inv, (subst (λ m. T (mine p m k)) (sym f) (told_mine nothing (viewed k) es p e h.inv), subst₂ (λ m b. Explained can (answers p m b k es)) (sym f) (sym g) (j.0, j.1))))

cond_as : {X : Type 0} (f : Kern → X) (b : Bool) (x y : Kern) → f x ≡ f y → f (cond b x y) ≡ f y
cond_as f true x y e = e
cond_as f false x y e = refl

told_at : (k l : Kern) (es gs : List Event) (p : ℕ) (r : Result (Unit {0}) Down) → sweep (cells k) ≡ 64 + p → Able 1 k es → Does k (answered p (done (cells k) p - 1) k) es (answers p (done (cells k) p - 1) (owed (cells k)) k es) (is_ok r) l gs → Did 1 k es r l gs (λ _. Told p (done (cells k) p - 1) k l)
told_at k l es gs p r e h d =
    let n = done (cells k) p - 1 in
    let b = is_call n (k.pending p) in
    did_and (atomic_did 1 k (answered p n (viewed k)) l es (answers p n (owed (cells k)) (viewed k) es) gs r h.stands (cond_as (λ κ. κ.at) b _ (viewed k) refl) (cond_as (λ κ. κ.fell) b _ (viewed k) refl) (λ a i. answer_kept a (viewed k) es p e i)
    (does_sound d h.sound (cells_sound k (answered p n k) (answered_cells p n k) h.sound))
    (λ u. ap (λ κ. own κ 0) (stood d u).1 ∙ (cond_as (λ κ. own κ 0) b _ k refl ∙ h.settled))
    (does_atomic (does_viewed (answered p n (viewed k)) d (answered_viewed p n k)) (cond_as (λ κ. κ.left) b _ (viewed k) refl))) (λ x u z. record { over = ap (λ κ. is_call n (κ.pending p)) z.is ∙ answer_over nothing (viewed k) es p e h.inv; same = ap (λ κ. κ.cell κ.at) z.is ∙ cond_as (λ κ. κ.cell κ.at) b _ (viewed k) refl; boxes = ap (λ κ. κ.box) z.is ∙ cond_as (λ κ. κ.box) b _ (viewed k) refl })

pub told : (k l : Kern) (es gs : List Event) (p n : ℕ) (a : Answer) (r : Result (Unit {0}) Down) → sweep (cells k) ≡ 64 + p → n ≡ done (cells k) p - 1 → a ≡ owed (cells k) → Able 1 k es → Does k (answered p n k) es (answers p n a k es) (is_ok r) l gs → Did 1 k es r l gs (λ _. Told p n k l)
told k l es gs p n a r e f g h = subst₂ (λ m b. Does k (answered p m k) es (answers p m b k es) (is_ok r) l gs → Did 1 k es r l gs (λ _. Told p m k l)) (sym f) (sym g) (told_at k l es gs p r e h)

pub told_keeps : (p w n : ℕ) (k : Kern) (es : List Event) → sweep (k.cell k.at) ≡ 64 + p → n ≡ done (k.cell k.at) p - 1 → is_call n (k.pending p) ≡ false → FirstFrom (p + 1) (ready (k.cell k.at)) w → Keeps k es (kept 32 w k) es
told_keeps p w n k es e f g h a i = told_kept a k es i p w e (subst (λ m. is_call m (k.pending p) ≡ false) f g) h

-- words of the answer
pub answer_keeps : (j x : ℕ) (k : Kern) (es : List Event) → (j ≡ 33) ⊎ ((j ≡ 34) ⊎ (j ≡ 35)) → sweep (k.cell k.at) < 64 → Keeps k es (kept j x k) es
answer_keeps j x k es h l a i = owed_words_kept a k es i j x h l

pub put_other : (c x : ℕ) (k l : Kern) (es fs : List Event) → Exact (kept c x (viewed k)) es l fs → (j : ℕ) → (j ≡ c → ⊥) → cells l j ≡ cells k j
put_other c x k l es fs e j h = let z = put_cell c x k e j in grind (arith, tests)

pub put_here : (c x : ℕ) (k l : Kern) (es fs : List Event) → Exact (kept c x (viewed k)) es l fs → cells l c ≡ x
put_here c x k l es fs e = let z = put_cell c x k e c in grind (arith, tests)

pub answer_there : (a b c : ℕ) (k0 k1 k2 k3 k4 : Kern) (e0 e1 e2 e3 e4 : List Event) → Exact (kept 33 a (viewed k0)) e0 k1 e1 → Exact (kept 34 b (viewed k1)) e1 k2 e2 → Exact (kept 35 c (viewed k2)) e2 k3 e3 → Exact (viewed k3) e3 k4 e4 → owed (cells k4) ≡ answer_of a b c
answer_there a b c k0 k1 k2 k3 k4 e0 e1 e2 e3 e4 f1 f2 f3 f4 =
    let u = put_here _ _ _ _ _ _ f1 in let v = put_here _ _ _ _ _ _ f2 in let w = put_here _ _ _ _ _ _ f3 in
    let x = put_other _ _ _ _ _ _ f2 33 (λ z. omega arith) in let y = put_other _ _ _ _ _ _ f3 33 (λ z. omega arith) in let z = put_other _ _ _ _ _ _ f3 34 (λ z. omega arith) in
    ap (λ κ. answer_of (κ.cell κ.at 33) (κ.cell κ.at 34) (κ.cell κ.at 35)) f4.is ∙ cc

pub less : (σ n : ℕ) (a : ℕ → ℕ) (k : Kern) (es : List Event) → Inv (plus σ n a) k es → Inv a k es
less σ n a k es i = loose (plus σ n a) k es i a (λ τ. grind (arith, tests))

-- an empty slot
pub clear_gives : (p w : ℕ) (a : ℕ → ℕ) (k : Kern) (es : List Event) → sweep (k.cell k.at) ≡ p → 0 < p → p < 64 → done (k.cell k.at) p ≡ last (k.cell k.at) p → k.box k.at ≡ [] → FirstFrom (p + 1) (ready (k.cell k.at)) w → Inv a k es → Inv (plus k.at 1 a) (kept 32 w k) es
clear_gives p w a k es e l s f b h i = clear_kept a k es i p w e l s f b h

pub has_out : (p q bits m y : ℕ) → ((r : ℕ) → has r m ≡ has r bits && not (eqb p r)) → bits ≡ y → (q ≡ p → ⊥) → T (has q y) → T (has q m)
has_out p q bits m y h e n t = let f = h q in let g : has q bits ≡ has q y = ap (has q) e in grind (arith, tests)

pub give_pre : (n : ℕ) {t : ℕ} {k0 k1 : Kern} (k2 : Kern) {e0 e1 : List Event} (e2 : List Event) → After t k0 e0 true k1 e1 → Gives n k1 e1 k2 e2 → Gives n k0 e0 k2 e2
give_pre n k2 e2 x g a i = subst (λ σ. Inv (plus σ n a) (viewed k2) e2) x.seat (g a (x.kept a i))

pub give_add : (n : ℕ) (k0 k1 k2 : Kern) (e0 e1 e2 : List Event) → k1.at ≡ k0.at → Gives n k0 e0 k1 e1 → Gives 1 k1 e1 k2 e2 → Gives (n + 1) k0 e0 k2 e2
give_add n k0 k1 k2 e0 e1 e2 s g h a i = loose _ (viewed k2) e2 (h _ (g a i)) _ (λ τ. grind (arith, tests))

pub begin_gives : (w : ℕ) (k : Kern) (es : List Event) → sweep (k.cell k.at) ≡ 0 → k.box k.at ≡ [] → FirstFrom 1 (ready (k.cell k.at)) w → (a : ℕ → ℕ) (b : ℕ) → b ≤ a k.at + 32 → Inv a k es → Inv (credit k.at b a) (kept 32 w k) es
begin_gives w k es e x h a b z i = begin_kept a k es i w b e x h z

pub begin_keeps : (w : ℕ) (k : Kern) (es : List Event) → sweep (k.cell k.at) ≡ 0 → k.box k.at ≡ [] → FirstFrom 1 (ready (k.cell k.at)) w → Keeps k es (kept 32 w k) es
begin_keeps w k es e x h a i = loose (credit k.at (a k.at) a) (kept 32 w k) es (begin_kept a k es i w (a k.at) e x h (omega arith)) a (λ τ. grind (arith, tests))
