-- The machine that never falls stays lawful, whatever is asked.
-- Assumes nothing.
use Rattle.std.proofs.Common.{◌≡◌, ℕ, zero, suc, ◌+◌, ◌<◌, Bool, true, false, cond, not, ◌&&◌, ◌||◌, T, eqb, ltb, List, [], ◌∷◌, ◌++◌, sym, refl, ap, ◌∙◌, subst, subst₂, ⊎_elim, arith}
use Rattle.std.proofs.lemmas.Bool.Decides.{nat_tests as tests}
use Rattle.heal.specs.declared.Call.{Call}
use Rattle.heal.specs.declared.Call.TheVariants.{Spawn, Exit, Wait, Kill, Open, Close, Read, Write, Remove, Take, Leave, Say, Hear}
use Rattle.heal.specs.declared.Answer.{Answer}
use Rattle.heal.specs.declared.Answer.TheVariants.{No, Done}
use Rattle.heal.specs.Kernel.{Event}
use Rattle.heal.specs.House.{Proc, Nobody, Living, Dead, Empty, On, Now, Quiet, Under, Over, State, Gives, fresh, put, some', first, living, dead, nobody, parent_of, child_of, below, may_kill, clash, up_to1, dies, does, fits, ends, give_hand, set_proc, set_desk, set_on, older, is_empty, Run, begin, asks, types, acts, refuses, exits, not_built, shows, tells, begins, stops, round}
use Rattle.heal.proofs.Lawful.{Lawful, Kin, Held, Desked, Idle, Same, quiet, first_at, not_below_itself, born_kin, born_held, born_desk, born_idle, gone_kin, gone_living, dies_lawful, busy_lives, at_now, same_lawful, close_held, open_held, did_spawn, did_wait, did_kill, did_open, did_close, did_take, did_leave, did_exit, did_die, did_read, did_write, did_remove, did_say, did_hear}

-- what a call leaves, and that who asked for it lives on
abbrev Left : State → ℕ → Type 0
Left t p = Lawful t × T (living (t.proc p))

left_same : (s t : State) (p : ℕ) → Lawful s → T (living (s.proc p)) → t ≡ s → Left t p
left_same s t p h l e = subst (λ u. Left u p) (sym e) (h, l)

left_like : (s t : State) (p : ℕ) → Lawful s → T (living (s.proc p)) → Same s t → Left t p
left_like s t p h l e = (same_lawful s t h e, subst (λ f. T (living (f p))) (sym e.0) l)

-- tests taken apart
part_right : (x y : Bool) → T (x && y) → T y
part_right x y f = grind (arith, tests)

part_true : (x y : Bool) → T (x && y) → y ≡ true
part_true x y f = grind (arith, tests)

above_none : (k : ℕ) (y : Bool) → T (ltb 0 k && y) → 0 < k
above_none k y f = grind (arith, tests)

may_kill_lem : (x y b : Bool) → (x && y && b) ≡ true → T y × T b
may_kill_lem x y b m = (grind (arith, tests), grind (arith, tests))

first_is : (k : ℕ) (f : ℕ → Bool) → T (eqb k (first 64 f)) → some' 64 f ≡ true → (k < 64) × T (f k)
first_is k f t y =
    let e : k ≡ first 64 f = grind (arith, tests) in
    let z = first_at 64 f y in
    (subst (λ j. j < 64) (sym e) z.0, subst (λ j. T (f j)) (sym e) z.1)

-- who lives still lives
living_put : (f : ℕ → Proc) (p k q : ℕ) → T (living (f p)) → T (living (put k (Living q false) f p))
unfolding living
living_put f p k q l = grind (arith, tests)

living_other : (f : ℕ → Proc) (q p c : ℕ) → (q ≡ p → ⊥) → T (living (f p)) → T (living (cond (eqb p q) (Dead (parent_of (f q)) c) (up_to1 q (f p))))
unfolding living up_to1
living_other f q p c n l = grind (arith, tests)

below_not_one : (n : ℕ) (s : State) (p q : ℕ) → T (below n s p q) → q ≡ 1 → ⊥
unfolding below
below_not_one zero s p q b e = absurd b
below_not_one (suc n) s p q b e = grind (arith, tests)

-- a birth
module _ (k : ℕ) (s : State) (p : ℕ) (h : Lawful s) (l : T (living (s.proc p))) where
  birth : (k < 64) × T (ltb 0 k && nobody (s.proc k)) → Left (set_proc (put k (Living p false) s.proc) s) p
  birth f =
      let n : nobody (s.proc k) ≡ true = part_true (ltb 0 k) (nobody (s.proc k)) f.1 in
      let a : 0 < k = above_none k (nobody (s.proc k)) f.1 in (
        record {
          rank = put k (h.top + 1) h.rank;
          top = h.top + 1;
          kin = born_kin s.proc k p n a f.0 l h.rank h.top h.kin;
          held = born_held s.proc k p n a f.0 l s.hand h.held;
          desk = born_desk s.proc k p n a f.0 l s.owner h.desk;
          idle = born_idle s.proc k p n a f.0 l s.now' h.idle;
        },
        living_put s.proc p k p l,
      )

  -- a child that was waited for
  reaped : (k < 64) × T (child_of s p k && dead (s.proc k)) → Left (set_proc (put k Nobody s.proc) s) p
  reaped f =
      let d : T (dead (s.proc k)) = part_right (child_of s p k) (dead (s.proc k)) f.1 in
      let g = gone_living s.proc k d in (
        record {
          rank = h.rank;
          top = h.top;
          kin = gone_kin s.proc k d h.rank h.top h.kin;
          held = record {
            bare = λ q i. subst (λ b. T (b || is_empty (s.hand q i))) (sym (g q)) (h.held.bare q i);
            few = h.held.few;
            writer = h.held.writer;
          };
          desk = λ q. subst (λ b. T (b || not (eqb s.owner q) || eqb q 0)) (sym (g q)) (h.desk q);
          idle = λ q. subst (λ b. T (b || quiet (s.now' q))) (sym (g q)) (h.idle q);
        },
        subst (λ b. T b) (sym (g p)) l,
      )

  -- a kill
  killed : (q : ℕ) → may_kill s p q ≡ true → Left (dies q 255 s) p
  killed q m =
      let z = may_kill_lem (ltb q 64) (living (s.proc q)) (below 64 s p q) m in
      let self : q ≡ p → ⊥ = λ e. not_below_itself 64 s h.rank h.top p h.kin (subst (λ j. T (below 64 s p j)) e z.1) in
      (dies_lawful s q 255 h z.0 (below_not_one 64 s p q z.1), living_other s.proc q p 255 self l)

  opened_by_lem : (n : ℕ) (w : Bool) (t : State) (e : ℕ) → e < 8 → clash s n w ≡ false → t.proc ≡ s.proc → t.hand ≡ (give_hand p e (On n w) s).hand → t.owner ≡ s.owner → t.now' ≡ s.now' → Left t p
  opened_by_lem n w t e le c x y z v = (
    record {
      rank = h.rank;
      top = h.top;
      kin = subst (λ f. Kin f h.rank h.top) (sym x) h.kin;
      held = subst₂ (λ f g. Held f g) (sym x) (sym y) (open_held s p l h.held h.kin.range n w e c le);
      desk = subst₂ (λ f o. Desked f o) (sym x) (sym z) h.desk;
      idle = subst₂ (λ f o. Idle f o) (sym x) (sym v) h.idle;
    },
    subst (λ f. T (living (f p))) (sym x) l,
  )

  closed_by : (i : ℕ) → Left (give_hand p i Empty s) p
  closed_by i = (record { rank = h.rank; top = h.top; kin = h.kin; held = close_held s p l h.held i; desk = h.desk; idle = h.idle }, l)

  desked_by : (o : ℕ) → Desked s.proc o → Left (set_desk o s.screen s.keys s.heard s) p
  desked_by o d = (record { rank = h.rank; top = h.top; kin = h.kin; held = h.held; desk = d; idle = h.idle }, l)

own_desk : (f : ℕ → Proc) (p q : ℕ) → T (living (f p)) → T (living (f q) || not (eqb p q) || eqb q 0)
own_desk f p q l = grind (arith, tests)

free_desk : (f : ℕ → Proc) (q : ℕ) → T (living (f q) || not (eqb 0 q) || eqb q 0)
free_desk f q = grind (arith, tests)

older_idle : (s : State) (p : ℕ) (w : Now) (b : Bool) → T (b || quiet w) → T (b || quiet (older s p w))
unfolding quiet older
older_idle s p w b i = grind (arith, tests)

-- a program begins
begin_kin_ranks : (f : ℕ → Proc) (p q : ℕ) → f p ≡ Living q false → (r : ℕ) → (nobody (put p (Living q true) f r) ≡ nobody (f r)) × (living (put p (Living q true) f r) ≡ living (f r)) × (parent_of (put p (Living q true) f r) ≡ parent_of (f r))
unfolding nobody living parent_of
begin_kin_ranks f p q e r = (grind (arith, tests), grind (arith, tests), grind (arith, tests))

begin_one : (f : ℕ → Proc) (p q : ℕ) → f p ≡ Living q false → f 1 ≡ Living 1 true → put p (Living q true) f 1 ≡ Living 1 true
begin_one f p q e o = let z : p ≡ 1 → Living q false ≡ Living 1 true = λ i. sym e ∙ (ap f i ∙ o) in grind (arith, tests)

begin_lawful : (s : State) (p q : ℕ) → Lawful s → s.proc p ≡ Living q false → Lawful (set_on p true (set_proc (put p (Living q true) s.proc) s))
begin_lawful s p q h e =
    let b = begin_kin_ranks s.proc p q e in
    record {
      rank = h.rank;
      top = h.top;
      kin = record {
        one = begin_one s.proc p q e h.kin.one;
        range = λ r. subst (λ x. T (x || (ltb 0 r && ltb r 64))) (sym (b r).0) (h.kin.range r);
        live = λ r. subst (λ x. T (x || living (put p (Living q true) s.proc (parent_of (put p (Living q true) s.proc r))))) (sym (b r).0)
            (subst (λ j. T (nobody (s.proc r) || living (put p (Living q true) s.proc j))) (sym (b r).2)
            (subst (λ x. T (nobody (s.proc r) || x)) (sym (b (parent_of (s.proc r))).1) (h.kin.live r)));
        ranks = λ r. subst₂ (λ x j. T (x || eqb r 1 || ltb (h.rank j) (h.rank r))) (sym (b r).0) (sym (b r).2) (h.kin.ranks r);
        tops = h.kin.tops;
        least = h.kin.least;
      };
      held = record {
        bare = λ r i. subst (λ x. T (x || is_empty (s.hand r i))) (sym (b r).1) (h.held.bare r i);
        few = h.held.few;
        writer = h.held.writer;
      };
      desk = λ r. subst (λ x. T (x || not (eqb s.owner r) || eqb r 0)) (sym (b r).1) (h.desk r);
      idle = λ r. subst (λ x. T (x || quiet (s.now' r))) (sym (b r).1) (h.idle r);
    }

-- as it starts
fresh_lawful : Lawful fresh
unfolding nobody living parent_of is_empty quiet
fresh_lawful =
    record {
      rank = λ q. 0;
      top = 0;
      kin = record {
        one = refl;
        range = λ q. (grind (arith, tests));
        live = λ q. (grind (arith, tests));
        ranks = λ q. (grind (arith, tests));
        tops = λ q. omega arith;
        least = refl;
      };
      held = record {
        bare = λ p i. (grind (arith, tests));
        few = λ p i. (grind (arith, tests));
        writer = λ p q i j n w x y. (grind (arith, tests));
      };
      desk = λ p. (grind (arith, tests));
      idle = λ p. (grind (arith, tests));
    }

-- each call
module _ (k : ℕ) (s t : State) (p : ℕ) (a : Answer) (h : Lawful s) (l : T (living (s.proc p))) where
  to : (u : State) → Left u p → t ≡ u → Left t p
  to u x e = subst (λ v. Left v p) (sym e) x

  did : (c : Call) → T (fits k s p c) → T (not (ends p c)) → does k s p c ≡ Gives a t → Left t p
  unfolding fits
  did (Spawn n) f e d = ⊎_elim (left_same s t p h l) (λ x. to _ (birth k s p h l (first_is k (λ (q : ℕ). ltb 0 q && nobody (s.proc q)) f x.0)) x.1) (did_spawn k p s t a n d)
  did (Exit c) f e d = left_same s t p h l (did_exit k p s t a c e d)
  did Wait f e d = ⊎_elim (left_same s t p h l) (λ x. to _ (reaped k s p h l (first_is k (λ (q : ℕ). child_of s p q && dead (s.proc q)) f x.0)) x.1) (did_wait k p s t a d)
  did (Kill q) f e d = ⊎_elim (left_same s t p h l) (λ x. to _ (killed k s p h l q x.0) x.1) (did_kill k p s t a q d)
  did (Open n w) f e d =
      ⊎_elim (left_same s t p h l)
      (λ x. opened_by_lem k s p h l n w t (first 8 (λ (i : ℕ). is_empty (s.hand p i))) (first_at 8 (λ (i : ℕ). is_empty (s.hand p i)) x.1).0 x.0 x.2 x.3 x.4 x.5)
      (did_open k p s t a n w d)
  did (Close i) f e d = ⊎_elim (left_same s t p h l) (λ x. to _ (closed_by k s p h l i) x) (did_close k p s t a i d)
  did (Read i j) f e d = left_like s t p h l (did_read k p s t a i j d)
  did (Write i j x) f e d = left_like s t p h l (did_write k p s t a i j x d)
  did (Remove n) f e d = left_like s t p h l (did_remove k p s t a n d)
  did Take f e d = ⊎_elim (left_same s t p h l) (λ x. to _ (desked_by k s p h l p (λ q. own_desk s.proc p q l)) x) (did_take k p s t a d)
  did Leave f e d = ⊎_elim (left_same s t p h l) (λ x. to _ (desked_by k s p h l 0 (λ q. free_desk s.proc q)) x) (did_leave k p s t a d)
  did (Say x) f e d = left_like s t p h l (did_say k p s t a x d)
  did Hear f e d = left_like s t p h l (did_hear k p s t a d)

pub lawful : (every : Call → Bool) (es : List Event) (s : State) → Run every es s → Lawful s
unfolding quiet
lawful every es s begin = fresh_lawful
lawful every es s (asks p c r l q) = at_now _ p (Under c 0) (lawful every _ _ r) l
lawful every es s (types x r) = same_lawful _ _ (lawful every _ _ r) (refl, refl, refl, refl)
lawful every es s (acts {s = u} {t = t} {c = c} {g = g} {a = a} p k r w b f n d) =
    let h = lawful every _ _ r in
    let x = did k u t p a h (busy_lives u p (Under c g) h w refl) c f n d in
    at_now t p (Over c a g) x.0 x.1
lawful every es s (refuses {s = u} {c = c} {g = g} {n = n} p k r w b d) = let h = lawful every _ _ r in at_now u p (Over c (No n) g) h (busy_lives u p (Under c g) h w refl)
lawful every es s (exits {s = u} {t = t} {c = c} {g = g} {a = a} p r w b n d) =
    let h = lawful every _ _ r in
    let x = did_die 0 p u t a c n d in
    subst Lawful (sym x.1.1) (dies_lawful u p x.1.0 h (busy_lives u p (Under c g) h w refl) x.0)
lawful every es s (not_built {s = u} {c = c} {g = g} p r w b) = let h = lawful every _ _ r in at_now u p (Over c (No 14) g) h (busy_lives u p (Under c g) h w refl)
lawful every es s (shows {s = u} {x = x} {g = g} p r w o) =
    let h = lawful every _ _ r in
    at_now (set_desk p (u.screen ++ (x ∷ [])) u.keys u.heard u) p (Over (Say x) Done g) (same_lawful u _ h (refl, refl, sym o, refl)) (busy_lives u p (Under (Say x) g) h w refl)
lawful every es s (tells {s = u} {c = c} {a = a} {g = g} p r w m) = let h = lawful every _ _ r in at_now u p Quiet h (busy_lives u p (Over c a g) h w refl)
lawful every es s (begins {s = u} {q = q} p r w) = begin_lawful u p q (lawful every _ _ r) w
lawful every es s (stops p r m) = same_lawful _ _ (lawful every _ _ r) (refl, refl, refl, refl)
lawful every es s (round {s = u} r y o) =
    let h = lawful every _ _ r in
    record { rank = h.rank; top = h.top; kin = h.kin; held = h.held; desk = h.desk; idle = λ p. older_idle u p (u.now' p) (living (u.proc p)) (h.idle p) }
