-- The moment of a call, whatever it does; a call that waits is passed over; a word is shown.
-- Assumes nothing.
use Rattle.std.proofs.Common.{◌≡◌, ℕ, ◌+◌, ◌*◌, ◌<◌, ◌≤◌, Bool, true, false, cond, ◌&&◌, eqb, leb, ◌⊎◌, List, [], ◌∷◌, ◌++◌, length, sym, refl, ap, ◌∙◌, subst, subst₂, inl, inr, ⊎_elim, arith, length-append}
use Rattle.std.proofs.lemmas.Bool.Decides.{nat_tests as tests}
use Rattle.std.proofs.lemmas.Bool.{cases_eq}
use Rattle.heal.specs.declared.Call.{Call}
use Rattle.heal.specs.declared.Call.TheVariants.{Say}
use Rattle.heal.specs.declared.Answer.{Answer}
use Rattle.heal.specs.declared.Answer.TheVariants.{Done}
use Rattle.heal.specs.Kernel.{Event, Shown, Kern, Pending, None', Some', server_of, kept, with_cell, with_screen, showed, shows}
use Rattle.heal.specs.House.{Now, Quiet, Under, Over, State, Run, waits_in, set_now, set_desk, shows as run-shows}
use Rattle.heal.specs.Promise.{can}
use Rattle.heal.specs.Codec.{answer_of}
use Rattle.heal.specs.Ready.{FirstFrom}
use Rattle.heal.specs.Invariant.{Mail, Waiting, Numbers, Sweeps, Early, DeskIs, Moves, Before, Common, Inv, last, done, owed, ready, sweep, shown_in, heard_in, owner_in, ahead, hops, plus}
use Rattle.heal.proofs.FileCells.{files_same}
use Rattle.heal.proofs.Mail.{set_same, mail_same, mail_empty, far_own}
use Rattle.heal.proofs.Kept.{desk_other, desk_even, early_same, kept_same, kept_here, waiting_swept}

-- a call that is under way is one
pub same_call : (x : Pending) (m n : ℕ) (c d : Call) → x ≡ Some' m d → x ≡ Some' n c → (m ≡ n) × (d ≡ c)
same_call x m n c d e f = (cc, cc)

not_none : (x : Pending) (n : ℕ) (c : Call) → x ≡ Some' n c → x ≡ None' → ⊥
not_none x n c e f = let z : ◌≡◌ {A = ℕ} 0 1 = cc in omega arith

false_true : false ≡ true → ⊥
false_true e = grind arith

eqb_is : (x y : ℕ) → eqb x y ≡ true → x ≡ y
eqb_is x y e = grind (arith, tests)

put_at : (v w : Now) (q p : ℕ) → v ≡ Quiet → (q ≡ p → ⊥) → cond (eqb q p) w v ≡ Quiet
put_at v w q p e z = grind (arith, tests)

ahead_own : (σ p shown len : ℕ) → ahead σ p (64 + p) shown len ≡ false
unfolding ahead
ahead_own σ p shown len = grind (arith, tests)

pub even_ahead : (σ p at shown len : ℕ) → eqb len shown ≡ true → ahead σ p at shown len ≡ false
unfolding ahead
even_ahead σ p at shown len e = grind (arith, tests)

pub ahead_not : (σ p at shown len : ℕ) → (σ ≡ 2 → ⊥) → ahead σ p at shown len ≡ false
unfolding ahead
ahead_not σ p at shown len n = grind (arith, tests)

-- numbers, where one call of p has had its moment
numbers_moved : (σ number : ℕ) (x : Pending) (l f l' f' : ℕ) → l' ≡ l → (f' ≡ f) ⊎ (f' ≡ l) → Numbers σ number x l f → Numbers σ number x l' f'
numbers_moved σ number x l f l' f' e (inl h) v = subst₂ (λ y z. Numbers σ number x y z) (sym e) (sym h) v
numbers_moved σ number x l f l' f' e (inr h) v = subst₂ (λ y z. Numbers σ number x y z) (sym e) (sym h) (record { le = omega arith; top = v.top; fits = v.fits; this = v.this; full = λ z. absurd (omega arith); other = v.other })

sweeps_same : (d e : ℕ → ℕ) → e 32 ≡ d 32 → ((q : ℕ) → q < 64 → (last e q ≡ last d q) × (done e q ≡ done d q)) → Sweeps d → Sweeps e
sweeps_same d e s h v =
    record {
      within = subst (λ x. x < 128) (sym s) v.within;
      not0 = λ z. v.not0 (sym s ∙ z);
      owes = λ p z. (let w = v.within in let u = v.owes p (sym s ∙ z) in let g = h p (omega arith) in (omega arith, omega arith));
    }

moved_soon : (g a f l n p : ℕ) (waits : Bool) → waits ≡ false → 0 < p → p < 64 → l ≡ n + 1 → f ≤ n → 32 * g + cond (leb f n && waits) 2000 (hops l f n p p + a) ≤ 131072 → (z : Bool) → 32 * g + cond (leb l n && z) 2000 (hops l l n p (64 + p) + (a + 1)) ≤ 131072
unfolding hops
moved_soon g a f l n p waits w u s e h v z = let k = far_own p u s in grind (arith, tests)

at_two : (s x y : ℕ) → s ≡ 2 → x ≤ y + cond (eqb s 2) 1 0 → x ≤ y + 1
at_two s x y e h = grind (arith, tests)

not_two : (s x y : ℕ) → (s ≡ 2 → ⊥) → x ≤ y + cond (eqb s 2) 1 0 → x ≤ y
not_two s x y e h = grind (arith, tests)

module _ (a : ℕ → ℕ) (k : Kern) (es : List Event) (i : Inv a k es) (p n : ℕ) (c : Call) (ans : Answer) (f : ℕ → ℕ → ℕ) (lo : 0 < p) (sm : p < 64) (at : sweep (k.cell k.at) ≡ p) (pend : k.pending p ≡ Some' n c) (here : server_of c ≡ k.at) (lst : last (k.cell k.at) p ≡ n + 1) (und : done (k.cell k.at) p ≤ n) (own : owed (k.cell k.at) ≡ ans) (box : k.box k.at ≡ [])
    (shared : (σ j : ℕ) → Common j → f σ j ≡ k.cell σ j) where
  abbrev next : Kern
  next = kept 32 (64 + p) (kept (128 + p) (last (k.cell k.at) p) (with_cell f k))

  other : (σ j : ℕ) → (σ ≡ k.at → ⊥) ⊎ ((j ≡ 32 → ⊥) × (j ≡ 128 + p → ⊥)) → next.cell σ j ≡ f σ j
  other σ j h = two_other (f σ j) (64 + p) (last (k.cell k.at) p) σ k.at j (128 + p) h
    where
      two_other : (y x z σ s j c : ℕ) → (σ ≡ s → ⊥) ⊎ ((j ≡ 32 → ⊥) × (j ≡ c → ⊥)) → cond (eqb σ s && eqb j 32) x (cond (eqb σ s && eqb j c) z y) ≡ y
      two_other y x z σ s j c h = grind (arith, tests)

  swept : next.cell k.at 32 ≡ 64 + p
  swept = kept_here (kept (128 + p) (last (k.cell k.at) p) (with_cell f k)) 32 (64 + p) k.at refl

  moved : next.cell k.at (128 + p) ≡ last (k.cell k.at) p
  moved = kept_same (kept (128 + p) (last (k.cell k.at) p) (with_cell f k)) 32 (64 + p) k.at (128 + p) (λ _ e. omega arith) ∙ kept_here (with_cell f k) (128 + p) (last (k.cell k.at) p) k.at refl

  lasts : (σ q : ℕ) → q < 64 → next.cell σ (64 + q) ≡ k.cell σ (64 + q)
  lasts σ q s = other σ (64 + q) (inr ((λ e. omega arith), (λ e. omega arith))) ∙ shared σ (64 + q) (inr (omega arith, omega arith))

  dones : (σ q : ℕ) → q < 64 → (next.cell σ (128 + q) ≡ k.cell σ (128 + q)) ⊎ (next.cell σ (128 + q) ≡ k.cell σ (64 + q))
  dones σ q s =
      ⊎_elim
      (λ (y : σ ≡ k.at). ⊎_elim (λ (z : q ≡ p). inr (subst₂ (λ τ r. next.cell τ (128 + r) ≡ k.cell τ (64 + r)) (sym y) (sym z) moved))
      (λ z. inl (other σ (128 + q) (inr ((λ e. omega arith), (λ e. z (omega arith)))) ∙ shared σ (128 + q) (inr (omega arith, omega arith)))) (cases_eq q p))
      (λ y. inl (other σ (128 + q) (inl y) ∙ shared σ (128 + q) (inr (omega arith, omega arith)))) (cases_eq σ k.at)

  away : (σ : ℕ) → (σ ≡ k.at → ⊥) → (q : ℕ) → q < 64 → (next.cell σ (64 + q) ≡ k.cell σ (64 + q)) × (next.cell σ (128 + q) ≡ k.cell σ (128 + q))
  away σ y q s = (lasts σ q s, other σ (128 + q) (inl y) ∙ shared σ (128 + q) (inr (omega arith, omega arith)))

  sweeps_next : (σ : ℕ) → Sweeps (next.cell σ)
  sweeps_next σ =
      ⊎_elim
      (λ (y : σ ≡ k.at). subst (λ τ. Sweeps (next.cell τ)) (sym y)
      (record {
        within = omega (arith, swept);
        not0 = λ z. omega (arith, swept);
        owes = λ q z. (let qp : q ≡ p = omega (arith, swept) in subst (λ r. (0 < done (next.cell k.at) r) × (last (next.cell k.at) r ≡ done (next.cell k.at) r)) (sym qp) (omega (arith, moved, lst), lasts k.at p sm ∙ sym moved));
      }))
      (λ y. sweeps_same (k.cell σ) (next.cell σ) (other σ 32 (inl y) ∙ shared σ 32 (inl (omega arith))) (away σ y) (i.2.sweeps σ))
      (cases_eq σ k.at)

  mail_next : (σ : ℕ) → Mail k.pending (next.cell σ) σ (k.box σ)
  mail_next σ =
      ⊎_elim
      (λ (y : σ ≡ k.at). mail_empty k.pending (next.cell σ) σ (k.box σ) (ap k.box y ∙ box))
      (λ y. mail_same k.pending (k.cell σ) (next.cell σ) σ (k.box σ) (λ q s. (away σ y q s).0) (λ q s. (away σ y q s).1) (i.2.mail σ))
      (cases_eq σ k.at)

  -- what stands before the moment
  pub before : Before k p c (i.2.calls p n c pend).age i.0
  before = let v = i.2.calls p n c pend in v.how ∙ under_way (done (k.cell (server_of c)) p) n _ _ (subst (λ σ. done (k.cell σ) p ≤ n) (sym here) und)
    where
      under_way : (f n : ℕ) (x y : Now) → f ≤ n → cond (leb f n) x y ≡ x
      under_way f n x y h = grind (arith, tests)

  module _ (m : Moves k f es p c ans (i.2.calls p n c pend).age i.0) where
    call_next : Waiting (plus k.at 1 a (server_of c)) (next.cell (server_of c)) (k.box (server_of c)) p n c (ahead (server_of c) p (sweep (next.cell 2)) (shown_in (next.cell 2)) (length k.screen)) (waits_in m.t p c) (m.t.now' p)
    call_next =
        let v = i.2.calls p n c pend in
        let done-is : next.cell (server_of c) (128 + p) ≡ n + 1 = subst (λ σ. next.cell σ (128 + p) ≡ n + 1) (sym here) (moved ∙ lst) in
        let last-is : next.cell (server_of c) (64 + p) ≡ n + 1 = subst (λ σ. next.cell σ (64 + p) ≡ n + 1) (sym here) (lasts k.at p sm ∙ lst) in
        let sweep_is : next.cell (server_of c) 32 ≡ 64 + p = subst (λ σ. next.cell σ 32 ≡ 64 + p) (sym here) swept in
        let owed-is : owed (next.cell (server_of c)) ≡ ans = subst (λ σ. owed (next.cell σ) ≡ ans) (sym here) ((λ d. answer_of ((other k.at 33 (inr ((λ e. omega arith), (λ e. omega arith))) ∙ shared k.at 33 (inl (omega arith))) d) ((other k.at 34 (inr ((λ e. omega arith), (λ e. omega arith))) ∙ shared k.at 34 (inl (omega arith))) d) ((other k.at 35 (inr ((λ e. omega arith), (λ e. omega arith))) ∙ shared k.at 35 (inl (omega arith))) d)) ∙ own) in
        let credit-is : plus k.at 1 a (server_of c) ≡ a (server_of c) + 1 = plus_here k.at a (server_of c) here in
        let soon0 = subst (λ σ. 32 * v.age + cond (leb (done (k.cell σ) p) n && waits_in i.0 p c) 2000 (hops (last (k.cell σ) p) (done (k.cell σ) p) n p (sweep (k.cell σ)) + a (server_of c)) ≤ 131072) here v.soon in
        let soon1 = subst (λ x. 32 * v.age + cond (leb (done (k.cell k.at) p) n && waits_in i.0 p c) 2000 (hops (last (k.cell k.at) p) (done (k.cell k.at) p) n p x + a (server_of c)) ≤ 131072) at soon0 in
        let soon2 = moved_soon v.age (a (server_of c)) (done (k.cell k.at) p) (last (k.cell k.at) p) n p (waits_in i.0 p c) m.ready lo sm lst und soon1 (waits_in m.t p c) in
        record {
          low = lo;
          small = sm;
          age = v.age;
          how = m.over ∙ over_is c v.age (done (next.cell (server_of c)) p) n _ ans (owed (next.cell (server_of c))) done-is (sym owed-is);
          soon = subst (λ x. x ≤ 131072) (λ d. 32 * v.age + cond (leb ((lst ∙ sym done-is) d) n && waits_in m.t p c) 2000 (hops ((lst ∙ sym last-is) d) ((lst ∙ sym done-is) d) n p (sym sweep_is d) + sym credit-is d)) soon2;
          calm = λ _. never;
          boxed = λ h. absurd (omega (arith, last-is));
          slot = λ h u. absurd (omega (arith, done-is));
          bit = λ h u. absurd (omega (arith, done-is));
          owing = λ _. sweep_is;
        }
      where
        plus_here : (s : ℕ) (a : ℕ → ℕ) (σ : ℕ) → σ ≡ s → plus s 1 a σ ≡ a σ + 1
        plus_here s a σ e = grind (arith, tests)

        over_is : (c : Call) (g f n : ℕ) (x : Now) (o o' : Answer) → f ≡ n + 1 → o ≡ o' → Over c o g ≡ cond (leb f n) x (Over c o' g)
        over_is c g f n x o o' e h = grind (arith, tests)

        never : ahead (server_of c) p (sweep (next.cell 2)) (shown_in (next.cell 2)) (length k.screen) ≡ false
        never =
            ⊎_elim
            (λ (y : server_of c ≡ 2). (let at2 : k.at ≡ 2 = sym here ∙ y in ap (λ x. ahead (server_of c) p x (shown_in (next.cell 2)) (length k.screen)) (subst (λ σ. next.cell σ 32 ≡ 64 + p) at2 swept) ∙ ahead_own (server_of c) p (shown_in (next.cell 2)) (length k.screen)))
            (λ y. ahead_not (server_of c) p (sweep (next.cell 2)) (shown_in (next.cell 2)) (length k.screen) y)
            (cases_eq (server_of c) 2)

    desk_next : DeskIs (next.cell 2) k.screen k.keys k.pending m.t
    desk_next =
        record {
          owns = m.desk.owns ∙ sym (off 52 (λ e. omega arith) (λ e. omega arith));
          hears = m.desk.hears ∙ sym (off 54 (λ e. omega arith) (λ e. omega arith));
          typed = m.desk.typed;
          shows = m.desk.shows;
          places = λ e. ⊎_elim
              (λ (y : k.at ≡ 2). absurd (uneven (length k.screen) (next.cell 2 53) (m.desk.places y ∙ sym (off 53 (λ e. omega arith) (λ e. omega arith))) e))
              (λ y. early y (i.2.desk.places (ap (eqb (length k.screen)) (sym (off 53 (λ e. omega arith) (λ e. omega arith) ∙ (m.desk.same y).1)) ∙ e)))
              (cases_eq k.at 2);
          few = few;
        }
      where
        off : (j : ℕ) → (j ≡ 32 → ⊥) → (j ≡ 128 + p → ⊥) → next.cell 2 j ≡ f 2 j
        off j x y = other 2 j (inr (x, y))

        uneven : (x y : ℕ) → x ≡ y → eqb x y ≡ false → ⊥
        uneven x y e h = grind (arith, tests)

        early : (k.at ≡ 2 → ⊥) → Early (k.cell 2) (length k.screen) k.pending → Early (next.cell 2) (length k.screen) k.pending
        early y z =
            let ne : 2 ≡ k.at → ⊥ = λ e. y (sym e) in
            let s : next.cell 2 32 ≡ k.cell 2 32 = other 2 32 (inl ne) ∙ shared 2 32 (inl (omega arith)) in
            let u = away 2 ne (sweep (k.cell 2)) z.small in
            let u0 : last (next.cell 2) (sweep (next.cell 2)) ≡ last (k.cell 2) (sweep (k.cell 2)) = ap (last (next.cell 2)) s ∙ u.0 in
            let u1 : done (next.cell 2) (sweep (next.cell 2)) ≡ done (k.cell 2) (sweep (k.cell 2)) = ap (done (next.cell 2)) s ∙ u.1 in
            let o : next.cell 2 53 ≡ k.cell 2 53 = off 53 (λ e. omega arith) (λ e. omega arith) ∙ (m.desk.same y).1 in
            let w : owner_in (next.cell 2) ≡ owner_in (k.cell 2) = off 52 (λ e. omega arith) (λ e. omega arith) ∙ (m.desk.same y).0 in
            record { next = z.next ∙ ap (λ x. x + 1) (sym o); low = subst (λ x. 0 < x) (sym s) z.low; small = subst (λ x. x < 64) (sym s) z.small; number = z.number; word = z.word; what = ap k.pending s ∙ z.what; held = omega (arith, u0, z.held); undone = omega (arith, u1, z.undone); own = w ∙ (z.own ∙ sym s) }

        few : shown_in (next.cell 2) + heard_in (next.cell 2) ≤ done (next.cell 2) 1
        few =
            let b = m.desk.few in
            let h53 = off 53 (λ e. omega arith) (λ e. omega arith) in
            let h54 = off 54 (λ e. omega arith) (λ e. omega arith) in
            let old = i.2.desk.few in
            ⊎_elim
            (λ (y : k.at ≡ 2). (let p1 : p ≡ 1 = i.2.only p n c pend in let dn : next.cell 2 (128 + 1) ≡ n + 1 = subst₂ (λ σ r. next.cell σ (128 + r) ≡ n + 1) y p1 (moved ∙ lst) in let un : done (k.cell 2) 1 ≤ n = subst₂ (λ σ r. done (k.cell σ) r ≤ n) y p1 und in let b2 = at_two k.at (f 2 53 + f 2 54) (k.cell 2 53 + k.cell 2 54) y b in omega arith))
            (λ y. (let dn = (away 2 (λ e. y (sym e)) 1 (omega arith)).1 in let b2 = not_two k.at (f 2 53 + f 2 54) (k.cell 2 53 + k.cell 2 54) y b in omega arith))
            (cases_eq k.at 2)

    pub finish_kept : Inv (plus k.at 1 a) next es
    finish_kept = (
      m.t,
      m.run,
      record {
        who = record { procs = λ q. m.procs q ∙ i.2.who.procs q; ons = λ q. m.ons q ∙ i.2.who.ons q; running = i.2.who.running };
        only = i.2.only;
        quiet = λ q g. m.others q (λ e. not_none (k.pending p) n c pend (ap k.pending (sym e) ∙ g)) ∙ i.2.quiet q g;
        calls = λ q r d g.
            (let qp : q ≡ p = i.2.only q r d g ∙ sym (i.2.only p n c pend) in
            let e = same_call (k.pending p) r n c d (ap k.pending (sym qp) ∙ g) pend in
            transport q r d qp e.0 e.1);
        numbers = λ σ q s. numbers_moved σ (k.number q) (k.pending q) _ _ _ _ (lasts σ q s) (dones σ q s) (i.2.numbers σ q s);
        mail = mail_next;
        sweeps = sweeps_next;
        files = files_same (f 1) (next.cell 1) m.t.file m.t.hand (λ j l. other 1 j (inr ((λ e. omega arith), (λ e. omega arith)))) m.files;
        desk = desk_next;
      },
    )
      where
        transport : (q r : ℕ) (d : Call) → q ≡ p → r ≡ n → d ≡ c → Waiting (plus k.at 1 a (server_of d)) (next.cell (server_of d)) (k.box (server_of d)) q r d (ahead (server_of d) q (sweep (next.cell 2)) (shown_in (next.cell 2)) (length k.screen)) (waits_in m.t q d) (m.t.now' q)
        transport q r d x y z = subst (λ u. u) (λ j. Waiting (plus k.at 1 a (server_of (sym z j))) (next.cell (server_of (sym z j))) (k.box (server_of (sym z j))) (sym x j) (sym y j) (sym z j) (ahead (server_of (sym z j)) (sym x j) (sweep (next.cell 2)) (shown_in (next.cell 2)) (length k.screen)) (waits_in m.t (sym x j) (sym z j)) (m.t.now' (sym x j))) call_next

-- no word is ahead where the call at the sweep is none that says one
say_waits : (s : State) (p : ℕ) (x : ℕ) → waits_in s p (Say x) ≡ true → ⊥
unfolding waits_in
say_waits s p x e = grind (arith, tests)

pub even_other : (d : ℕ → ℕ) (screen keys : List ℕ) (pending : ℕ → Pending) (s : State) (p n : ℕ) (c : Call) → DeskIs d screen keys pending s → sweep d ≡ p → pending p ≡ Some' n c → ((x : ℕ) → c ≡ Say x → ⊥) → eqb (length screen) (shown_in d) ≡ true
even_other d screen keys pending s p n c x e g h = by (eqb (length screen) (shown_in d)) x.places
  where
    by : (b : Bool) → (b ≡ false → Early d (length screen) pending) → b ≡ true
    by true f = refl
    by false f = let z = f refl in absurd (h z.word (sym (same_call (pending p) z.number n c (Say z.word) (ap pending (sym e) ∙ z.what) g).1))

-- a call that waits is passed over
module _ (a : ℕ → ℕ) (k : Kern) (es : List Event) (i : Inv a k es) (p n w : ℕ) (c : Call) (at : sweep (k.cell k.at) ≡ p) (pend : k.pending p ≡ Some' n c) (here : server_of c ≡ k.at) (und : done (k.cell k.at) p ≤ n) (waits : waits_in i.0 p c ≡ true) (h : FirstFrom (p + 1) (ready (k.cell k.at)) w) where
  even : k.at ≡ 2 → eqb (length k.screen) (shown_in (k.cell 2)) ≡ true
  even y = even_other (k.cell 2) k.screen k.keys k.pending i.0 p n c i.2.desk (subst (λ σ. sweep (k.cell σ) ≡ p) y at) pend (λ x e. say_waits i.0 p x (subst (λ d. waits_in i.0 p d ≡ true) e waits))

  passed_call : Waiting (plus k.at 1 a (server_of c)) ((kept 32 w k).cell (server_of c)) (k.box (server_of c)) p n c (ahead (server_of c) p ((kept 32 w k).cell 2 32) ((kept 32 w k).cell 2 53) (length k.screen)) (waits_in i.0 p c) (i.0.now' p)
  passed_call =
      let v = i.2.calls p n c pend in
      let u : done (k.cell (server_of c)) p ≤ n = subst (λ σ. done (k.cell σ) p ≤ n) (sym here) und in
      waiting_swept _ _ (k.cell (server_of c)) _ (k.box (server_of c)) p n c _ _ _ _ (λ j m. kept_same k 32 w (server_of c) j (λ _ o. m o)) v.small (early_same k w (server_of c) p even)
      (λ z. absurd (busy (done (k.cell (server_of c)) p) n (waits_in i.0 p c) u waits z)) (λ z. absurd (omega arith)) v
    where
      busy : (f n : ℕ) (b : Bool) → f ≤ n → b ≡ true → (leb f n && b) ≡ false → ⊥
      busy f n b l e z = grind (arith, tests)

  pub pass_kept : Inv (plus k.at 1 a) (kept 32 w k) es
  pass_kept = (
    i.0,
    i.1,
    record {
      who = i.2.who;
      only = i.2.only;
      quiet = i.2.quiet;
      calls = λ q m d g.
          (let qp : q ≡ p = i.2.only q m d g ∙ sym (i.2.only p n c pend) in
          let e = same_call (k.pending p) m n c d (ap k.pending (sym qp) ∙ g) pend in
          transport q m d qp e.0 e.1);
      numbers = λ σ q s. numbers_moved σ (k.number q) (k.pending q) _ _ _ _ (kept_same k 32 w σ (64 + q) (λ _ e. omega arith)) (inl (kept_same k 32 w σ (128 + q) (λ _ e. omega arith))) (i.2.numbers σ q s);
      mail = λ σ. mail_same k.pending (k.cell σ) _ σ (k.box σ) (λ q s. kept_same k 32 w σ (64 + q) (λ _ e. omega arith)) (λ q s. kept_same k 32 w σ (128 + q) (λ _ e. omega arith)) (i.2.mail σ);
      sweeps = λ σ. sweeps_at σ;
      files = files_same (k.cell 1) _ i.0.file i.0.hand (λ j l. kept_same k 32 w 1 j (λ _ e. omega arith)) i.2.files;
      desk = ⊎_elim
          (λ (y : k.at ≡ 2). desk_even (k.cell 2) _ k.screen k.keys k.pending i.0 (even y) (kept_same k 32 w 2 52 (λ _ e. omega arith)) (kept_same k 32 w 2 53 (λ _ e. omega arith)) (kept_same k 32 w 2 54 (λ _ e. omega arith)) (le_same (kept_same k 32 w 2 (128 + 1) (λ _ e. omega arith))) i.2.desk)
          (λ y. desk_other (k.cell 2) _ k.screen k.keys k.pending i.0 (kept_same k 32 w 2 52 (λ _ e. omega arith)) (kept_same k 32 w 2 53 (λ _ e. omega arith)) (kept_same k 32 w 2 54 (λ _ e. omega arith)) (kept_same k 32 w 2 32 (λ e _. y (sym e))) (λ q s. le_same (kept_same k 32 w 2 (64 + q) (λ _ e. omega arith))) (λ q s. kept_same k 32 w 2 (128 + q) (λ _ e. omega arith)) i.2.desk)
          (cases_eq k.at 2);
    },
  )
    where
      le_same : {x y : ℕ} → x ≡ y → y ≤ x
      le_same e = omega arith

      sweeps_at : (σ : ℕ) → Sweeps ((kept 32 w k).cell σ)
      sweeps_at σ =
          ⊎_elim
          (λ (y : σ ≡ k.at). (let e = kept_here k 32 w σ y in let b = h.below in record { within = omega arith; not0 = λ z. omega arith; owes = λ q z. absurd (omega arith) }))
          (λ y. sweeps_same (k.cell σ) _ (kept_same k 32 w σ 32 (λ e _. y e)) (λ q s. (kept_same k 32 w σ (64 + q) (λ e _. y e), kept_same k 32 w σ (128 + q) (λ e _. y e))) (i.2.sweeps σ))
          (cases_eq σ k.at)

      transport : (q m : ℕ) (d : Call) → q ≡ p → m ≡ n → d ≡ c → Waiting (plus k.at 1 a (server_of d)) ((kept 32 w k).cell (server_of d)) (k.box (server_of d)) q m d (ahead (server_of d) q ((kept 32 w k).cell 2 32) ((kept 32 w k).cell 2 53) (length k.screen)) (waits_in i.0 q d) (i.0.now' q)
      transport q m d x y z = subst (λ u. u) (λ j. Waiting (plus k.at 1 a (server_of (sym z j))) ((kept 32 w k).cell (server_of (sym z j))) (k.box (server_of (sym z j))) (sym x j) (sym y j) (sym z j) (ahead (server_of (sym z j)) (sym x j) ((kept 32 w k).cell 2 32) ((kept 32 w k).cell 2 53) (length k.screen)) (waits_in i.0 (sym x j) (sym z j)) (i.0.now' (sym x j))) passed_call

-- a word is shown: that is the moment of who says it
ahead_shown : (p shown len : ℕ) → len ≡ shown → ahead 2 p p shown len ≡ false
unfolding ahead
ahead_shown p shown len e = grind (arith, tests)

ahead_now : (p shown len : ℕ) → len ≡ shown + 1 → ahead 2 p p shown len ≡ true
unfolding ahead
ahead_now p shown len e = grind (arith, tests)

module _ (a : ℕ → ℕ) (k : Kern) (es : List Event) (i : Inv a k es) (p n x : ℕ) (at : sweep (k.cell 2) ≡ p) (pend : k.pending p ≡ Some' n (Say x)) (lst : n < last (k.cell 2) p) (und : done (k.cell 2) p ≤ n) (own : owner_in (k.cell 2) ≡ p) where
  one_more : length (k.screen ++ (x ∷ [])) ≡ length k.screen + 1
  one_more = length-append k.screen (x ∷ [])

  abbrev after : ℕ → State
  after g = set_now p (Over (Say x) Done g) (set_desk p (i.0.screen ++ (x ∷ [])) i.0.keys i.0.heard i.0)

  show_new : length k.screen ≡ shown_in (k.cell 2) → Inv a (with_screen (k.screen ++ (x ∷ [])) k.keys k) (Shown (length k.screen) x ∷ es)
  unfolding server_of waits_in
  show_new e =
      let v = i.2.calls p n (Say x) pend in
      let s = i.0 in
      let under : s.now' p ≡ Under (Say x) v.age = v.how ∙ is_under v.age (done (k.cell 2) p) n _ _ und (ap (λ y. ahead 2 p y (shown_in (k.cell 2)) (length k.screen)) at ∙ ahead_shown p (shown_in (k.cell 2)) (length k.screen) e) in
      let run = run-shows p i.1 under (i.2.desk.owns ∙ own) in (
        after v.age,
        subst (λ m. Run can (Shown m x ∷ es) (after v.age)) (ap length i.2.desk.shows) run,
        record {
          who = record { procs = i.2.who.procs; ons = i.2.who.ons; running = i.2.who.running };
          only = i.2.only;
          quiet = λ q g. put_other q (i.2.quiet q g) (λ z. not_none (k.pending p) n (Say x) pend (ap k.pending (sym z) ∙ g));
          calls = λ q m d g.
              (let qp : q ≡ p = i.2.only q m d g ∙ sym (i.2.only p n (Say x) pend) in
              let f = same_call (k.pending p) m n (Say x) d (ap k.pending (sym qp) ∙ g) pend in
              transport q m d qp f.0 f.1);
          numbers = i.2.numbers;
          mail = i.2.mail;
          sweeps = i.2.sweeps;
          files = i.2.files;
          desk = record {
            owns = sym own;
            hears = i.2.desk.hears;
            typed = i.2.desk.typed;
            shows = ap (λ ws. ws ++ (x ∷ [])) i.2.desk.shows;
            places = λ _. record { next = one_more ∙ ap (λ m. m + 1) e; low = subst (λ y. 0 < y) (sym at) v.low; small = subst (λ y. y < 64) (sym at) v.small; number = n; word = x; what = ap k.pending at ∙ pend; held = subst (λ y. n < last (k.cell 2) y) (sym at) lst; undone = subst (λ y. done (k.cell 2) y ≤ n) (sym at) und; own = own ∙ sym at };
            few = i.2.desk.few;
          };
        },
      )
    where
      is_under : (g f n : ℕ) (b : Bool) (y : Now) → f ≤ n → b ≡ false → cond (leb f n) (cond b (Over (Say x) Done g) (Under (Say x) g)) y ≡ Under (Say x) g
      is_under g f n b y h z = grind (arith, tests)

      is_over : (g f n : ℕ) (b : Bool) (y : Now) → f ≤ n → b ≡ true → Over (Say x) Done g ≡ cond (leb f n) (cond b (Over (Say x) Done g) (Under (Say x) g)) y
      is_over g f n b y h z = grind (arith, tests)

      put_other : (q : ℕ) → i.0.now' q ≡ Quiet → (q ≡ p → ⊥) → cond (eqb q p) (Over (Say x) Done (i.2.calls p n (Say x) pend).age) (i.0.now' q) ≡ Quiet
      put_other q e z = put_at (i.0.now' q) _ q p e z

      call_shown : Waiting (a 2) (k.cell 2) (k.box 2) p n (Say x) (ahead 2 p (sweep (k.cell 2)) (shown_in (k.cell 2)) (length (k.screen ++ (x ∷ [])))) false ((after (i.2.calls p n (Say x) pend).age).now' p)
      call_shown =
          let v = i.2.calls p n (Say x) pend in
          record {
            low = v.low;
            small = v.small;
            age = v.age;
            how = set_same p (Over (Say x) Done v.age) i.0.now' ∙ is_over v.age (done (k.cell 2) p) n _ _ und (ap (λ y. ahead 2 p y (shown_in (k.cell 2)) (length (k.screen ++ (x ∷ [])))) at ∙ ahead_now p (shown_in (k.cell 2)) (length (k.screen ++ (x ∷ []))) (one_more ∙ ap (λ m. m + 1) e));
            soon = v.soon;
            calm = λ z. absurd (false_true z);
            boxed = v.boxed;
            slot = v.slot;
            bit = v.bit;
            owing = v.owing;
          }

      transport : (q m : ℕ) (d : Call) → q ≡ p → m ≡ n → d ≡ Say x → Waiting (a (server_of d)) (k.cell (server_of d)) (k.box (server_of d)) q m d (ahead (server_of d) q (sweep (k.cell 2)) (shown_in (k.cell 2)) (length (k.screen ++ (x ∷ [])))) (waits_in (after (i.2.calls p n (Say x) pend).age) q d) ((after (i.2.calls p n (Say x) pend).age).now' q)
      transport q m d y z w = subst (λ u. u) (λ j. Waiting (a (server_of (sym w j))) (k.cell (server_of (sym w j))) (k.box (server_of (sym w j))) (sym y j) (sym z j) (sym w j) (ahead (server_of (sym w j)) (sym y j) (sweep (k.cell 2)) (shown_in (k.cell 2)) (length (k.screen ++ (x ∷ [])))) (waits_in (after (i.2.calls p n (Say x) pend).age) (sym y j) (sym w j)) ((after (i.2.calls p n (Say x) pend).age).now' (sym y j))) call_shown

  -- showing again does nothing
  pub show_kept : (place : ℕ) → place ≡ shown_in (k.cell 2) → Inv a (showed place x k) (shows place x k es)
  show_kept place e = by (eqb place (length k.screen)) refl
    where
      by : (b : Bool) → eqb place (length k.screen) ≡ b → Inv a (cond b (with_screen (k.screen ++ (x ∷ [])) k.keys k) k) (cond b (Shown place x ∷ es) es)
      by true h = let z : place ≡ length k.screen = eqb_is place (length k.screen) h in subst (λ m. Inv a (with_screen (k.screen ++ (x ∷ [])) k.keys k) (Shown m x ∷ es)) (sym z) (show_new (sym z ∙ e))
      by false h = i
