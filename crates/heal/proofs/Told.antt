-- An answer is told; programs ask, keys are struck; a round is over; how it starts.
-- Assumes nothing.
use Rattle.std.proofs.Common.{◌≡◌, ℕ, ◌+◌, ◌-◌, ◌*◌, ◌<◌, ◌≤◌, Bool, true, false, cond, ◌&&◌, T, eqb, leb, ◌⊎◌, List, [], ◌∷◌, ◌++◌, length, sym, refl, ap, ◌∙◌, subst, subst₂, inl, inr, ⊎_elim, arith, length-append}
use Rattle.std.proofs.lemmas.Bool.Decides.{nat_tests as tests}
use Rattle.std.proofs.lemmas.Bool.{cases_eq}
use Rattle.heal.specs.declared.Call.{Call}
use Rattle.heal.specs.declared.Call.TheVariants.{Spawn, Exit, Wait, Kill, Open, Close, Read, Write, Remove, Take, Leave, Say, Hear}
use Rattle.heal.specs.declared.Answer.{Answer}
use Rattle.heal.specs.declared.Answer.TheVariants.{Done, No, Pid, Ended, Handle, Word}
use Rattle.heal.specs.declared.Msg.TheVariants.{Asks}
use Rattle.heal.specs.Kernel.{Event, Asked, Told, Typed, Round, Kern, Pending, None', Some', is_call, mine_of, mine, server_of, set, tail, with_runs, with_screen, answered, answers, asks, Between, rest, asking, typing, AtStart}
use Rattle.heal.specs.House.{Nobody, Living, Now, Quiet, Under, Over, State, living, begun_of, young, older, waits_in, aged, on_right, may_tell, set_now, set_desk, fresh, begin as run-begin, asks as run-asks, types as run-types, tells as run-tells, round as run-round}
use Rattle.heal.specs.Invariant.{Has, Mail, Waiting, Who, Early, DeskIs, Inv, last, done, owed, sweep, shown_in, ahead, hops, occ, nothing}
use Rattle.heal.proofs.FileCells.{files_fresh}
use Rattle.heal.proofs.Moments.{even_ahead}
use Rattle.heal.proofs.Mail.{set_same, every_all, is_call_lem, has_new, mail_empty, mail_told, mail_asks, far_top}

-- small facts
same_call : (x : Pending) (m n : ℕ) (c d : Call) → x ≡ Some' m d → x ≡ Some' n c → (m ≡ n) × (d ≡ c)
same_call x m n c d e f = (cc, cc)

say_there : (x : ℕ) → 2 ≡ server_of (Say x)
unfolding server_of
say_there x = refl

whose : (s t l n f : ℕ) → (s ≡ t) ⊎ (l ≤ f - 1) → 0 < f → l ≡ f → s ≡ t
whose s t l n f h x y = grind arith

over_is : (c : Call) (g f n : ℕ) (x : Now) (o : Answer) → n < f → cond (leb f n) x (Over c o g) ≡ Over c o g
over_is c g f n x o h = grind (arith, tests)

none_else : (pending : ℕ → Pending) (p r m : ℕ) (d : Call) → set p None' pending r ≡ Some' m d → (r ≡ p → ⊥) × (pending r ≡ Some' m d)
none_else pending p r m d g = ((λ e. grind (arith, tests)), grind (arith, tests))

none_other : (pending : ℕ → Pending) (p r : ℕ) → (r ≡ p → ⊥) → set p None' pending r ≡ None' → pending r ≡ None'
none_other pending p r f g = grind (arith, tests)

quiet_put : (p r : ℕ) (w : Now) → ((r ≡ p → ⊥) → w ≡ Quiet) → cond (eqb r p) Quiet w ≡ Quiet
quiet_put p r w h = grind (arith, tests)

may_tell_lem : (runs : ℕ → Bool) (s : State) → Who runs s → (a : Answer) → T (may_tell s a)
unfolding may_tell living begun_of
may_tell_lem runs s w Done = tt
may_tell_lem runs s w (No k) = tt
may_tell_lem runs s w (Pid k) = let e = w.procs k in grind (arith, tests)
may_tell_lem runs s w (Ended k c) = tt
may_tell_lem runs s w (Handle h) = tt
may_tell_lem runs s w (Word x) = tt

module _ (a : ℕ → ℕ) (k : Kern) (es : List Event) (p : ℕ) (e : sweep (k.cell k.at) ≡ 64 + p) (i : Inv a k es) where
  pub told_small : p < 64
  told_small = omega (arith, (i.2.sweeps k.at).within)

  -- whose call it is
  pub told_mine : T (mine p (done (k.cell k.at) p - 1) k)
  unfolding mine_of
  told_mine = go (k.pending p) refl
    where
      go : (x : Pending) → k.pending p ≡ x → T (mine_of k.at (done (k.cell k.at) p - 1) x)
      go None' g = tt
      go (Some' m c) g =
          let u = i.2.numbers k.at p told_small in
          let v = (i.2.sweeps k.at).owes p e in
          let t = u.this m c g in
          let z = u.other m c g in grind (arith, tests)

  answer_at : (b : Bool) → is_call (done (k.cell k.at) p - 1) (k.pending p) ≡ b → Inv a (cond b (with_runs k.runs (set p None' k.pending) k) k) (cond b (Told p (owed (k.cell k.at)) ∷ es) es)
  answer_at false t = i
  answer_at true t =
      let q = is_call_lem _ (k.pending p) t in
      let c = q.0 in
      let n = done (k.cell k.at) p - 1 in
      let pend : k.pending p ≡ Some' n c = q.1 in
      let u = i.2.numbers k.at p told_small in
      let v = (i.2.sweeps k.at).owes p e in
      let here : server_of c ≡ k.at = whose (server_of c) k.at _ n _ (u.other n c pend) v.0 v.1 in
      let w = i.2.calls p n c pend in
      let dn : n < done (k.cell (server_of c)) p = subst (λ σ. n < done (k.cell σ) p) (sym here) (omega arith) in
      let now : i.0.now' p ≡ Over c (owed (k.cell k.at)) w.age = w.how ∙ (over_is c w.age _ n _ _ dn ∙ ap (λ σ. Over c (owed (k.cell σ)) w.age) here) in
      let alone : (r m : ℕ) (d : Call) → set p None' k.pending r ≡ Some' m d → ⊥ = λ r m d g. (let f = none_else k.pending p r m d g in f.0 (i.2.only r m d f.1 ∙ sym (i.2.only p n c pend))) in (
        _,
        run-tells p i.1 now (may_tell_lem k.runs i.0 i.2.who (owed (k.cell k.at))),
        record {
          who = record { procs = i.2.who.procs; ons = i.2.who.ons; running = i.2.who.running };
          only = λ r m d g. absurd (alone r m d g);
          quiet = λ r g. quiet_put p r (i.0.now' r) (λ f. i.2.quiet r (none_other k.pending p r f g));
          calls = λ r m d g. absurd (alone r m d g);
          numbers = λ σ r s. (let x = i.2.numbers σ r s in record { le = x.le; top = x.top; fits = x.fits; this = λ m d g. absurd (alone r m d g); full = λ h. (let y = x.full h in let rp : r ≡ p = i.2.only r y.0 y.1 y.2 ∙ sym (i.2.only p n c pend) in let sc = same_call (k.pending p) y.0 n c y.1 (ap k.pending (sym rp) ∙ y.2) pend in let sat : σ ≡ k.at = sym y.3 ∙ (ap server_of sc.1 ∙ here) in let hh = subst₂ (λ τ z. done (k.cell τ) z < last (k.cell τ) z) sat rp h in absurd (omega (arith, v.1))); other = λ m d g. absurd (alone r m d g) });
          mail = λ σ. mail_told k.pending (k.cell σ) σ p None' (k.box σ) (λ m d g h l. (let s = same_call (k.pending p) m n c d g pend in let z : σ ≡ k.at = sym h ∙ (ap server_of s.1 ∙ here) in let l2 = subst (λ τ. done (k.cell τ) p ≤ m) z l in omega (arith, s.0))) (i.2.mail σ);
          sweeps = i.2.sweeps;
          files = i.2.files;
          desk = record {
            owns = i.2.desk.owns;
            hears = i.2.desk.hears;
            typed = i.2.desk.typed;
            shows = i.2.desk.shows;
            places = λ z. (let y = i.2.desk.places z in let rp : sweep (k.cell 2) ≡ p = i.2.only (sweep (k.cell 2)) y.number (Say y.word) y.what ∙ sym (i.2.only p n c pend) in let sc = same_call (k.pending p) y.number n c (Say y.word) (ap k.pending (sym rp) ∙ y.what) pend in let sat : 2 ≡ k.at = say_there y.word ∙ (ap server_of sc.1 ∙ here) in let hh = subst₂ (λ τ r. done (k.cell τ) r ≤ y.number) sat rp y.undone in absurd (omega (arith, sc.0)));
            few = i.2.desk.few;
          };
        },
      )

  pub answer_kept : Inv a (answered p (done (k.cell k.at) p - 1) k) (answers p (done (k.cell k.at) p - 1) (owed (k.cell k.at)) k es)
  answer_kept = answer_at (is_call (done (k.cell k.at) p - 1) (k.pending p)) refl

  pub answer_over : is_call (done (k.cell k.at) p - 1) ((answered p (done (k.cell k.at) p - 1) k).pending p) ≡ false
  unfolding is_call
  answer_over = go (is_call (done (k.cell k.at) p - 1) (k.pending p)) refl
    where
      go : (b : Bool) → is_call (done (k.cell k.at) p - 1) (k.pending p) ≡ b → is_call (done (k.cell k.at) p - 1) ((cond b (with_runs k.runs (set p None' k.pending) k) k).pending p) ≡ false
      go true t = ap (is_call (done (k.cell k.at) p - 1)) (set_same p None' k.pending)
      go false t = t

-- who asks has nothing under way, so nobody has, and no word is ahead
set_some : (pending : ℕ → Pending) (p n : ℕ) (c : Call) (q m : ℕ) (d : Call) → set p (Some' n c) pending q ≡ Some' m d → ((q ≡ p) × (m ≡ n) × (d ≡ c)) ⊎ ((q ≡ p → ⊥) × (pending q ≡ Some' m d))
set_some pending p n c q m d g = ⊎_elim (λ (e : q ≡ p). inl (e, (cc' (set_there pending p n c q e) g).0, (cc' (set_there pending p n c q e) g).1)) (λ e. inr (e, sym (set_away pending p n c q e) ∙ g)) (cases_eq q p)
  where
    cc' : {x : Pending} → x ≡ Some' n c → x ≡ Some' m d → (m ≡ n) × (d ≡ c)
    cc' {x} e f = same_call x m n c d f e

    set_there : (pending : ℕ → Pending) (p n : ℕ) (c : Call) (q : ℕ) → q ≡ p → set p (Some' n c) pending q ≡ Some' n c
    set_there pending p n c q e = grind (arith, tests)

    set_away : (pending : ℕ → Pending) (p n : ℕ) (c : Call) (q : ℕ) → (q ≡ p → ⊥) → set p (Some' n c) pending q ≡ pending q
    set_away pending p n c q e = grind (arith, tests)

not_both : (x : Pending) (m : ℕ) (d : Call) → x ≡ None' → x ≡ Some' m d → ⊥
not_both x m d e f = let z : ◌≡◌ {A = ℕ} 0 1 = cc in omega arith

asks_soon : (l f n p w a : ℕ) (waits : Bool) → l ≤ n → a ≤ 1000 → 32 * 0 + cond (leb f n && waits) 2000 (hops l f n p w + a) ≤ 131072
unfolding hops
asks_soon l f n p w a waits h i = grind (arith, tests)

asks_how : (c : Call) (f n : ℕ) (b : Bool) (y : Now) → f ≤ n → b ≡ false → Under c 0 ≡ cond (leb f n) (cond b (Over c Done 0) (Under c 0)) y
asks_how c f n b y h e = grind (arith, tests)

even_none : (d : ℕ → ℕ) (screen keys : List ℕ) (pending : ℕ → Pending) (s : State) → DeskIs d screen keys pending s → ((r m : ℕ) (c : Call) → pending r ≡ Some' m c → ⊥) → eqb (length screen) (shown_in d) ≡ true
even_none d screen keys pending s x h = by (eqb (length screen) (shown_in d)) x.places
  where
    by : (b : Bool) → (b ≡ false → Early d (length screen) pending) → b ≡ true
    by true f = refl
    by false f = let z = f refl in absurd (h (sweep d) z.number (Say z.word) z.what)

both_ways : (b : Bool) → b ≡ true → b ≡ false → ⊥
both_ways b e f = let z : ◌≡◌ {A = Bool} true false = sym e ∙ f in grind arith

asked_quiet : (pending : ℕ → Pending) (p n : ℕ) (c : Call) (q : ℕ) (w : Now) → (pending q ≡ None' → w ≡ Quiet) → set p (Some' n c) pending q ≡ None' → cond (eqb q p) (Under c 0) w ≡ Quiet
asked_quiet pending p n c q w h g = grind (arith, tests)

asked_this : (pending : ℕ → Pending) (number : ℕ → ℕ) (p : ℕ) (c : Call) (q m : ℕ) (d : Call) → (pending q ≡ Some' m d → ⊥) → set p (Some' (number p) c) pending q ≡ Some' m d → m + 1 ≡ set p (number p + 1) number q
asked_this pending number p c q m d h g = grind (arith, tests)

asked_other : (pending : ℕ → Pending) (number : ℕ → ℕ) (p : ℕ) (c : Call) (q m : ℕ) (d : Call) (l : ℕ) → l ≤ number q → (pending q ≡ Some' m d → ⊥) → set p (Some' (number p) c) pending q ≡ Some' m d → l ≤ m
asked_other pending number p c q m d l t h g = grind (arith, tests)

-- a program asks
module _ (a : ℕ → ℕ) (k : Kern) (es : List Event) (few : (σ : ℕ) → a σ ≤ 1000) (p : ℕ) (c : Call) (small : p < 64) (runs : T (k.runs p)) (quiet : k.pending p ≡ None') (room : k.number p < 18446744073709551615) (i : Inv a k es) where
  is_one : p ≡ 1
  is_one = run_one (k.runs p) p runs (i.2.who.running p)
    where
      run_one : (b : Bool) (p : ℕ) → T b → b ≡ eqb p 1 → p ≡ 1
      run_one b p t e = grind (arith, tests)

  nobody_else : (r m : ℕ) (d : Call) → k.pending r ≡ Some' m d → ⊥
  nobody_else r m d g = not_both (k.pending p) m d quiet (ap k.pending (is_one ∙ sym (i.2.only r m d g)) ∙ g)

  even : eqb (length k.screen) (shown_in (k.cell 2)) ≡ true
  even = even_none (k.cell 2) k.screen k.keys k.pending i.0 i.2.desk nobody_else

  call_asked : Waiting (a (server_of c)) (k.cell (server_of c)) ((asks p c k).box (server_of c)) p (k.number p) c (ahead (server_of c) p (sweep (k.cell 2)) (shown_in (k.cell 2)) (length k.screen)) (waits_in (set_now p (Under c 0) i.0) p c) ((set_now p (Under c 0) i.0).now' p)
  call_asked =
      let u = i.2.numbers (server_of c) p small in
      let no = even_ahead (server_of c) p (sweep (k.cell 2)) (shown_in (k.cell 2)) (length k.screen) even in
      let le = u.le in let top = u.top in
      record {
        low = subst (λ r. 0 < r) (sym is_one) (omega arith);
        small = small;
        age = 0;
        how = set_same p (Under c 0) i.0.now' ∙ asks_how c (done (k.cell (server_of c)) p) (k.number p) _ _ (omega arith) no;
        soon = asks_soon (last (k.cell (server_of c)) p) (done (k.cell (server_of c)) p) (k.number p) p (sweep (k.cell (server_of c))) (a (server_of c)) _ top (few (server_of c));
        calm = λ _. no;
        boxed = λ _. subst (Has (Asks p (k.number p) c)) (sym (set_same (server_of c) (k.box (server_of c) ++ (Asks p (k.number p) c ∷ [])) k.box)) (has_new (Asks p (k.number p) c) (k.box (server_of c)));
        slot = λ h _. absurd (omega arith);
        bit = λ h _. absurd (omega arith);
        owing = λ h. absurd (omega arith);
      }

  pub ask_kept : Inv a (asks p c k) (Asked p c ∷ es)
  unfolding living
  ask_kept =
      let r = i.2.who.running p in
      let pr = i.2.who.procs p in
      let n = k.number p in (
        set_now p (Under c 0) i.0,
        run-asks p c i.1 (grind (arith, tests)) (i.2.quiet p quiet),
        record {
          who = record { procs = i.2.who.procs; ons = i.2.who.ons; running = i.2.who.running };
          only = λ q m d g. ⊎_elim (λ z. z.0 ∙ is_one) (λ z. i.2.only q m d z.1) (set_some k.pending p n c q m d g);
          quiet = λ q g. asked_quiet k.pending p n c q (i.0.now' q) (i.2.quiet q) g;
          calls = λ q m d g. ⊎_elim (λ z. transport q m d z.0 z.1 z.2) (λ z. absurd (nobody_else q m d z.1)) (set_some k.pending p n c q m d g);
          numbers = λ σ q s. (let x = i.2.numbers σ q s in let xt = x.top in record { le = x.le; top = grind (arith, tests); fits = (let xf = x.fits in grind (arith, tests)); this = λ m d g. asked_this k.pending k.number p c q m d (nobody_else q m d) g; full = λ h. (let y = x.full h in absurd (nobody_else q y.0 y.1 y.2)); other = λ m d g. inr (asked_other k.pending k.number p c q m d (last (k.cell σ) q) xt (nobody_else q m d) g) });
          mail = λ σ. elim (cases_eq σ (server_of c)) [
            | inl y ↦ (let x = i.2.numbers (server_of c) p small in let xt = x.top in let xl = x.le in let r : (asks p c k).box σ ≡ k.box (server_of c) ++ (Asks p (k.number p) c ∷ []) = grind (arith, tests) in
                subst (λ τ. Mail (asks p c k).pending (k.cell τ) τ ((asks p c k).box σ)) (sym y) (subst (Mail (asks p c k).pending (k.cell (server_of c)) (server_of c)) (sym r) (mail_asks k.pending (k.cell (server_of c)) p (k.number p) c (k.box (server_of c)) (subst (λ r. 0 < r) (sym is_one) (omega arith)) small quiet xt (omega arith) (i.2.mail (server_of c)))))
            | inr y ↦ (let r : (asks p c k).box σ ≡ k.box σ = grind (arith, tests) in subst (Mail (asks p c k).pending (k.cell σ) σ) (sym r) (mail_told k.pending (k.cell σ) σ p _ (k.box σ) (λ m d g h l. not_both (k.pending p) m d quiet g) (i.2.mail σ)))
          ];
          sweeps = i.2.sweeps;
          files = i.2.files;
          desk = record {
            owns = i.2.desk.owns;
            hears = i.2.desk.hears;
            typed = i.2.desk.typed;
            shows = i.2.desk.shows;
            places = λ z. absurd (both_ways (eqb (length k.screen) (shown_in (k.cell 2))) even z);
            few = i.2.desk.few;
          };
        },
      )
    where
      transport : (q m : ℕ) (d : Call) → q ≡ p → m ≡ k.number p → d ≡ c → Waiting (a (server_of d)) (k.cell (server_of d)) ((asks p c k).box (server_of d)) q m d (ahead (server_of d) q (sweep (k.cell 2)) (shown_in (k.cell 2)) (length k.screen)) (waits_in (set_now p (Under c 0) i.0) q d) ((set_now p (Under c 0) i.0).now' q)
      transport q m d x y z = subst (λ u. u) (λ j. Waiting (a (server_of (sym z j))) (k.cell (server_of (sym z j))) ((asks p c k).box (server_of (sym z j))) (sym x j) (sym y j) (sym z j) (ahead (server_of (sym z j)) (sym x j) (sweep (k.cell 2)) (shown_in (k.cell 2)) (length k.screen)) (waits_in (set_now p (Under c 0) i.0) (sym x j) (sym z j)) ((set_now p (Under c 0) i.0).now' (sym x j))) call_asked

-- what waits for a key waits no less before one is struck
types_waits : (s : State) (p x : ℕ) (c : Call) → waits_in (set_desk s.owner s.screen (s.keys ++ (x ∷ [])) s.heard s) p c ≡ true → waits_in s p c ≡ true
unfolding waits_in
types_waits s p x (Spawn n) e = e
types_waits s p x (Exit n) e = e
types_waits s p x Wait e = e
types_waits s p x (Kill n) e = e
types_waits s p x (Open n w) e = e
types_waits s p x (Close n) e = e
types_waits s p x (Read n m) e = e
types_waits s p x (Write n m y) e = e
types_waits s p x (Remove n) e = e
types_waits s p x Take e = e
types_waits s p x Leave e = e
types_waits s p x (Say y) e = e
types_waits s p x Hear e = let l = length-append s.keys (x ∷ []) in more_keys (eqb s.owner p) (length (s.keys ++ (x ∷ []))) (length s.keys) s.heard l e
  where
    more_keys : (b : Bool) (l m h : ℕ) → l ≡ m + 1 → (b && leb l h) ≡ true → (b && leb m h) ≡ true
    more_keys b l m h e f = grind (arith, tests)

types_soon : (g a l f n p w : ℕ) (b b' : Bool) → p < 64 → a ≤ 1000 → (b' ≡ true → b ≡ true) → 32 * g + cond (leb f n && b) 2000 (hops l f n p w + a) ≤ 131072 → 32 * g + cond (leb f n && b') 2000 (hops l f n p w + a) ≤ 131072
unfolding hops
types_soon g a l f n p w b b' s h e v = let t = far_top p w s in grind (arith, tests)

-- a key is struck
pub type_kept : (a : ℕ → ℕ) → ((σ : ℕ) → a σ ≤ 1000) → (k : Kern) (es : List Event) (x : ℕ) → Inv a k es → Inv a (with_screen k.screen (k.keys ++ (x ∷ [])) k) (Typed x ∷ es)
type_kept a few k es x i = (
  _,
  run-types x i.1,
  record {
    who = record { procs = i.2.who.procs; ons = i.2.who.ons; running = i.2.who.running };
    only = i.2.only;
    quiet = i.2.quiet;
    calls = λ p n c g.
        (let v = i.2.calls p n c g in
        record { low = v.low; small = v.small; age = v.age; how = v.how; soon = types_soon v.age (a (server_of c)) (last (k.cell (server_of c)) p) (done (k.cell (server_of c)) p) n p (sweep (k.cell (server_of c))) _ _ v.small (few (server_of c)) (types_waits i.0 p x c) v.soon; calm = λ z. v.calm (types_waits i.0 p x c z); boxed = v.boxed; slot = v.slot; bit = v.bit; owing = v.owing });
    numbers = i.2.numbers;
    mail = i.2.mail;
    sweeps = i.2.sweeps;
    files = i.2.files;
    desk = record { owns = i.2.desk.owns; hears = i.2.desk.hears; typed = ap (λ ks. ks ++ (x ∷ [])) i.2.desk.typed; shows = i.2.desk.shows; places = i.2.desk.places; few = i.2.desk.few };
  },
)

pub between_kept : (a : ℕ → ℕ) → ((σ : ℕ) → a σ ≤ 1000) → {k l : Kern} {es fs : List Event} → Between k es l fs → Inv a k es → Inv a l fs
between_kept a few (rest k es) i = i
between_kept a few (asking {k = k} {es = es} p c small runs quiet top b) i = between_kept a few b (ask_kept a k es few p c small runs quiet top i)
between_kept a few (typing {k = k} {es = es} x top b) i = between_kept a few b (type_kept a few k es x i)

aged_waits : (s : State) (p : ℕ) (c : Call) → waits_in (aged s) p c ≡ waits_in s p c
unfolding waits_in
aged_waits s p (Spawn n) = refl
aged_waits s p (Exit n) = refl
aged_waits s p Wait = refl
aged_waits s p (Kill n) = refl
aged_waits s p (Open n w) = refl
aged_waits s p (Close n) = refl
aged_waits s p (Read n m) = refl
aged_waits s p (Write n m y) = refl
aged_waits s p (Remove n) = refl
aged_waits s p Take = refl
aged_waits s p Leave = refl
aged_waits s p (Say y) = refl
aged_waits s p Hear = refl

aged_how : (s : State) (p : ℕ) (c : Call) (g f n : ℕ) (early : Bool) (o : Answer) → (waits_in s p c ≡ true → early ≡ false) →
    older s p (cond (leb f n) (cond early (Over c Done g) (Under c g)) (Over c o g)) ≡ cond (leb f n) (cond early (Over c Done (cond (leb f n && waits_in s p c) g (g + 1))) (Under c (cond (leb f n && waits_in s p c) g (g + 1)))) (Over c o (cond (leb f n && waits_in s p c) g (g + 1)))
unfolding older
aged_how s p c g f n early o h = grind (arith, tests)

aged_soon : (g a l f n p w : ℕ) (b : Bool) → 32 ≤ a → 32 * g + cond (leb f n && b) 2000 (hops l f n p w + a) ≤ 131072 → 32 * cond (leb f n && b) g (g + 1) + cond (leb f n && b) 2000 (hops l f n p w + 0) ≤ 131072
aged_soon g a l f n p w b h v = grind (arith, tests)

aged_young : (c : Call) (g a l f n p w : ℕ) (early b : Bool) (o : Answer) → 32 ≤ a → 32 * g + cond (leb f n && b) 2000 (hops l f n p w + a) ≤ 131072 → T (young (cond (leb f n) (cond early (Over c Done g) (Under c g)) (Over c o g)))
unfolding young
aged_young c g a l f n p w early b o h v = grind (arith, tests)

right_at : (s : State) (p : ℕ) → s.proc p ≡ cond (eqb p 1) (Living 1 true) Nobody → s.on p ≡ eqb p 1 → T (on_right s p)
unfolding living begun_of
right_at s p u v = grind (arith, tests)

-- a round: each server has given its credits
pub round_kept : (a : ℕ → ℕ) (k : Kern) (es : List Event) → ((c : Call) → 32 ≤ a (server_of c)) → Inv a k es → Inv nothing k (Round ∷ es)
unfolding young older living begun_of
round_kept a k es h i = (
  _,
  run-round i.1 (every_all 64 (λ p. young (i.0.now' p)) (λ p. is_young p (k.pending p) refl)) (every_all 64 (on_right i.0) (λ p. on_right_lem p)),
  record {
    who = record { procs = i.2.who.procs; ons = i.2.who.ons; running = i.2.who.running };
    only = i.2.only;
    quiet = λ p g. ap (older i.0 p) (i.2.quiet p g);
    calls = λ p n c g. (let v = i.2.calls p n c g in
        record {
          low = v.low;
          small = v.small;
          age = cond (leb (done (k.cell (server_of c)) p) n && waits_in i.0 p c) v.age (v.age + 1);
          how = ap (older i.0 p) v.how ∙ aged_how i.0 p c v.age (done (k.cell (server_of c)) p) n _ (owed (k.cell (server_of c))) v.calm;
          soon = subst (λ b. 32 * cond (leb (done (k.cell (server_of c)) p) n && waits_in i.0 p c) v.age (v.age + 1) + cond (leb (done (k.cell (server_of c)) p) n && b) 2000 (hops (last (k.cell (server_of c)) p) (done (k.cell (server_of c)) p) n p (sweep (k.cell (server_of c))) + 0) ≤ 131072) (sym (aged_waits i.0 p c)) (aged_soon v.age (a (server_of c)) (last (k.cell (server_of c)) p) (done (k.cell (server_of c)) p) n p (sweep (k.cell (server_of c))) (waits_in i.0 p c) (h c) v.soon);
          calm = λ z. v.calm (sym (aged_waits i.0 p c) ∙ z);
          boxed = v.boxed;
          slot = v.slot;
          bit = v.bit;
          owing = v.owing;
        });
    numbers = i.2.numbers;
    mail = i.2.mail;
    sweeps = i.2.sweeps;
    files = i.2.files;
    desk = record { owns = i.2.desk.owns; hears = i.2.desk.hears; typed = i.2.desk.typed; shows = i.2.desk.shows; places = i.2.desk.places; few = i.2.desk.few };
  },
)
  where
    is_young : (p : ℕ) (x : Pending) → k.pending p ≡ x → T (young (i.0.now' p))
    is_young p None' g = subst (λ w. T (young w)) (sym (i.2.quiet p g)) tt
    is_young p (Some' n c) g = let v = i.2.calls p n c g in subst (λ w. T (young w)) (sym v.how) (aged_young c v.age (a (server_of c)) (last (k.cell (server_of c)) p) (done (k.cell (server_of c)) p) n p (sweep (k.cell (server_of c))) _ (waits_in i.0 p c) (owed (k.cell (server_of c))) (h c) v.soon)

    on_right_lem : (p : ℕ) → T (on_right i.0 p)
    on_right_lem p = right_at i.0 p (i.2.who.procs p) (i.2.who.ons p)

start_even : (x y : ℕ) → x ≡ 0 → y ≡ 0 → eqb x y ≡ false → ⊥
start_even x y a b z = grind (arith, tests)

-- as it starts
pub start_kept : (k : Kern) → AtStart k → Inv nothing k []
unfolding occ tail
start_kept k h = (
  fresh,
  run-begin,
  record {
    who = grind (arith, tests);
    only = λ p n c g. (let z = h.4 p in let b : ◌≡◌ {A = ℕ} 0 1 = cc in absurd (omega arith));
    quiet = λ p g. refl;
    calls = λ p n c g. (let z = h.4 p in let b : ◌≡◌ {A = ℕ} 0 1 = cc in absurd (omega arith));
    numbers = λ σ p s. (let z = h.4 p in let y = h.1 σ (64 + p) in let x = h.1 σ (128 + p) in record { le = omega arith; top = omega arith; fits = (let n0 = h.5 p in omega arith); this = λ n c g. (let b : ◌≡◌ {A = ℕ} 0 1 = cc in absurd (omega arith)); full = λ l. absurd (omega arith); other = λ n c g. (let b : ◌≡◌ {A = ℕ} 0 1 = cc in absurd (omega arith)) });
    mail = λ σ. mail_empty k.pending (k.cell σ) σ (k.box σ) (h.0 σ);
    sweeps = λ σ. (let z = h.1 σ 32 in record { within = omega arith; not0 = λ e. omega arith; owes = λ p e. absurd (omega arith) });
    files = files_fresh (k.cell 1) (λ j _. h.1 1 j);
    desk = record { owns = sym (h.1 2 52); hears = sym (h.1 2 54); typed = sym h.7; shows = sym h.6; places = λ z. (let a = ap length h.6 in let b = h.1 2 53 in absurd (start_even (length k.screen) (k.cell 2 53) a b z)); few = (let a = h.1 2 53 in let b = h.1 2 54 in omega arith) };
  },
)
