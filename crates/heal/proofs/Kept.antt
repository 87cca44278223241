-- One lemma for each kind of ask: it keeps Inv with whatever credits, and some give more. Kernels here have logical cells.
-- Assumes nothing.
use Rattle.std.proofs.Common.{◌≡◌, ℕ, ◌+◌, ◌-◌, ◌*◌, ◌<◌, ◌≤◌, Bool, true, false, cond, ◌&&◌, T, eqb, leb, ◌⊎◌, List, [], ◌∷◌, length, sym, refl, ap, ◌∙◌, subst, subst₂, inl, inr, arith}
use Rattle.std.proofs.lemmas.Bool.Decides.{nat_tests as tests}
use Rattle.heal.specs.declared.Call.{Call}
use Rattle.heal.specs.declared.Answer.{Answer}
use Rattle.heal.specs.declared.Answer.TheVariants.{Done}
use Rattle.heal.specs.declared.Msg.{Msg}
use Rattle.heal.specs.declared.Msg.TheVariants.{Asks}
use Rattle.heal.specs.Kernel.{Event, Kern, Pending, Some', is_call, server_of, tail, kept, taken}
use Rattle.heal.specs.House.{Now, Under, Over, State}
use Rattle.heal.specs.Codec.{call_of, answer_of}
use Rattle.heal.specs.Ready.{has}
use Rattle.heal.specs.Invariant.{All, MsgOk, Mail, Waiting, Early, DeskIs, Inv, last, done, call_at, owed, ready, sweep, shown_in, ahead, pos, far, hops}
use Rattle.std.proofs.lemmas.Bool.{cases_eq}
use Rattle.heal.specs.Ready.{FirstFrom}
use Rattle.heal.specs.Invariant.{plus, credit}
use Rattle.heal.proofs.FileCells.{files_same}
use Rattle.heal.proofs.Mail.{mail_same, mail_tail, mail_last, far_top, far_on, far_begin}

-- the desk under other cells: what the sweep stands at stays, and is only accepted more
pub desk_other : (d e : ℕ → ℕ) (screen keys : List ℕ) (pending : ℕ → Pending) (s : State) → e 52 ≡ d 52 → e 53 ≡ d 53 → e 54 ≡ d 54 → e 32 ≡ d 32 → ((q : ℕ) → q < 64 → last d q ≤ last e q) → ((q : ℕ) → q < 64 → done e q ≡ done d q) → DeskIs d screen keys pending s → DeskIs e screen keys pending s
desk_other d e screen keys pending s a b c f g h x =
    record { owns = x.owns ∙ sym a; hears = x.hears ∙ sym c; typed = x.typed; shows = x.shows; places = λ n. early (x.places (ap (eqb (length screen)) (sym b) ∙ n)); few = (let z = h 1 (omega arith) in let y = x.few in omega arith) }
  where
    early : Early d (length screen) pending → Early e (length screen) pending
    early z =
        let u = g (sweep d) z.small in let v = h (sweep d) z.small in
        let u' : last d (sweep d) ≤ last e (sweep e) = subst (λ j. last d (sweep d) ≤ last e j) (sym f) u in
        let v' : done e (sweep e) ≡ done d (sweep d) = subst (λ j. done e j ≡ done d (sweep d)) (sym f) v in
        record { next = z.next ∙ ap (λ j. j + 1) (sym b); low = subst (λ j. 0 < j) (sym f) z.low; small = subst (λ j. j < 64) (sym f) z.small; number = z.number; word = z.word; what = ap pending f ∙ z.what; held = omega (arith, z.held); undone = omega (arith, z.undone); own = a ∙ (z.own ∙ sym f) }

-- no word is ahead: where the sweep goes doesn't matter
pub desk_even : (d e : ℕ → ℕ) (screen keys : List ℕ) (pending : ℕ → Pending) (s : State) → eqb (length screen) (shown_in d) ≡ true → e 52 ≡ d 52 → e 53 ≡ d 53 → e 54 ≡ d 54 → done d 1 ≤ done e 1 → DeskIs d screen keys pending s → DeskIs e screen keys pending s
desk_even d e screen keys pending s n a b c h x =
    record { owns = x.owns ∙ sym a; hears = x.hears ∙ sym c; typed = x.typed; shows = x.shows; places = λ m. (let z : ◌≡◌ {A = Bool} true false = sym n ∙ (ap (eqb (length screen)) (sym b) ∙ m) in absurd (grind arith)); few = (let y = x.few in omega arith) }

-- who is at the sweep when a word is ahead
pub even_away : (d : ℕ → ℕ) (screen keys : List ℕ) (pending : ℕ → Pending) (s : State) → DeskIs d screen keys pending s → (0 < sweep d → sweep d < 64 → ⊥) → eqb (length screen) (shown_in d) ≡ true
even_away d screen keys pending s x h = by (eqb (length screen) (shown_in d)) x.places
  where
    by : (b : Bool) → (b ≡ false → Early d (length screen) pending) → b ≡ true
    by true f = refl
    by false f = let z = f refl in absurd (h z.low z.small)

pub even_vacant : (d : ℕ → ℕ) (screen keys : List ℕ) (pending : ℕ → Pending) (s : State) (p : ℕ) → DeskIs d screen keys pending s → sweep d ≡ p → done d p ≡ last d p → eqb (length screen) (shown_in d) ≡ true
even_vacant d screen keys pending s p x e f = by (eqb (length screen) (shown_in d)) x.places
  where
    by : (b : Bool) → (b ≡ false → Early d (length screen) pending) → b ≡ true
    by true g = refl
    by false g = let z = g refl in let u : done d (sweep d) ≡ last d (sweep d) = subst (λ j. done d j ≡ last d j) (sym e) f in absurd (omega (arith, z.held, z.undone))

-- a cell that isn't the one that is written
pub kept_same : (k : Kern) (c x σ j : ℕ) → (σ ≡ k.at → j ≡ c → ⊥) → (kept c x k).cell σ j ≡ k.cell σ j
kept_same k c x σ j h = same_at (k.cell σ j) x σ k.at j c h
  where
    same_at : (y x σ s j c : ℕ) → (σ ≡ s → j ≡ c → ⊥) → cond (eqb σ s && eqb j c) x y ≡ y
    same_at y x σ s j c h = grind (arith, tests)

pub same_how : (c : Call) (g x y n : ℕ) (early early' : Bool) (o o' : Answer) → y ≡ x → early' ≡ early → (n < x → o' ≡ o) → cond (leb x n) (cond early (Over c Done g) (Under c g)) (Over c o g) ≡ cond (leb y n) (cond early' (Over c Done g) (Under c g)) (Over c o' g)
same_how c g x y n early early' o o' f e h = grind (arith, tests)

-- a call under other cells of its server
pub waiting_other : (a : ℕ) (d e : ℕ → ℕ) (box : List Msg) (p n : ℕ) (c : Call) (early early' waits : Bool) (w : Now) → last e p ≡ last d p → done e p ≡ done d p → sweep e ≡ sweep d → early' ≡ early → (n < last d p → done d p ≤ n → call_at e p ≡ call_at d p) → (n < done d p → owed e ≡ owed d) → (n < last d p → done d p ≤ n → T (has p (ready d)) → T (has p (ready e))) →
    Waiting a d box p n c early waits w → Waiting a e box p n c early' waits w
waiting_other a d e box p n c early early' waits w l f s y u o b v =
    record {
      low = v.low;
      small = v.small;
      age = v.age;
      how = v.how ∙ same_how c v.age (done d p) (done e p) n early early' (owed d) (owed e) f y o;
      soon = subst (λ x. x ≤ 131072) (λ i. 32 * v.age + cond (leb (sym f i) n && waits) 2000 (hops (sym l i) (sym f i) n p (sym s i) + a)) v.soon;
      calm = λ z. y ∙ v.calm z;
      boxed = λ h. v.boxed (subst (λ x. x ≤ n) l h);
      slot = λ g h. (let g' = subst (λ x. n < x) l g in let h' = subst (λ x. x ≤ n) f h in u g' h' ∙ v.slot g' h');
      bit = λ g h. (let g' = subst (λ x. n < x) l g in let h' = subst (λ x. x ≤ n) f h in b g' h' (v.bit g' h'));
      owing = λ h. s ∙ v.owing (subst (λ x. n < x) f h);
    }

-- the words of a slot, and those of an answer, are other cells than these
slot_word : (j p : ℕ) → p < 64 → (j ≡ 192 + p) ⊎ ((j ≡ 256 + p) ⊎ ((j ≡ 320 + p) ⊎ (j ≡ 384 + p))) → (192 ≤ j) × (j < 448)
slot_word j p s h = (grind arith, grind arith)

other_word : (j p q b : ℕ) → p < 64 → q < 64 → (j ≡ 192 + p) ⊎ ((j ≡ 256 + p) ⊎ ((j ≡ 320 + p) ⊎ (j ≡ 384 + p))) → (q ≡ p → ⊥) → (b ≡ 192) ⊎ ((b ≡ 256) ⊎ ((b ≡ 320) ⊎ (b ≡ 384))) → b + q ≡ j → ⊥
other_word j p q b s t h n u e = grind arith

owed_word : (j : ℕ) → (j ≡ 33) ⊎ ((j ≡ 34) ⊎ (j ≡ 35)) → (33 ≤ j) × (j < 36)
owed_word j h = (grind arith, grind arith)

call_words : (a b c d a' b' c' d' : ℕ) → a' ≡ a → b' ≡ b → c' ≡ c → d' ≡ d → call_of a' b' c' d' ≡ call_of a b c d
call_words a b c d a' b' c' d' w x y z = cc

-- a call in the slot is the one that is under way
this_call : (x : Pending) (m n : ℕ) (c d : Call) → x ≡ Some' m d → x ≡ Some' n c → m ≡ n
this_call x m n c d e f = cc

-- a call, where only the sweep goes elsewhere
pub waiting_swept : (a b : ℕ) (d e : ℕ → ℕ) (box : List Msg) (p n : ℕ) (c : Call) (early early' waits : Bool) (w : Now) → ((j : ℕ) → (j ≡ 32 → ⊥) → e j ≡ d j) → p < 64 → early' ≡ early → (leb (done d p) n && waits ≡ false → hops (last d p) (done d p) n p (sweep e) + b ≤ hops (last d p) (done d p) n p (sweep d) + a) → (n < done d p → sweep e ≡ 64 + p) →
    Waiting a d box p n c early waits w → Waiting b e box p n c early' waits w
waiting_swept a b d e box p n c early early' waits w s small y h o v =
    let l = s (64 + p) (λ z. omega arith) in
    let f = s (128 + p) (λ z. omega arith) in
    let r = s 36 (λ z. omega arith) in
    record {
      low = v.low;
      small = v.small;
      age = v.age;
      how = v.how ∙ same_how c v.age (done d p) (done e p) n early early' (owed d) (owed e) f y (λ _ i. answer_of (s 33 (λ z. omega arith) i) (s 34 (λ z. omega arith) i) (s 35 (λ z. omega arith) i));
      soon = subst (λ x. x ≤ 131072) (λ i. 32 * v.age + cond (leb (sym f i) n && waits) 2000 (hops (sym l i) (sym f i) n p (sweep e) + b)) (less (leb (done d p) n && waits) (32 * v.age) _ _ h v.soon);
      calm = λ z. y ∙ v.calm z;
      boxed = λ g. v.boxed (subst (λ x. x ≤ n) l g);
      slot = λ g u. call_words _ _ _ _ _ _ _ _ (s (192 + p) (λ z. omega arith)) (s (256 + p) (λ z. omega arith)) (s (320 + p) (λ z. omega arith)) (s (384 + p) (λ z. omega arith)) ∙ v.slot (subst (λ x. n < x) l g) (subst (λ x. x ≤ n) f u);
      bit = λ g u. subst (λ x. T (has p x)) (sym r) (v.bit (subst (λ x. n < x) l g) (subst (λ x. x ≤ n) f u));
      owing = λ g. o (subst (λ x. n < x) f g);
    }
  where
    less : (z : Bool) (x m k : ℕ) → (z ≡ false → k ≤ m) → x + cond z 2000 m ≤ 131072 → x + cond z 2000 k ≤ 131072
    less true x m k h g = g
    less false x m k h g = omega (arith, h refl)

pub kept_here : (k : Kern) (c x σ : ℕ) → σ ≡ k.at → (kept c x k).cell σ c ≡ x
kept_here k c x σ e = here_at (k.cell σ c) x σ k.at c e
  where
    here_at : (y x σ s c : ℕ) → σ ≡ s → cond (eqb σ s && eqb c c) x y ≡ x
    here_at y x σ s c e = grind (arith, tests)

pub early_same : (k : Kern) (w σ q : ℕ) → (k.at ≡ 2 → eqb (length k.screen) (shown_in (k.cell 2)) ≡ true) → ahead σ q ((kept 32 w k).cell 2 32) ((kept 32 w k).cell 2 53) (length k.screen) ≡ ahead σ q (sweep (k.cell 2)) (shown_in (k.cell 2)) (length k.screen)
unfolding ahead
early_same k w σ q ne = grind (arith, tests)

told_not : (x : Pending) (f m : ℕ) (d : Call) → x ≡ Some' m d → f ≡ m + 1 → is_call (f - 1) x ≡ false → ⊥
unfolding is_call
told_not x f m d e h i = grind (arith, tests)

above : (s p : ℕ) → s ≡ 64 + p → (s ≡ 64 → ⊥) → 0 < p
above s p e h = grind arith

more_both : (x y z : ℕ) → x ≤ y → x + z ≤ y + z
more_both x y z h = omega arith

box_of_lem : (l f m : ℕ) → l ≡ f → (m < f → ⊥) → l ≤ m
box_of_lem l f m e h = grind arith

told_hops : (l f m q p w : ℕ) → 0 < p → p < 64 → f ≤ l → (m < f → ⊥) → 0 < q → q < 64 → w < 64 → (0 < w → p < w) → (p < q → m < l → f ≤ m → (0 < w) × (w ≤ q)) → (q ≡ p → l ≤ m) → hops l f m q w ≤ hops l f m q (64 + p)
unfolding hops far pos
told_hops l f m q p w pl ps a b z s t u v x = grind (arith, tests)

-- scratch: a word of the slot of a program whose call isn't accepted yet
module _ (a : ℕ → ℕ) (k : Kern) (es : List Event) (i : Inv a k es) where
  pub words_kept : (p n : ℕ) (c : Call) (j x : ℕ) → p < 64 → k.pending p ≡ Some' n c → server_of c ≡ k.at → last (k.cell k.at) p ≤ n → (j ≡ 192 + p) ⊎ ((j ≡ 256 + p) ⊎ ((j ≡ 320 + p) ⊎ (j ≡ 384 + p))) → Inv a (kept j x k) es
  words_kept p n c j x small e f l h = (
    i.0,
    i.1,
    record {
      who = i.2.who;
      only = i.2.only;
      quiet = i.2.quiet;
      calls = λ q m d g.
          (let v = i.2.calls q m d g in
          let jj = slot_word j p small h in
          let same = kept_same k j x in
          let away : server_of d ≡ k.at → m < last (k.cell (server_of d)) q → q ≡ p → ⊥ = λ y u z. (let mn = this_call (k.pending p) m n c d (ap k.pending (sym z) ∙ g) e in let ll = subst (λ τ. m < last (k.cell τ) q) y u in let l2 = subst (λ r. m < last (k.cell k.at) r) z ll in omega arith) in
          waiting_other _ (k.cell (server_of d)) _ (k.box (server_of d)) q m d _ _ _ _
          (same (server_of d) (64 + q) (λ _ z. omega (arith, v.small)))
          (same (server_of d) (128 + q) (λ _ z. omega (arith, v.small)))
          (same (server_of d) 32 (λ _ z. omega arith))
          (λ d'. ahead (server_of d) q (same 2 32 (λ _ z. omega arith) d') (same 2 53 (λ _ z. omega arith) d') (length k.screen))
          (λ u w. call_words _ _ _ _ _ _ _ _
          (same (server_of d) (192 + q) (λ y z. other_word j p q 192 small v.small h (away y u) (inl refl) z))
          (same (server_of d) (256 + q) (λ y z. other_word j p q 256 small v.small h (away y u) (inr (inl refl)) z))
          (same (server_of d) (320 + q) (λ y z. other_word j p q 320 small v.small h (away y u) (inr (inr (inl refl))) z))
          (same (server_of d) (384 + q) (λ y z. other_word j p q 384 small v.small h (away y u) (inr (inr (inr refl))) z)))
          (λ u d'. answer_of (same (server_of d) 33 (λ _ z. omega arith) d') (same (server_of d) 34 (λ _ z. omega arith) d') (same (server_of d) 35 (λ _ z. omega arith) d'))
          (λ u w y. subst (λ r. T (has q r)) (sym (same (server_of d) 36 (λ _ z. omega arith))) y)
          v);
      numbers = λ σ q s. (let w = i.2.numbers σ q s in grind (arith, tests));
      mail = λ σ. mail_same k.pending (k.cell σ) _ σ (k.box σ) (λ q s. grind (arith, tests)) (λ q s. grind (arith, tests)) (i.2.mail σ);
      sweeps = λ σ. (let w = i.2.sweeps σ in grind (arith, tests));
      files = files_same (k.cell 1) _ i.0.file i.0.hand (λ r l. kept_same k j x 1 r (λ _ z. (let jj = slot_word j p small h in omega arith))) i.2.files;
      desk = desk_other (k.cell 2) _ k.screen k.keys k.pending i.0 (grind (arith, tests)) (grind (arith, tests)) (grind (arith, tests)) (grind (arith, tests)) (λ q s. grind (arith, tests)) (λ q s. grind (arith, tests)) i.2.desk;
    },
  )

  -- a word of the answer, while none is owed
  pub owed_words_kept : (j x : ℕ) → (j ≡ 33) ⊎ ((j ≡ 34) ⊎ (j ≡ 35)) → sweep (k.cell k.at) < 64 → Inv a (kept j x k) es
  owed_words_kept j x h l = (
    i.0,
    i.1,
    record {
      who = i.2.who;
      only = i.2.only;
      quiet = i.2.quiet;
      calls = λ q m d g.
          (let v = i.2.calls q m d g in
          let jj = owed_word j h in
          let same = kept_same k j x in
          waiting_other _ (k.cell (server_of d)) _ (k.box (server_of d)) q m d _ _ _ _
          (same (server_of d) (64 + q) (λ _ z. omega arith))
          (same (server_of d) (128 + q) (λ _ z. omega arith))
          (same (server_of d) 32 (λ _ z. omega arith))
          (λ d'. ahead (server_of d) q (same 2 32 (λ _ z. omega arith) d') (same 2 53 (λ _ z. omega arith) d') (length k.screen))
          (λ u w. call_words _ _ _ _ _ _ _ _ (same (server_of d) (192 + q) (λ _ z. omega arith)) (same (server_of d) (256 + q) (λ _ z. omega arith)) (same (server_of d) (320 + q) (λ _ z. omega arith)) (same (server_of d) (384 + q) (λ _ z. omega arith)))
          (λ u. (let own = v.owing u in
          let no : server_of d ≡ k.at → ⊥ = λ y. (let z = subst (λ τ. sweep (k.cell τ) ≡ 64 + q) y own in omega arith) in
          λ d'. answer_of (same (server_of d) 33 (λ y _. no y) d') (same (server_of d) 34 (λ y _. no y) d') (same (server_of d) 35 (λ y _. no y) d')))
          (λ u w y. subst (λ r. T (has q r)) (sym (same (server_of d) 36 (λ _ z. omega arith))) y)
          v);
      numbers = λ σ q s. (let w = i.2.numbers σ q s in grind (arith, tests));
      mail = λ σ. mail_same k.pending (k.cell σ) _ σ (k.box σ) (λ q s. grind (arith, tests)) (λ q s. grind (arith, tests)) (i.2.mail σ);
      sweeps = λ σ. (let w = i.2.sweeps σ in grind (arith, tests));
      files = files_same (k.cell 1) _ i.0.file i.0.hand (λ r l. kept_same k j x 1 r (λ _ z. (let jj = owed_word j h in omega arith))) i.2.files;
      desk = desk_other (k.cell 2) _ k.screen k.keys k.pending i.0 (grind (arith, tests)) (grind (arith, tests)) (grind (arith, tests)) (grind (arith, tests)) (λ q s. grind (arith, tests)) (λ q s. grind (arith, tests)) i.2.desk;
    },
  )

  -- the ready set: who has a call in the slot stays
  pub ready_kept : (x : ℕ) → ((q : ℕ) → q < 64 → T (has q (ready (k.cell k.at))) → done (k.cell k.at) q < last (k.cell k.at) q → T (has q x)) → Inv a (kept 36 x k) es
  ready_kept x h = (
    i.0,
    i.1,
    record {
      who = i.2.who;
      only = i.2.only;
      quiet = i.2.quiet;
      calls = λ q m d g. (let w = i.2.calls q m d g in let z = h q w.small in grind (arith, tests));
      numbers = λ σ q s. (let w = i.2.numbers σ q s in grind (arith, tests));
      mail = λ σ. mail_same k.pending (k.cell σ) _ σ (k.box σ) (λ q s. grind (arith, tests)) (λ q s. grind (arith, tests)) (i.2.mail σ);
      sweeps = λ σ. (let w = i.2.sweeps σ in grind (arith, tests));
      files = files_same (k.cell 1) _ i.0.file i.0.hand (λ r l. kept_same k 36 x 1 r (λ _ z. omega arith)) i.2.files;
      desk = desk_other (k.cell 2) _ k.screen k.keys k.pending i.0 (grind (arith, tests)) (grind (arith, tests)) (grind (arith, tests)) (grind (arith, tests)) (λ q s. grind (arith, tests)) (λ q s. grind (arith, tests)) i.2.desk;
    },
  )

  -- the call is accepted
  pub last_kept : (p n : ℕ) (c : Call) (ms : List Msg) → k.box k.at ≡ Asks p n c ∷ ms → last (k.cell k.at) p ≤ n → sweep (k.cell k.at) < 64 → T (has p (ready (k.cell k.at))) → call_at (k.cell k.at) p ≡ c → Inv a (kept (64 + p) (n + 1) k) es
  unfolding hops
  last_kept p n c ms e l z b f =
      let o : MsgOk k.pending (k.cell k.at) k.at (Asks p n c) = (subst (All (MsgOk k.pending (k.cell k.at) k.at)) e (i.2.mail k.at).fine).0 in
      let small : p < 64 = o.1 in
      let pend : k.pending p ≡ Some' n c = o.2 in
      let here : server_of c ≡ k.at = o.3 in
      let t = far_top p (sweep (k.cell k.at)) small in (
        i.0,
        i.1,
        record {
          who = i.2.who;
          only = i.2.only;
          quiet = i.2.quiet;
          calls = λ q m d g. (let w = i.2.calls q m d g in grind (arith, tests));
          numbers = λ σ q s. (let w = i.2.numbers σ q s in let v = i.2.numbers k.at p small in let tv = v.this n c pend in
              record {
                le = grind (arith, tests);
                top = grind (arith, tests);
                fits = w.fits;
                this = w.this;
                full = λ h. elim (cases_eq q p) [
                  | inl y ↦ elim (cases_eq σ k.at) [ inl z ↦ (n, c, grind arith, grind arith, grind (arith, tests)) | inr z ↦ (let r = w.full (grind (arith, tests)) in (r.0, r.1, r.2, r.3, grind (arith, tests))) ]
                  | inr y ↦ (let r = w.full (grind (arith, tests)) in (r.0, r.1, r.2, r.3, grind (arith, tests)))
                ];
                other = λ m d g. (let z = w.other m d g in grind (arith, tests));
              });
          mail = λ σ. elim (cases_eq σ k.at) [
            | inl y ↦ mail_last k.pending (k.cell σ) _ σ p n c ms (k.box σ) (ap k.box y ∙ e) (λ q s t. grind (arith, tests)) (λ q s. grind (arith, tests)) (i.2.mail σ)
            | inr y ↦ mail_same k.pending (k.cell σ) _ σ (k.box σ) (λ q s. grind (arith, tests)) (λ q s. grind (arith, tests)) (i.2.mail σ)
          ];
          sweeps = λ σ. (let w = i.2.sweeps σ in grind (arith, tests));
          files = files_same (k.cell 1) _ i.0.file i.0.hand (λ r l. kept_same k (64 + p) (n + 1) 1 r (λ _ z. omega (arith, small))) i.2.files;
          desk = desk_other (k.cell 2) _ k.screen k.keys k.pending i.0 (grind (arith, tests)) (grind (arith, tests)) (grind (arith, tests)) (grind (arith, tests)) (λ q s. grind (arith, tests)) (λ q s. grind (arith, tests)) i.2.desk;
        },
      )

  -- the first message, whose call is accepted, is taken
  pub take_kept : (p n : ℕ) (c : Call) (ms : List Msg) → k.box k.at ≡ Asks p n c ∷ ms → n < last (k.cell k.at) p → Inv a (taken k) es
  unfolding tail
  take_kept p n c ms e l =
      let o : MsgOk k.pending (k.cell k.at) k.at (Asks p n c) = (subst (All (MsgOk k.pending (k.cell k.at) k.at)) e (i.2.mail k.at).fine).0 in
      let pend : k.pending p ≡ Some' n c = o.2 in
      let here : server_of c ≡ k.at = o.3 in (
        i.0,
        i.1,
        record {
          who = i.2.who;
          only = i.2.only;
          quiet = i.2.quiet;
          calls = λ q m d g. (let w = i.2.calls q m d g in grind (arith, tests));
          numbers = i.2.numbers;
          mail = λ σ. elim (cases_eq σ k.at) [
            | inl y ↦ (let t = mail_tail k.pending (k.cell σ) σ (k.box σ) (i.2.mail σ) in let r : (taken k).box σ ≡ tail (k.box σ) = grind (arith, tests) in subst (Mail k.pending (k.cell σ) σ) (sym r) t)
            | inr y ↦ (let r : (taken k).box σ ≡ k.box σ = grind (arith, tests) in subst (Mail k.pending (k.cell σ) σ) (sym r) (i.2.mail σ))
          ];
          sweeps = i.2.sweeps;
          files = i.2.files;
          desk = i.2.desk;
        },
      )

  -- the sweep goes on from an answer that was told
  pub told_kept : (p w : ℕ) → sweep (k.cell k.at) ≡ 64 + p → is_call (done (k.cell k.at) p - 1) (k.pending p) ≡ false → FirstFrom (p + 1) (ready (k.cell k.at)) w → Inv a (kept 32 w k) es
  unfolding hops ahead is_call
  told_kept p w e f h =
      let y = i.2.sweeps k.at in
      let z = y.owes p e in
      let psml : p < 64 = omega (arith, y.within) in
      let plow : 0 < p = above (sweep (k.cell k.at)) p e y.not0 in
      let ne : k.at ≡ 2 → eqb (length k.screen) (shown_in (k.cell 2)) ≡ true = λ y. even_away (k.cell 2) k.screen k.keys k.pending i.0 i.2.desk (λ l s. (let z : sweep (k.cell 2) ≡ 64 + p = subst (λ σ. sweep (k.cell σ) ≡ 64 + p) y e in omega arith)) in (
        i.0,
        i.1,
        record {
          who = i.2.who;
          only = i.2.only;
          quiet = i.2.quiet;
          calls = λ q m d g.
              (let v = i.2.calls q m d g in
              let u = i.2.numbers (server_of d) q v.small in
              let t = u.this m d g in
              let same = kept_same k 32 w in
              let ea = early_same k w (server_of d) q ne in
              elim (cases_eq (server_of d) k.at) [
                | inl y ↦
                    (let e' = subst (λ σ. sweep (k.cell σ) ≡ 64 + p) (sym y) e in
                    let z' = subst (λ σ. (0 < done (k.cell σ) p) × (last (k.cell σ) p ≡ done (k.cell σ) p)) (sym y) z in
                    let here = kept_here k 32 w (server_of d) y in
                    let f' = subst (λ σ. is_call (done (k.cell σ) p - 1) (k.pending p) ≡ false) (sym y) f in
                    let un : m < done (k.cell (server_of d)) q → ⊥ = λ n. (let o = v.owing n in let qp : q ≡ p = omega arith in
                    told_not (k.pending p) (done (k.cell (server_of d)) p) m d (ap k.pending (sym qp) ∙ g) (let tt1 = u.top in let tt2 = u.le in let a1 = subst (λ r. m < done (k.cell (server_of d)) r) qp n in let a2 = subst (λ r. last (k.cell (server_of d)) r ≤ k.number q) qp tt1 in omega arith) f') in
                    let bits = subst (λ σ. FirstFrom (p + 1) (ready (k.cell σ)) w) (sym y) h in
                    let le = u.le in
                    waiting_swept _ _ (k.cell (server_of d)) _ (k.box (server_of d)) q m d _ _ _ _ (λ j n. same (server_of d) j (λ _ o. n o)) v.small ea
                    (λ _. subst₂ (λ x1 x2. hops (last (k.cell (server_of d)) q) (done (k.cell (server_of d)) q) m q x1 + a (server_of d) ≤ hops (last (k.cell (server_of d)) q) (done (k.cell (server_of d)) q) m q x2 + a (server_of d)) (sym here) (sym e')
                    (more_both _ _ (a (server_of d)) (told_hops (last (k.cell (server_of d)) q) (done (k.cell (server_of d)) q) m q p w plow psml le un v.low v.small bits.below (λ l. (let ff = bits.from' l in omega arith)) (λ l l1 l2. bits.before q (omega arith) v.small (v.bit l1 l2))
                    (λ qp. (let a1 = subst (λ r. last (k.cell (server_of d)) r ≡ done (k.cell (server_of d)) r) (sym qp) z'.1 in box_of_lem _ _ m a1 un)))))
                    (λ n. absurd (un n)) v)
                | inr y ↦
                    (let all : (j : ℕ) → (kept 32 w k).cell (server_of d) j ≡ k.cell (server_of d) j = λ j. same (server_of d) j (λ o _. y o) in
                    waiting_swept _ _ (k.cell (server_of d)) _ (k.box (server_of d)) q m d _ _ _ _ (λ j _. all j) v.small ea
                    (λ _. subst (λ x. hops (last (k.cell (server_of d)) q) (done (k.cell (server_of d)) q) m q x + a (server_of d) ≤ hops (last (k.cell (server_of d)) q) (done (k.cell (server_of d)) q) m q (sweep (k.cell (server_of d))) + a (server_of d)) (sym (all 32)) (omega arith))
                    (λ n. all 32 ∙ v.owing n) v)
              ]);
          numbers = λ σ q s. (let v = i.2.numbers σ q s in record { le = grind (arith, tests); top = grind (arith, tests); fits = v.fits; this = v.this; full = λ j. (let r = v.full (grind (arith, tests)) in (r.0, r.1, r.2, r.3, grind (arith, tests))); other = λ m d g. (let z = v.other m d g in grind (arith, tests)) });
          mail = λ σ. mail_same k.pending (k.cell σ) _ σ (k.box σ) (λ q s. grind (arith, tests)) (λ q s. grind (arith, tests)) (i.2.mail σ);
          sweeps = λ σ. (let v = i.2.sweeps σ in let hb = h.below in grind (arith, tests));
          files = files_same (k.cell 1) _ i.0.file i.0.hand (λ r l. kept_same k 32 w 1 r (λ _ z. omega arith)) i.2.files;
          desk = elim (cases_eq k.at 2) [
            | inl y ↦ desk_even (k.cell 2) _ k.screen k.keys k.pending i.0 (ne y) (grind (arith, tests)) (grind (arith, tests)) (grind (arith, tests)) (grind (arith, tests)) i.2.desk
            | inr y ↦ desk_other (k.cell 2) _ k.screen k.keys k.pending i.0 (grind (arith, tests)) (grind (arith, tests)) (grind (arith, tests)) (grind (arith, tests)) (λ q s. grind (arith, tests)) (λ q s. grind (arith, tests)) i.2.desk
          ];
        },
      )

  -- from an empty slot
  pub clear_kept : (p w : ℕ) → sweep (k.cell k.at) ≡ p → 0 < p → p < 64 → done (k.cell k.at) p ≡ last (k.cell k.at) p → k.box k.at ≡ [] → FirstFrom (p + 1) (ready (k.cell k.at)) w → Inv (plus k.at 1 a) (kept 32 w k) es
  unfolding hops ahead
  clear_kept p w e l s f x h =
      let ne : k.at ≡ 2 → eqb (length k.screen) (shown_in (k.cell 2)) ≡ true = λ y. even_vacant (k.cell 2) k.screen k.keys k.pending i.0 p i.2.desk (subst (λ σ. sweep (k.cell σ) ≡ p) y e) (subst (λ σ. done (k.cell σ) p ≡ last (k.cell σ) p) y f) in (
        i.0,
        i.1,
        record {
          who = i.2.who;
          only = i.2.only;
          quiet = i.2.quiet;
          calls = λ q m d g. (let v = i.2.calls q m d g in let ft = far_on q p w l s h.below v.small in let b = h.before q in let hb = h.below in let hf = h.from' in grind (arith, tests));
          numbers = λ σ q s. (let v = i.2.numbers σ q s in record { le = grind (arith, tests); top = grind (arith, tests); fits = v.fits; this = v.this; full = λ j. (let r = v.full (grind (arith, tests)) in (r.0, r.1, r.2, r.3, grind (arith, tests))); other = λ m d g. (let z = v.other m d g in grind (arith, tests)) });
          mail = λ σ. mail_same k.pending (k.cell σ) _ σ (k.box σ) (λ q s. grind (arith, tests)) (λ q s. grind (arith, tests)) (i.2.mail σ);
          sweeps = λ σ. (let v = i.2.sweeps σ in let hb = h.below in grind (arith, tests));
          files = files_same (k.cell 1) _ i.0.file i.0.hand (λ r l. kept_same k 32 w 1 r (λ _ z. omega arith)) i.2.files;
          desk = elim (cases_eq k.at 2) [
            | inl y ↦ desk_even (k.cell 2) _ k.screen k.keys k.pending i.0 (ne y) (grind (arith, tests)) (grind (arith, tests)) (grind (arith, tests)) (grind (arith, tests)) i.2.desk
            | inr y ↦ desk_other (k.cell 2) _ k.screen k.keys k.pending i.0 (grind (arith, tests)) (grind (arith, tests)) (grind (arith, tests)) (grind (arith, tests)) (λ q s. grind (arith, tests)) (λ q s. grind (arith, tests)) i.2.desk
          ];
        },
      )

  -- a sweep begins, or there's nothing to do
  pub begin_kept : (w b : ℕ) → sweep (k.cell k.at) ≡ 0 → k.box k.at ≡ [] → FirstFrom 1 (ready (k.cell k.at)) w → b ≤ a k.at + 32 → Inv (credit k.at b a) (kept 32 w k) es
  unfolding hops ahead
  begin_kept w b' e x h z =
      let ne : k.at ≡ 2 → eqb (length k.screen) (shown_in (k.cell 2)) ≡ true = λ y. even_away (k.cell 2) k.screen k.keys k.pending i.0 i.2.desk (λ l s. (let z : sweep (k.cell 2) ≡ 0 = subst (λ σ. sweep (k.cell σ) ≡ 0) y e in omega arith)) in (
        i.0,
        i.1,
        record {
          who = i.2.who;
          only = i.2.only;
          quiet = i.2.quiet;
          calls = λ q m d g. (let v = i.2.calls q m d g in let ft = far_begin q w in let b = h.before q v.low v.small in grind (arith, tests));
          numbers = λ σ q s. (let v = i.2.numbers σ q s in record { le = grind (arith, tests); top = grind (arith, tests); fits = v.fits; this = v.this; full = λ j. (let r = v.full (grind (arith, tests)) in (r.0, r.1, r.2, r.3, grind (arith, tests))); other = λ m d g. (let z = v.other m d g in grind (arith, tests)) });
          mail = λ σ. mail_same k.pending (k.cell σ) _ σ (k.box σ) (λ q s. grind (arith, tests)) (λ q s. grind (arith, tests)) (i.2.mail σ);
          sweeps = λ σ. (let v = i.2.sweeps σ in let hb = h.below in grind (arith, tests));
          files = files_same (k.cell 1) _ i.0.file i.0.hand (λ r l. kept_same k 32 w 1 r (λ _ z. omega arith)) i.2.files;
          desk = elim (cases_eq k.at 2) [
            | inl y ↦ desk_even (k.cell 2) _ k.screen k.keys k.pending i.0 (ne y) (grind (arith, tests)) (grind (arith, tests)) (grind (arith, tests)) (grind (arith, tests)) i.2.desk
            | inr y ↦ desk_other (k.cell 2) _ k.screen k.keys k.pending i.0 (grind (arith, tests)) (grind (arith, tests)) (grind (arith, tests)) (grind (arith, tests)) (λ q s. grind (arith, tests)) (λ q s. grind (arith, tests)) i.2.desk
          ];
        },
      )

  -- fewer credits
  pub loose : (b : ℕ → ℕ) → ((σ : ℕ) → b σ ≤ a σ) → Inv b k es
  loose b h = (
    i.0,
    i.1,
    record {
      who = i.2.who;
      only = i.2.only;
      quiet = i.2.quiet;
      calls = λ q m d g. (let v = i.2.calls q m d g in let t = h (server_of d) in
          record { low = v.low; small = v.small; age = v.age; how = v.how; soon = (let u = v.soon in grind (arith, tests)); calm = v.calm; boxed = v.boxed; slot = v.slot; bit = v.bit; owing = v.owing });
      numbers = i.2.numbers;
      mail = i.2.mail;
      sweeps = i.2.sweeps;
      files = i.2.files;
      desk = i.2.desk;
    },
  )
