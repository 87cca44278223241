-- From what the cells say to the moment of each call, as on the machine that never falls.
-- Assumes nothing.
use Rattle.std.proofs.Common.{◌≡◌, ℕ, zero, suc, ◌+◌, ◌-◌, ◌*◌, ◌%◌, ◌<◌, ◌≤◌, Bool, true, false, cond, not, ◌&&◌, ◌||◌, T, eqb, leb, ◌⊎◌, List, [], ◌∷◌, length, get_or, Some, None, sym, refl, ap, ◌∙◌, subst, subst₂, inl, ⊎_elim, arith}
use Rattle.std.proofs.lemmas.Bool.Decides.{nat_tests as tests}
use Rattle.std.proofs.lemmas.Bool.{cases_eq, eqb-true}
use Rattle.heal.specs.declared.Call.{Call}
use Rattle.heal.specs.declared.Call.TheVariants.{Spawn, Exit, Wait, Kill, Open, Close, Read, Write, Remove, Take, Leave, Say, Hear}
use Rattle.heal.specs.declared.Answer.{Answer}
use Rattle.heal.specs.declared.Answer.TheVariants.{Done, No, Word, Handle}
use Rattle.heal.specs.Kernel.{Event, Kern, server_of, set, kept, key_at, cells_of}
use Rattle.heal.specs.House.{Proc, Nobody, Living, Now, Quiet, Under, Over, State, Run, Gives, Waits, Outcome, does, fits, ends, core, waits_in, child_of, some', nobody, set_now, set_desk, put, acts, refuses, not_built, Empty, Missing, There, give_hand, set_file, write_in, words}
use Rattle.heal.specs.Promise.{can}
use Rattle.heal.specs.Files.{FilesAre, size_at, users_at, hand_at, word_at, name_in, writes_in, open_cells, close_cells, write_cells, remove_cells, opened_by}
use Rattle.heal.specs.Journal.{kept_all, Within}
use Rattle.heal.specs.Invariant.{Inv, Who, Early, DeskIs, Shut, Before, Common, sweep, shown_in, heard_in, owner_in, ahead}
use Rattle.heal.specs.Deciding.{Standing, Apart, Decided}
use Rattle.heal.proofs.Lawful.{Lawful}
use Rattle.heal.proofs.FileCells.{some_none, files_same}
use Rattle.heal.proofs.Standing.{lawful}
use Rattle.heal.proofs.Mail.{set_same}
use Rattle.heal.proofs.FileCalls.{open_no1, open_no2, open_no8, open_no13, open_done, close_no4, close_done, read_no4, read_no5, read_done, write_no4, write_no6, write_no5, write_done, remove_no1, remove_no2, remove_no8, remove_done}
use Rattle.heal.proofs.Moments.{ahead_not, even_ahead, even_other}

-- whether c says a word
abbrev NotSay : Call → Type 0
NotSay c = (x : ℕ) → c ≡ Say x → ⊥

is_under : (c : Call) (g : ℕ) (b : Bool) → b ≡ false → cond b (Over c Done g) (Under c g) ≡ Under c g
is_under c g b e = ap (λ z. cond z (Over c Done g) (Under c g)) e

put_here : (p : ℕ) (w : Now) (f : ℕ → Now) (q : ℕ) → (q ≡ p → ⊥) → put p w f q ≡ f q
put_here p w f q n = grind (arith, tests)

-- a call that isn't a word: it hasn't had its moment
module _ (p : ℕ) (c : Call) (k : Kern) (z : Standing p c k) (s : State) (d : DeskIs (k.cell 2) k.screen k.keys k.pending s) where
  pub even_here : NotSay c → k.at ≡ 2 → eqb (length k.screen) (shown_in (k.cell 2)) ≡ true
  even_here n y = even_other (k.cell 2) k.screen k.keys k.pending s p z.number c d (subst (λ σ. sweep (k.cell σ) ≡ p) y z.at) z.pend n

  pub under_even : (k.at ≡ 2 → eqb (length k.screen) (shown_in (k.cell 2)) ≡ true) → (g : ℕ) → Before k p c g s → s.now' p ≡ Under c g
  under_even e g b =
      b ∙ is_under c g _
      (⊎_elim
      (λ (y : server_of c ≡ 2). even_ahead (server_of c) p (sweep (k.cell 2)) (shown_in (k.cell 2)) (length k.screen) (e (sym z.here ∙ y)))
      (λ y. ahead_not (server_of c) p (sweep (k.cell 2)) (shown_in (k.cell 2)) (length k.screen) y) (cases_eq (server_of c) 2))

  -- the desk as it is
  pub shut_same : (k.at ≡ 2 → eqb (length k.screen) (shown_in (k.cell 2)) ≡ true) → (f : ℕ → ℕ → ℕ) → f 2 52 ≡ k.cell 2 52 → f 2 53 ≡ k.cell 2 53 → f 2 54 ≡ k.cell 2 54 → (t : State) → t.owner ≡ s.owner → t.heard ≡ s.heard → t.keys ≡ s.keys → t.screen ≡ s.screen → Shut (f 2) k.at k.screen k.keys (k.cell 2) t
  shut_same e f x y w t a b u v =
      record {
        owns = a ∙ (d.owns ∙ sym x);
        hears = b ∙ (d.hears ∙ sym w);
        typed = u ∙ d.typed;
        shows = v ∙ d.shows;
        places = λ q. eqb-true (length k.screen) (shown_in (k.cell 2)) (e q) ∙ sym y;
        same = λ _. (x, y);
        few = omega arith;
      }

-- a refusal: nothing is written
refused : (p : ℕ) (c : Call) (m : ℕ) (k : Kern) (es : List Event) → Standing p c k → T (can c) → ((s : State) → DeskIs (k.cell 2) k.screen k.keys k.pending s → k.at ≡ 2 → eqb (length k.screen) (shown_in (k.cell 2)) ≡ true) →
    ((s : State) → Run can es s → DeskIs (k.cell 2) k.screen k.keys k.pending s → FilesAre (k.cell 1) s.file s.hand → (does 0 s p c ≡ Gives (No m) s) × (waits_in s p c ≡ false)) → Decided p c (No m) [] k es
unfolding kept_all Within
refused p c m k es z b even h =
    record {
      few = omega arith;
      within = tt;
      apart = tt;
      moves = λ s r w d f g e.
          (let u = under_even p c k z s d (even s d) g e in
          let v = h s r d f in
          record {
            t = set_now p (Over c (No m) g) s;
            run = refuses p 0 r u b v.0;
            over = set_same p (Over c (No m) g) s.now';
            others = λ q n. put_here p (Over c (No m) g) s.now' q n;
            procs = λ q. refl;
            ons = λ q. refl;
            ready = v.1;
            desk = shut_same p c k z s d (even s d) k.cell refl refl refl (set_now p (Over c (No m) g) s) refl refl refl refl;
            files = f;
          });
    }

-- a call that isn't built
no_children : (s : State) (p q : ℕ) → s.proc q ≡ cond (eqb q 1) (Living 1 true) Nobody → child_of s p q ≡ false
unfolding nobody
no_children s p q e = grind (arith, tests)

not_waits : (runs : ℕ → Bool) (s : State) (p : ℕ) (c : Call) → Who runs s → T (not (can c)) → waits_in s p c ≡ false
unfolding waits_in core
not_waits runs s p (Spawn n) w t = refl
not_waits runs s p (Exit n) w t = refl
not_waits runs s p Wait w t = ap (λ b. b && not (some' 64 (λ (q : ℕ). child_of s p q && Rattle.heal.specs.House.dead (s.proc q)))) (some_none 64 (child_of s p) (λ q l. no_children s p q (w.procs q)))
not_waits runs s p (Kill n) w t = refl
not_waits runs s p (Open n v) w t = refl
not_waits runs s p (Close n) w t = refl
not_waits runs s p (Read n m) w t = refl
not_waits runs s p (Write n m y) w t = refl
not_waits runs s p (Remove n) w t = refl
not_waits runs s p Take w t = refl
not_waits runs s p Leave w t = refl
not_waits runs s p (Say y) w t = refl
not_waits runs s p Hear w t = absurd t

not_say : (c : Call) → T (not (can c)) → NotSay c
unfolding core
not_say c t x e = let z = subst (λ d. T (not (core d))) e t in z

pub not_built_lem : (p : ℕ) (c : Call) (k : Kern) (es : List Event) → Standing p c k → T (not (can c)) → Decided p c (No 14) [] k es
unfolding kept_all Within
not_built_lem p c k es z b =
    record {
      few = omega arith;
      within = tt;
      apart = tt;
      moves = λ s r w d f g e.
          (let ev = even_here p c k z s d (not_say c b) in
          let u = under_even p c k z s d ev g e in
          record {
            t = set_now p (Over c (No 14) g) s;
            run = not_built p r u b;
            over = set_same p (Over c (No 14) g) s.now';
            others = λ q n. put_here p (Over c (No 14) g) s.now' q n;
            procs = λ q. refl;
            ons = λ q. refl;
            ready = not_waits k.runs s p c w b;
            desk = shut_same p c k z s d ev k.cell refl refl refl (set_now p (Over c (No 14) g) s) refl refl refl refl;
            files = f;
          });
    }

-- a moment that writes
pub record Act (p : ℕ) (c : Call) (ans : Answer) (k : Kern) (f : ℕ → ℕ → ℕ) (s : State) : Type 0 where
  pub t : State
  pub gives : does 0 s p c ≡ Gives ans t
  pub procs : t.proc ≡ s.proc
  pub ons : t.on ≡ s.on
  pub nows : t.now' ≡ s.now'
  pub ready : waits_in s p c ≡ false
  pub desk : Shut (f 2) k.at k.screen k.keys (k.cell 2) t
  pub files : FilesAre (f 1) t.file t.hand

acted : (p : ℕ) (c : Call) (ans : Answer) (ps : List (ℕ × ℕ)) (k : Kern) (es : List Event) → Standing p c k → T (can c) → NotSay c → ((s : State) → T (fits 0 s p c)) → T (not (ends p c)) → length ps ≤ 3 → Within (cells_of k.at) ps → Apart ps →
    ((s : State) → Run can es s → DeskIs (k.cell 2) k.screen k.keys k.pending s → FilesAre (k.cell 1) s.file s.hand → Act p c ans k (kept_all ps k).cell s) → Decided p c ans ps k es
acted p c ans ps k es z b n fi en l wi ap' h =
    record {
      few = l;
      within = wi;
      apart = ap';
      moves = λ s r w d f g e.
          (let u = under_even p c k z s d (even_here p c k z s d n) g e in
          let v = h s r d f in
          record {
            t = set_now p (Over c ans g) v.t;
            run = acts p 0 r u b (fi s) en v.gives;
            over = set_same p (Over c ans g) v.t.now';
            others = λ q m. put_here p (Over c ans g) v.t.now' q m ∙ ap (λ f. f q) v.nows;
            procs = λ q. ap (λ f. f q) v.procs;
            ons = λ q. ap (λ f. f q) v.ons;
            ready = v.ready;
            desk = (let x = v.desk in record { owns = x.owns; hears = x.hears; typed = x.typed; shows = x.shows; places = x.places; same = x.same; few = x.few });
            files = v.files;
          });
    }

-- cells after one, two or three writes
one_here : (k : Kern) (c x : ℕ) → (kept c x k).cell k.at c ≡ x
one_here k c x = grind (arith, tests)

one_else : (k : Kern) (c x σ j : ℕ) → (j ≡ c → ⊥) → (kept c x k).cell σ j ≡ k.cell σ j
one_else k c x σ j n = grind (arith, tests)

one_away : (k : Kern) (c x σ j : ℕ) → (σ ≡ k.at → ⊥) → (kept c x k).cell σ j ≡ k.cell σ j
one_away k c x σ j n = grind (arith, tests)

own_cell : (j : ℕ) → (48 ≤ j) × (j < 64) → Common j → ⊥
own_cell j h c = grind arith

far_cell : (j : ℕ) → 512 ≤ j → Common j → ⊥
far_cell j h c = grind arith

in_desk : (σ j : ℕ) → j < 64 → j + 17 < cells_of σ
in_desk σ j h = grind (arith, tests)

pub in_files : (σ j : ℕ) → σ ≡ 1 → j < 65000 → j + 17 < cells_of σ
in_files σ j e h = grind (arith, tests)

-- keys
none_left : (n : ℕ) (ks : List ℕ) → key_at n ks ≡ None → length ks ≤ n
unfolding key_at
none_left n [] e = omega arith
none_left zero (x ∷ ks) e = let z : ◌≡◌ {A = ℕ} 0 1 = cc in absurd (omega arith)
none_left (suc n) (x ∷ ks) e = let r = none_left n ks e in omega arith

key_left : (n : ℕ) (ks : List ℕ) (x : ℕ) → key_at n ks ≡ Some x → (n < length ks) × (get_or ks n 0 ≡ x)
unfolding key_at
key_left n [] x e = let z : ◌≡◌ {A = ℕ} 0 1 = cc in absurd (omega arith)
key_left zero (y ∷ ks) x e = (omega arith, cc)
key_left (suc n) (y ∷ ks) x e = let r = key_left n ks x e in (omega (arith, r.0), r.1)

ahead_one : (p shown len n : ℕ) → shown ≡ n → len ≡ n + 1 → ahead 2 p p shown len ≡ true
unfolding ahead
ahead_one p shown len n e f = grind (arith, tests)

-- the calls that are refused to all but the desk's owner
pub data OwnersCall : Call → Type 0 where
  leaves : OwnersCall Leave
  says : (x : ℕ) → OwnersCall (Say x)
  hears : OwnersCall Hear

owners_built : {c : Call} → OwnersCall c → T (can c)
unfolding core
owners_built leaves = tt
owners_built (says x) = tt
owners_built hears = tt

-- the desk
module _ (p : ℕ) (k : Kern) (es : List Event) (two : k.at ≡ 2) where
  write_own : (j x : ℕ) → (kept j x k).cell 2 j ≡ x
  write_own j x = subst (λ σ. (kept j x k).cell σ j ≡ x) two (one_here k j x)

  files_kept : (s : State) (j x : ℕ) → FilesAre (k.cell 1) s.file s.hand → FilesAre ((kept j x k).cell 1) s.file s.hand
  files_kept s j x f = files_same (k.cell 1) ((kept j x k).cell 1) s.file s.hand (λ i _. one_away k j x 1 i (λ e. (let z : ◌≡◌ {A = ℕ} 1 2 = e ∙ two in omega arith))) f

  even_len : (c : Call) → Standing p c k → NotSay c → (s : State) → DeskIs (k.cell 2) k.screen k.keys k.pending s → length k.screen ≡ shown_in (k.cell 2)
  even_len c z n s d = eqb-true (length k.screen) (shown_in (k.cell 2)) (even_here p c k z s d n two)

  not_take : NotSay Take
  not_take x e = let z : ◌≡◌ {A = ℕ} 0 1 = cc in omega arith

  not_leave : NotSay Leave
  not_leave x e = let z : ◌≡◌ {A = ℕ} 0 1 = cc in omega arith

  not_hear : NotSay Hear
  not_hear x e = let z : ◌≡◌ {A = ℕ} 0 1 = cc in omega arith

  -- no word is ahead of another than the owner
  even_apart : (c : Call) → Standing p c k → (owner_in (k.cell 2) ≡ p → ⊥) → (s : State) → DeskIs (k.cell 2) k.screen k.keys k.pending s → eqb (length k.screen) (shown_in (k.cell 2)) ≡ true
  even_apart c z n s d = by (eqb (length k.screen) (shown_in (k.cell 2))) d.places
    where
      by : (b : Bool) → (b ≡ false → Early (k.cell 2) (length k.screen) k.pending) → b ≡ true
      by true f = refl
      by false f = let e = f refl in absurd (n (e.own ∙ subst (λ σ. sweep (k.cell σ) ≡ p) two z.at))

  turned : {c : Call} → OwnersCall c → (s : State) → eqb s.owner p ≡ false → (does 0 s p c ≡ Gives (No 9) s) × (waits_in s p c ≡ false)
  unfolding does waits_in
  turned leaves s e = (rw e, refl)
  turned (says x) s e = (rw e, refl)
  turned hears s e = (rw e, rw e)

  -- the desk isn't p's own
  pub not_own : {c : Call} → OwnersCall c → Standing p c k → (owner_in (k.cell 2) ≡ p → ⊥) → Decided p c (No 9) [] k es
  not_own {c = c} w z n = refused p c 9 k es z (owners_built w) (λ s d _. even_apart c z n s d) (λ s r d f. turned w s (not_equal s.owner p (λ e. n (sym d.owns ∙ e))))
    where
      not_equal : (o p : ℕ) → (o ≡ p → ⊥) → eqb o p ≡ false
      not_equal o p n = grind (arith, tests)

  -- the desk is another's
  pub take_no9 : Standing p Take k → (owner_in (k.cell 2) ≡ 0 → ⊥) → (owner_in (k.cell 2) ≡ p → ⊥) → Decided p Take (No 9) [] k es
  unfolding core does waits_in
  take_no9 z a b = refused p Take 9 k es z tt (λ s d. even_here p Take k z s d not_take) (λ s r d f. (let e = d.owns in (owner_no s.owner (owner_in (k.cell 2)) p s e a b, refl)))
    where
      owner_no : (o w p : ℕ) (s : State) → o ≡ w → (w ≡ 0 → ⊥) → (w ≡ p → ⊥) → cond (eqb o 0 || eqb o p) (Gives Done (set_desk p s.screen s.keys s.heard s)) (Gives (No 9) s) ≡ Gives (No 9) s
      owner_no o w p s e a b = grind (arith, tests)

  -- the desk goes to w, if not to nobody
  owner_written : (c : Call) (w : ℕ) → Standing p c k → T (can c) → NotSay c → ((s : State) → T (fits 0 s p c)) → T (not (ends p c)) → ((s : State) → DeskIs (k.cell 2) k.screen k.keys k.pending s → (does 0 s p c ≡ Gives Done (set_desk w s.screen s.keys s.heard s)) × (waits_in s p c ≡ false)) → Decided p c Done ((52, w) ∷ []) k es
  unfolding kept_all Within
  owner_written c w z b n fi en h =
      acted p c Done ((52, w) ∷ []) k es z b n fi en (omega arith) (in_desk k.at 52 (omega arith), tt) (own_cell 52 (omega arith, omega arith), tt)
      (λ s r d f.
      record {
        t = set_desk w s.screen s.keys s.heard s;
        gives = (h s d).0;
        procs = refl;
        ons = refl;
        nows = refl;
        ready = (h s d).1;
        desk = record {
          owns = sym (write_own 52 w);
          hears = d.hears ∙ sym (one_else k 52 w 2 54 (λ e. omega arith));
          typed = d.typed;
          shows = d.shows;
          places = λ _. even_len c z n s d ∙ sym (one_else k 52 w 2 53 (λ e. omega arith));
          same = λ y. absurd (y two);
          few = (let a = one_else k 52 w 2 53 (λ e. omega arith) in let b = one_else k 52 w 2 54 (λ e. omega arith) in omega arith);
        };
        files = files_kept s 52 w f;
      })

  pub take_done : Standing p Take k → (owner_in (k.cell 2) ≡ 0) ⊎ (owner_in (k.cell 2) ≡ p) → Decided p Take Done ((52, p) ∷ []) k es
  unfolding core does fits ends waits_in
  take_done z o = owner_written Take p z tt not_take (λ s. tt) tt (λ s d. (owner_yes s.owner (owner_in (k.cell 2)) p s d.owns o, refl))
    where
      owner_yes : (o w p : ℕ) (s : State) → o ≡ w → (w ≡ 0) ⊎ (w ≡ p) → cond (eqb o 0 || eqb o p) (Gives Done (set_desk p s.screen s.keys s.heard s)) (Gives (No 9) s) ≡ Gives Done (set_desk p s.screen s.keys s.heard s)
      owner_yes o w p s e h = grind (arith, tests)

  pub leave_done : Standing p Leave k → owner_in (k.cell 2) ≡ p → Decided p Leave Done ((52, 0) ∷ []) k es
  unfolding core does fits ends waits_in
  leave_done z o = owner_written Leave 0 z tt not_leave (λ s. tt) tt (λ s d. (owner_yes s.owner (owner_in (k.cell 2)) p s d.owns o, refl))
    where
      owner_yes : (o w p : ℕ) (s : State) → o ≡ w → w ≡ p → cond (eqb o p) (Gives Done (set_desk 0 s.screen s.keys s.heard s)) (Gives (No 9) s) ≡ Gives Done (set_desk 0 s.screen s.keys s.heard s)
      owner_yes o w p s e h = grind (arith, tests)

  -- a key, or none
  pub hear_waits : Standing p Hear k → owner_in (k.cell 2) ≡ p → key_at (heard_in (k.cell 2)) k.keys ≡ None → (b : ℕ → ℕ) (i : Inv b k es) → waits_in i.0 p Hear ≡ true
  unfolding waits_in
  hear_waits z o h b i = (let d = i.2.desk in waits_at i.0.owner p (length i.0.keys) i.0.heard (d.owns ∙ o) (subst₂ (λ ks n. length ks ≤ n) (sym d.typed) (sym d.hears) (none_left (heard_in (k.cell 2)) k.keys h)))
    where
      waits_at : (o p l h : ℕ) → o ≡ p → l ≤ h → (eqb o p && leb l h) ≡ true
      waits_at o p l h e f = grind (arith, tests)

  pub hear_done : (n x : ℕ) → Standing p Hear k → owner_in (k.cell 2) ≡ p → heard_in (k.cell 2) ≡ n → key_at n k.keys ≡ Some x → Decided p Hear (Word x) ((54, n + 1) ∷ []) k es
  unfolding core does fits ends waits_in kept_all Within
  hear_done n x z o hn h =
      acted p Hear (Word x) ((54, n + 1) ∷ []) k es z tt not_hear (λ s. tt) tt (omega arith) (in_desk k.at 54 (omega arith), tt) (own_cell 54 (omega arith, omega arith), tt)
      (λ s r d f.
      (let kk = key_left n k.keys x h in
      let he : s.heard ≡ n = d.hears ∙ hn in
      let lt : s.heard < length s.keys = subst₂ (λ m ks. m < length ks) (sym he) (sym d.typed) kk.0 in
      let wd : get_or s.keys s.heard 0 ≡ x = (λ j. get_or (d.typed j) (he j) 0) ∙ kk.1 in
      record {
        t = set_desk s.owner s.screen s.keys (s.heard + 1) s;
        gives = hears_at s.owner p (length s.keys) s.heard (get_or s.keys s.heard 0) x s (d.owns ∙ o) lt wd;
        procs = refl;
        ons = refl;
        nows = refl;
        ready = ready_at s.owner p (length s.keys) s.heard lt;
        desk = record {
          owns = d.owns ∙ sym (one_else k 54 (n + 1) 2 52 (λ e. omega arith));
          hears = ap (λ m. m + 1) he ∙ sym (write_own 54 (n + 1));
          typed = d.typed;
          shows = d.shows;
          places = λ _. even_len Hear z not_hear s d ∙ sym (one_else k 54 (n + 1) 2 53 (λ e. omega arith));
          same = λ y. absurd (y two);
          few = (let a = one_else k 54 (n + 1) 2 53 (λ e. omega arith) in let b = write_own 54 (n + 1) in grow k.at _ _ _ _ n two a b hn);
        };
        files = files_kept s 54 (n + 1) f;
      }))
    where
      hears_at : (o p l h w x : ℕ) (s : State) → o ≡ p → h < l → w ≡ x → cond (not (eqb o p)) (Gives (No 9) s) (cond (leb l h) Waits (Gives (Word w) (set_desk o s.screen s.keys (h + 1) s))) ≡ Gives (Word x) (set_desk o s.screen s.keys (h + 1) s)
      hears_at o p l h w x s e f g = grind (arith, tests)

      ready_at : (o p l h : ℕ) → h < l → (eqb o p && leb l h) ≡ false
      ready_at o p l h f = grind (arith, tests)

      grow : (s a b c d n : ℕ) → s ≡ 2 → a ≡ c → b ≡ n + 1 → d ≡ n → a + b ≤ c + d + cond (eqb s 2) 1 0
      grow s a b c d n e x y z = grind (arith, tests)

  -- it's on the screen: the cells say so too
  pub say_done : (n x : ℕ) → Standing p (Say x) k → owner_in (k.cell 2) ≡ p → shown_in (k.cell 2) ≡ n → length k.screen ≡ n + 1 → Decided p (Say x) Done ((53, n + 1) ∷ []) k es
  unfolding kept_all Within waits_in server_of
  say_done n x z o hn ln =
      record {
        few = omega arith;
        within = (in_desk k.at 53 (omega arith), tt);
        apart = (own_cell 53 (omega arith, omega arith), tt);
        moves = λ s r w d f g e.
            record {
              t = s;
              run = r;
              over = e ∙ ap (λ b. cond b (Over (Say x) Done g) (Under (Say x) g)) (ap (λ a. ahead 2 p a (shown_in (k.cell 2)) (length k.screen)) (subst (λ σ. sweep (k.cell σ) ≡ p) two z.at) ∙ ahead_one p (shown_in (k.cell 2)) (length k.screen) n hn ln);
              others = λ q m. refl;
              procs = λ q. refl;
              ons = λ q. refl;
              ready = refl;
              desk = record {
                owns = d.owns ∙ sym (one_else k 53 (n + 1) 2 52 (λ e. omega arith));
                hears = d.hears ∙ sym (one_else k 53 (n + 1) 2 54 (λ e. omega arith));
                typed = d.typed;
                shows = d.shows;
                places = λ _. ln ∙ sym (write_own 53 (n + 1));
                same = λ y. absurd (y two);
                few = (let a = write_own 53 (n + 1) in let b = one_else k 53 (n + 1) 2 54 (λ e. omega arith) in grow k.at _ _ _ _ n two a b hn);
              };
              files = files_kept s 53 (n + 1) f;
            };
      }
    where
      grow : (s a b c d n : ℕ) → s ≡ 2 → a ≡ n + 1 → b ≡ d → c ≡ n → a + b ≤ c + d + cond (eqb s 2) 1 0
      grow s a b c d n e x y z = grind (arith, tests)

away_two : (s a b x y z : ℕ) (j : ℕ) → s ≡ 1 → cond (eqb 2 s && eqb j a) x (cond (eqb 2 s && eqb j b) y z) ≡ z
away_two s a b x y z j e = grind (arith, tests)

away_three : (s a b c x y w z j : ℕ) → s ≡ 1 → cond (eqb 2 s && eqb j a) x (cond (eqb 2 s && eqb j b) y (cond (eqb 2 s && eqb j c) w z)) ≡ z
away_three s a b c x y w z j e = grind (arith, tests)

third_same : (a b c v y z : ℕ) (d : ℕ → ℕ) (j : ℕ) → (v ≡ 0 → ⊥) → d a ≡ v → (a ≡ b → ⊥) → (a ≡ c → ⊥) → set b y (set c z d) j ≡ set a (cond (eqb v 0) 1 v) (set b y (set c z d)) j
third_same a b c v y z d j n e f g = ⊎_elim (λ (q : j ≡ a). subst (λ i. set b y (set c z d) i ≡ set a (cond (eqb v 0) 1 v) (set b y (set c z d)) i) (sym q) (at_a (eqb a b) (eqb a c) (d a) v y z a b c n e f g)) (λ q. off_a a j _ _ q) (cases_eq j a)
  where
    at_a : (p q : Bool) (x v y z a b c : ℕ) → (v ≡ 0 → ⊥) → x ≡ v → (a ≡ b → ⊥) → (a ≡ c → ⊥) → cond (eqb a b) y (cond (eqb a c) z x) ≡ cond (eqb a a) (cond (eqb v 0) 1 v) (cond (eqb a b) y (cond (eqb a c) z x))
    at_a p q x v y z a b c n e f g = grind (arith, tests)

    off_a : (a j x w : ℕ) → (j ≡ a → ⊥) → w ≡ cond (eqb j a) x w
    off_a a j x w q = grind (arith, tests)

-- the files
module _ (p : ℕ) (k : Kern) (es : List Event) (one : k.at ≡ 1) where
  not_two : k.at ≡ 2 → ⊥
  not_two e = let z : ◌≡◌ {A = ℕ} 1 2 = sym one ∙ e in omega arith

  desk_kept : (c : Call) (z : Standing p c k) (ps : List (ℕ × ℕ)) (s t : State) → DeskIs (k.cell 2) k.screen k.keys k.pending s → ((j : ℕ) → (kept_all ps k).cell 2 j ≡ k.cell 2 j) → t.owner ≡ s.owner → t.heard ≡ s.heard → t.keys ≡ s.keys → t.screen ≡ s.screen → Shut ((kept_all ps k).cell 2) k.at k.screen k.keys (k.cell 2) t
  desk_kept c z ps s t d h a b u v = shut_same p c k z s d (λ y. absurd (not_two y)) (kept_all ps k).cell (h 52) (h 53) (h 54) t a b u v

  far : (j x : ℕ) (i : ℕ) → (kept j x k).cell 2 i ≡ k.cell 2 i
  far j x i = one_away k j x 2 i (λ e. not_two (sym e))

  -- refusals
  no_file : (c : Call) (m : ℕ) → Standing p c k → T (can c) → ((s : State) → waits_in s p c ≡ false) → ((s : State) → Lawful s → FilesAre (k.cell 1) s.file s.hand → does 0 s p c ≡ Gives (No m) s) → Decided p c (No m) [] k es
  no_file c m z b w h = refused p c m k es z b (λ s d y. absurd (not_two y)) (λ s r d f. (h s (lawful can es s r) f, w s))

  set_one : (c x j : ℕ) → (kept c x k).cell 1 j ≡ set c x (k.cell 1) j
  set_one c x j = set_at (k.cell 1 j) x c j k.at one
    where
      set_at : (y x c j s : ℕ) → s ≡ 1 → cond (eqb 1 s && eqb j c) x y ≡ cond (eqb j c) x y
      set_at y x c j s e = grind (arith, tests)

  set_two : (c x d y j : ℕ) → (kept d y (kept c x k)).cell 1 j ≡ set d y (set c x (k.cell 1)) j
  set_two c x d y j = set_at (k.cell 1 j) x c y d j k.at one
    where
      set_at : (z x c y d j s : ℕ) → s ≡ 1 → cond (eqb 1 s && eqb j d) y (cond (eqb 1 s && eqb j c) x z) ≡ cond (eqb j d) y (cond (eqb j c) x z)
      set_at z x c y d j s e = grind (arith, tests)

  set_three : (c x d y f w j : ℕ) → (kept f w (kept d y (kept c x k))).cell 1 j ≡ set f w (set d y (set c x (k.cell 1))) j
  set_three c x d y f w j = set_at (k.cell 1 j) x c y d w f j k.at one
    where
      set_at : (z x c y d w f j s : ℕ) → s ≡ 1 → cond (eqb 1 s && eqb j f) w (cond (eqb 1 s && eqb j d) y (cond (eqb 1 s && eqb j c) x z)) ≡ cond (eqb j f) w (cond (eqb j d) y (cond (eqb j c) x z))
      set_at z x c y d w f j s e = grind (arith, tests)

  -- a moment of the files, by what it does
  file_act : (c : Call) (ans : Answer) (ps : List (ℕ × ℕ)) → Standing p c k → T (can c) → NotSay c → ((s : State) → T (fits 0 s p c)) → T (not (ends p c)) → ((s : State) → waits_in s p c ≡ false) → length ps ≤ 3 → Within (cells_of k.at) ps → Apart ps → ((j : ℕ) → (kept_all ps k).cell 2 j ≡ k.cell 2 j) →
      ((s : State) → Lawful s → FilesAre (k.cell 1) s.file s.hand → (t : State) × (does 0 s p c ≡ Gives ans t) × (t.proc ≡ s.proc) × (t.on ≡ s.on) × (t.now' ≡ s.now') × (t.owner ≡ s.owner) × (t.screen ≡ s.screen) × (t.keys ≡ s.keys) × (t.heard ≡ s.heard) × FilesAre ((kept_all ps k).cell 1) t.file t.hand) → Decided p c ans ps k es
  file_act c ans ps z b n fi en w l wi ap' h g =
      acted p c ans ps k es z b n fi en l wi ap'
      (λ s r d f. (let v = g s (lawful can es s r) f in record { t = v.0; gives = v.1; procs = v.2; ons = v.3; nows = v.4; ready = w s; desk = desk_kept c z ps s v.0 d h v.5 v.8 v.7 v.6; files = v.9 }))

  module _ (small : p < 64) where
    abbrev D : ℕ → ℕ
    D = k.cell 1

    pub open_1 : (n : ℕ) (w : Bool) → Standing p (Open n w) k → 64 ≤ n → Decided p (Open n w) (No 1) [] k es
    unfolding core waits_in
    open_1 n w z h = no_file (Open n w) 1 z tt (λ s. refl) (λ s l f. open_no1 0 p s D small l f n w h)

    pub open_2 : (n : ℕ) (w : Bool) → Standing p (Open n w) k → n < 64 → D (size_at n) ≡ 0 → w ≡ false → Decided p (Open n w) (No 2) [] k es
    unfolding core waits_in
    open_2 n w z h a b = no_file (Open n w) 2 z tt (λ s. refl) (λ s l f. open_no2 0 p s D small l f n w h a b)

    pub open_8 : (n : ℕ) (w : Bool) → Standing p (Open n w) k → n < 64 → (D (size_at n) ≡ 0 → ⊥) ⊎ (w ≡ true) → ((w ≡ true) × (D (users_at n) ≡ 0 → ⊥)) ⊎ ((w ≡ false) × (D (users_at n) ≡ 1)) → Decided p (Open n w) (No 8) [] k es
    unfolding core waits_in
    open_8 n w z h a b = no_file (Open n w) 8 z tt (λ s. refl) (λ s l f. open_no8 0 p s D small l f n w h a b)

    pub open_13 : (n : ℕ) (w : Bool) → Standing p (Open n w) k → n < 64 → (D (size_at n) ≡ 0 → ⊥) ⊎ (w ≡ true) → ((w ≡ true) × (D (users_at n) ≡ 0)) ⊎ ((w ≡ false) × (D (users_at n) ≡ 1 → ⊥)) → ((i : ℕ) → i < 8 → D (hand_at p i) ≡ 0 → ⊥) → Decided p (Open n w) (No 13) [] k es
    unfolding core waits_in
    open_13 n w z h a b c = no_file (Open n w) 13 z tt (λ s. refl) (λ s l f. open_no13 0 p s D small l f n w h a b c)

    pub open_yes : (n : ℕ) (w : Bool) (e u v : ℕ) → Standing p (Open n w) k → n < 64 → D (users_at n) ≡ u → D (size_at n) ≡ v → (v ≡ 0 → ⊥) ⊎ (w ≡ true) → ((w ≡ true) × (u ≡ 0)) ⊎ ((w ≡ false) × (u ≡ 1 → ⊥)) → e < 8 → D (hand_at p e) ≡ 0 → ((i : ℕ) → i < e → D (hand_at p i) ≡ 0 → ⊥) →
        Decided p (Open n w) (Handle e) ((hand_at p e, 1 + 2 * n + cond w 1 0) ∷ (users_at n, cond w 1 (cond (eqb u 0) 2 (u + 1))) ∷ (size_at n, cond (eqb v 0) 1 v) ∷ []) k es
    unfolding core waits_in fits ends kept_all Within
    open_yes n w e u v z h a b c d le g i =
        file_act (Open n w) (Handle e) _ z tt (λ x q. (let y : ◌≡◌ {A = ℕ} 0 1 = cc in omega arith)) (λ s. tt) tt (λ s. refl) (omega arith)
        (in_files k.at (hand_at p e) one (omega arith), (in_files k.at (users_at n) one (omega arith), (in_files k.at (size_at n) one (omega arith), tt)))
        (far_cell (hand_at p e) (omega arith), (far_cell (users_at n) (omega arith), (far_cell (size_at n) (omega arith), tt)))
        (λ j. three_away j)
        (λ s l f. (let y = open_done 0 p s D small l f n w e u v h a b c d le g i in
        (opened_by p e n w s, y.0, refl, refl, refl, refl, refl, refl, refl, files_same (open_cells p e n w u v D) _ _ _ (λ j _. set_three (hand_at p e) (1 + 2 * n + cond w 1 0) (users_at n) (cond w 1 (cond (eqb u 0) 2 (u + 1))) (size_at n) (cond (eqb v 0) 1 v) j) y.1)))
      where
        three_away : (j : ℕ) → (kept (size_at n) (cond (eqb v 0) 1 v) (kept (users_at n) (cond w 1 (cond (eqb u 0) 2 (u + 1))) (kept (hand_at p e) (1 + 2 * n + cond w 1 0) k))).cell 2 j ≡ k.cell 2 j
        three_away j = away_three k.at (size_at n) (users_at n) (hand_at p e) (cond (eqb v 0) 1 v) (cond w 1 (cond (eqb u 0) 2 (u + 1))) (1 + 2 * n + cond w 1 0) (k.cell 2 j) j one

    -- where the file is there, its size stays
    pub open_have : (n : ℕ) (w : Bool) (e u v : ℕ) → Standing p (Open n w) k → n < 64 → D (users_at n) ≡ u → D (size_at n) ≡ v → (v ≡ 0 → ⊥) → ((w ≡ true) × (u ≡ 0)) ⊎ ((w ≡ false) × (u ≡ 1 → ⊥)) → e < 8 → D (hand_at p e) ≡ 0 → ((i : ℕ) → i < e → D (hand_at p i) ≡ 0 → ⊥) →
        Decided p (Open n w) (Handle e) ((hand_at p e, 1 + 2 * n + cond w 1 0) ∷ (users_at n, cond w 1 (cond (eqb u 0) 2 (u + 1))) ∷ []) k es
    unfolding core waits_in fits ends kept_all Within
    open_have n w e u v z h a b c d le g i =
        file_act (Open n w) (Handle e) _ z tt (λ x q. (let y : ◌≡◌ {A = ℕ} 0 1 = cc in omega arith)) (λ s. tt) tt (λ s. refl) (omega arith)
        (in_files k.at (hand_at p e) one (omega arith), (in_files k.at (users_at n) one (omega arith), tt))
        (far_cell (hand_at p e) (omega arith), (far_cell (users_at n) (omega arith), tt))
        (λ j. away_two k.at (users_at n) (hand_at p e) (cond w 1 (cond (eqb u 0) 2 (u + 1))) (1 + 2 * n + cond w 1 0) (k.cell 2 j) j one)
        (λ s l f. (let y = open_done 0 p s D small l f n w e u v h a b (inl c) d le g i in
        (opened_by p e n w s, y.0, refl, refl, refl, refl, refl, refl, refl, files_same (open_cells p e n w u v D) _ _ _ (λ j _. set_two (hand_at p e) (1 + 2 * n + cond w 1 0) (users_at n) (cond w 1 (cond (eqb u 0) 2 (u + 1))) j ∙ size_same j) y.1)))
      where
        size_same : (j : ℕ) → set (users_at n) (cond w 1 (cond (eqb u 0) 2 (u + 1))) (set (hand_at p e) (1 + 2 * n + cond w 1 0) D) j ≡ open_cells p e n w u v D j
        size_same j = third_same (size_at n) (users_at n) (hand_at p e) v (cond w 1 (cond (eqb u 0) 2 (u + 1))) (1 + 2 * n + cond w 1 0) D j c b (λ q. omega arith) (λ q. omega arith)

    pub close_4 : (h : ℕ) → Standing p (Close h) k → (8 ≤ h) ⊎ (D (hand_at p h) ≡ 0) → Decided p (Close h) (No 4) [] k es
    unfolding core waits_in
    close_4 h z a = no_file (Close h) 4 z tt (λ s. refl) (λ s l f. close_no4 0 p s D small l f h a)

    pub close_yes : (h v u : ℕ) → Standing p (Close h) k → h < 8 → D (hand_at p h) ≡ v → (v ≡ 0 → ⊥) → name_in v < 64 → D (users_at (name_in v)) ≡ u → Decided p (Close h) Done ((hand_at p h, 0) ∷ (users_at (name_in v), cond (writes_in v) 0 (cond (eqb u 2) 0 (u - 1))) ∷ []) k es
    unfolding core waits_in fits ends kept_all Within
    close_yes h v u z a b c nm d =
        file_act (Close h) Done _ z tt (λ x q. (let y : ◌≡◌ {A = ℕ} 0 1 = cc in omega arith)) (λ s. tt) tt (λ s. refl) (omega arith)
        (in_files k.at (hand_at p h) one (omega arith), (in_files k.at (users_at (name_in v)) one (omega arith), tt))
        (far_cell (hand_at p h) (omega arith), (far_cell (users_at (name_in v)) (omega arith), tt))
        (λ j. away_two k.at (users_at (name_in v)) (hand_at p h) (cond (writes_in v) 0 (cond (eqb u 2) 0 (u - 1))) 0 (k.cell 2 j) j one)
        (λ s l f. (let y = close_done 0 p s D small l f h v u a b c d in
        (give_hand p h Empty s, y.0, refl, refl, refl, refl, refl, refl, refl, files_same (close_cells p h v u D) _ _ _ (λ j _. set_two (hand_at p h) 0 (users_at (name_in v)) (cond (writes_in v) 0 (cond (eqb u 2) 0 (u - 1))) j) y.1)))

    pub read_4 : (h a : ℕ) → Standing p (Read h a) k → (8 ≤ h) ⊎ (D (hand_at p h) ≡ 0) → Decided p (Read h a) (No 4) [] k es
    unfolding core waits_in
    read_4 h a z b = no_file (Read h a) 4 z tt (λ s. refl) (λ s l f. read_no4 0 p s D small l f h a b)

    pub read_5 : (h a v : ℕ) → Standing p (Read h a) k → h < 8 → D (hand_at p h) ≡ v → (v ≡ 0 → ⊥) → D (size_at (name_in v)) ≤ a + 1 → Decided p (Read h a) (No 5) [] k es
    unfolding core waits_in
    read_5 h a v z b c d e = no_file (Read h a) 5 z tt (λ s. refl) (λ s l f. read_no5 0 p s D small l f h a v b c d e)

    pub read_yes : (h a v x : ℕ) → Standing p (Read h a) k → h < 8 → D (hand_at p h) ≡ v → (v ≡ 0 → ⊥) → a + 1 < D (size_at (name_in v)) → D (word_at (name_in v) a) ≡ x → Decided p (Read h a) (Word x) [] k es
    unfolding core waits_in fits ends kept_all Within
    read_yes h a v x z b c d e w =
        file_act (Read h a) (Word x) [] z tt (λ y q. (let y : ◌≡◌ {A = ℕ} 0 1 = cc in omega arith)) (λ s. tt) tt (λ s. refl) (omega arith) tt tt (λ j. refl)
        (λ s l f. (s, read_done 0 p s D small l f h a v b c d e ∙ ap (λ y. Gives (Word y) s) w, refl, refl, refl, refl, refl, refl, refl, f))

    pub write_4 : (h a x : ℕ) → Standing p (Write h a x) k → (8 ≤ h) ⊎ (D (hand_at p h) ≡ 0) → Decided p (Write h a x) (No 4) [] k es
    unfolding core waits_in
    write_4 h a x z b = no_file (Write h a x) 4 z tt (λ s. refl) (λ s l f. write_no4 0 p s D small l f h a x b)

    pub write_6 : (h a x v : ℕ) → Standing p (Write h a x) k → h < 8 → D (hand_at p h) ≡ v → (v ≡ 0 → ⊥) → ((v - 1) % 2 ≡ 1 → ⊥) → Decided p (Write h a x) (No 6) [] k es
    unfolding core waits_in
    write_6 h a x v z b c d e = no_file (Write h a x) 6 z tt (λ s. refl) (λ s l f. write_no6 0 p s D small l f h a x v b c d e)

    pub write_5 : (h a x v : ℕ) → Standing p (Write h a x) k → h < 8 → D (hand_at p h) ≡ v → (v ≡ 0 → ⊥) → (v - 1) % 2 ≡ 1 → (D (size_at (name_in v)) < a + 1) ⊎ (256 ≤ a) → Decided p (Write h a x) (No 5) [] k es
    unfolding core waits_in
    write_5 h a x v z b c d e g = no_file (Write h a x) 5 z tt (λ s. refl) (λ s l f. write_no5 0 p s D small l f h a x v b c d e g)

    pub write_yes : (h a x v y : ℕ) → Standing p (Write h a x) k → h < 8 → D (hand_at p h) ≡ v → (v ≡ 0 → ⊥) → name_in v < 64 → (v - 1) % 2 ≡ 1 → D (size_at (name_in v)) ≡ y → a + 1 ≤ y → a < 256 → Decided p (Write h a x) Done ((word_at (name_in v) a, x) ∷ (size_at (name_in v), cond (eqb (a + 1) y) (y + 1) y) ∷ []) k es
    unfolding core waits_in fits ends kept_all Within
    write_yes h a x v y z b c d nm e g i j =
        file_act (Write h a x) Done _ z tt (λ x q. (let y : ◌≡◌ {A = ℕ} 0 1 = cc in omega arith)) (λ s. tt) tt (λ s. refl) (omega arith)
        (in_files k.at (word_at (name_in v) a) one (omega arith), (in_files k.at (size_at (name_in v)) one (omega arith), tt))
        (far_cell (word_at (name_in v) a) (omega arith), (far_cell (size_at (name_in v)) (omega arith), tt))
        (λ r. away_two k.at (size_at (name_in v)) (word_at (name_in v) a) (cond (eqb (a + 1) y) (y + 1) y) x (k.cell 2 r) r one)
        (λ s l f. (let q = write_done 0 p s D small l f h a x v y b c d e g i j in
        (set_file (name_in v) (There (write_in a x (words (s.file (name_in v))))) s, q.0, refl, refl, refl, refl, refl, refl, refl, files_same (write_cells (name_in v) a x y D) _ _ _ (λ r _. set_two (word_at (name_in v) a) x (size_at (name_in v)) (cond (eqb (a + 1) y) (y + 1) y) r) q.1)))

    pub remove_1 : (n : ℕ) → Standing p (Remove n) k → 64 ≤ n → Decided p (Remove n) (No 1) [] k es
    unfolding core waits_in
    remove_1 n z h = no_file (Remove n) 1 z tt (λ s. refl) (λ s l f. remove_no1 0 p s D small l f n h)

    pub remove_2 : (n : ℕ) → Standing p (Remove n) k → n < 64 → D (size_at n) ≡ 0 → Decided p (Remove n) (No 2) [] k es
    unfolding core waits_in
    remove_2 n z h a = no_file (Remove n) 2 z tt (λ s. refl) (λ s l f. remove_no2 0 p s D small l f n h a)

    pub remove_8 : (n : ℕ) → Standing p (Remove n) k → n < 64 → (D (size_at n) ≡ 0 → ⊥) → (D (users_at n) ≡ 0 → ⊥) → Decided p (Remove n) (No 8) [] k es
    unfolding core waits_in
    remove_8 n z h a b = no_file (Remove n) 8 z tt (λ s. refl) (λ s l f. remove_no8 0 p s D small l f n h a b)

    pub remove_yes : (n : ℕ) → Standing p (Remove n) k → n < 64 → (D (size_at n) ≡ 0 → ⊥) → D (users_at n) ≡ 0 → Decided p (Remove n) Done ((size_at n, 0) ∷ []) k es
    unfolding core waits_in fits ends kept_all Within
    remove_yes n z h a b =
        file_act (Remove n) Done _ z tt (λ x q. (let y : ◌≡◌ {A = ℕ} 0 1 = cc in omega arith)) (λ s. tt) tt (λ s. refl) (omega arith)
        (in_files k.at (size_at n) one (omega arith), tt)
        (far_cell (size_at n) (omega arith), tt)
        (λ r. far (size_at n) 0 r)
        (λ s l f. (let q = remove_done 0 p s D small l f n h a b in
        (set_file n Missing s, q.0, refl, refl, refl, refl, refl, refl, refl, files_same (remove_cells n D) _ _ _ (λ r _. set_one (size_at n) 0 r) q.1)))
