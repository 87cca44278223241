-- What holds of every state of the machine that never falls: the family, the handles, the desk.
-- Assumes nothing.
use Rattle.std.proofs.Common.{◌≡◌, ℕ, zero, suc, ◌+◌, ◌<◌, ◌≤◌, Bool, true, false, cond, not, ◌&&◌, ◌||◌, T, eqb, ltb, ◌⊎◌, sym, refl, ap, ◌∙◌, subst, subst₂, arith}
use Rattle.std.proofs.lemmas.Bool.Decides.{nat_tests as tests}
use Rattle.heal.specs.declared.Call.{Call}
use Rattle.heal.specs.declared.Call.TheVariants.{Spawn, Exit, Wait, Kill, Open, Close, Read, Write, Remove, Take, Leave, Say, Hear}
use Rattle.heal.specs.declared.Answer.{Answer}
use Rattle.heal.specs.House.{Proc, Nobody, Living, Dead, Hand, Empty, On, Now, Quiet, Under, Over, State, Gives, put, some', first, living, dead, nobody, parent_of, child_of, below, may_kill, is_on, is_empty, clash, up_to1, dies, does, ends, give_hand, set_proc, set_desk, set_now}

-- who is whose child, with ranks by birth: a parent's is lower
pub record Kin (proc : ℕ → Proc) (rank : ℕ → ℕ) (top : ℕ) : Type 0 where
  pub one : proc 1 ≡ Living 1 true
  pub range : (q : ℕ) → T (nobody (proc q) || (ltb 0 q && ltb q 64))
  pub live : (q : ℕ) → T (nobody (proc q) || living (proc (parent_of (proc q))))
  pub ranks : (q : ℕ) → T (nobody (proc q) || eqb q 1 || ltb (rank (parent_of (proc q))) (rank q))
  pub tops : (q : ℕ) → rank q ≤ top
  pub least : rank 1 ≡ 0

-- who holds what
pub record Held (proc : ℕ → Proc) (hand : ℕ → ℕ → Hand) : Type 0 where
  pub bare : (p h : ℕ) → T (living (proc p) || is_empty (hand p h))
  pub few : (p h : ℕ) → T (ltb h 8 || is_empty (hand p h))
  pub writer : (p q h i n : ℕ) (w : Bool) → hand p h ≡ On n true → hand q i ≡ On n w → (p ≡ q) × (h ≡ i)

-- whose the desk is
abbrev pub Desked : (ℕ → Proc) → ℕ → Type 0
Desked proc owner = (p : ℕ) → T (living (proc p) || not (eqb owner p) || eqb p 0)

unfoldable pub quiet : Now → Bool
quiet Quiet = true
quiet (Under c g) = false
quiet (Over c a g) = false

-- only who lives has something under way
abbrev pub Idle : (ℕ → Proc) → (ℕ → Now) → Type 0
Idle proc now = (p : ℕ) → T (living (proc p) || quiet (now p))

pub record Lawful (s : State) : Type 0 where
  pub rank : ℕ → ℕ
  pub top : ℕ
  pub kin : Kin s.proc rank top
  pub held : Held s.proc s.hand
  pub desk : Desked s.proc s.owner
  pub idle : Idle s.proc s.now'

-- some, and the first of them
pub some_at : (n k : ℕ) (f : ℕ → Bool) → k < n → T (f k) → T (some' n f)
unfolding some'
some_at zero k f l h = grind (arith, tests)
some_at (suc n) k f l h = let r = some_at n k f in by (f n) refl r
  where
    at : k ≡ n → T (f n)
    at e = subst (λ j. T (f j)) e h

    by : (b : Bool) → f n ≡ b → (k < n → T (f k) → T (some' n f)) → T (some' n f || f n)
    by b e r = let z = at in grind (arith, tests)

pub none_at : (n k : ℕ) (f : ℕ → Bool) → some' n f ≡ false → k < n → f k ≡ false
none_at n k f e l = let r = some_at n k f l in by (f k) r
  where
    by : (b : Bool) → (T b → T (some' n f)) → b ≡ false
    by true r = let z = r tt in grind (arith, tests)
    by false r = refl

pub first_at : (n : ℕ) (f : ℕ → Bool) → some' n f ≡ true → (first n f < n) × T (f (first n f))
unfolding some' first
first_at zero f e = grind (arith, tests)
first_at (suc n) f e = let r = first_at n f in by (some' n f) refl r
  where
    by : (b : Bool) → some' n f ≡ b → (some' n f ≡ true → (first n f < n) × T (f (first n f))) → (cond b (first n f) n < suc n) × T (f (cond b (first n f) n))
    by true b r = let z = r b in (omega (arith, z.0), z.1)
    by false b r = (omega arith, grind (arith, tests))

-- who is below is of higher rank, so nobody is below itself
below_rank : (n : ℕ) (s : State) (rank : ℕ → ℕ) (top p q : ℕ) → Kin s.proc rank top → T (below n s p q) → rank p < rank q
unfolding below
below_rank zero s rank top p q h u = absurd u
below_rank (suc n) s rank top p q h u = let r = below_rank n s rank top p (parent_of (s.proc q)) h in let k = h.ranks q in by r k u
  where
    at : parent_of (s.proc q) ≡ p → rank (parent_of (s.proc q)) ≡ rank p
    at e = ap rank e

    by : (T (below n s p (parent_of (s.proc q))) → rank p < rank (parent_of (s.proc q))) → T (nobody (s.proc q) || eqb q 1 || ltb (rank (parent_of (s.proc q))) (rank q)) →
        T (not (eqb q 1) && not (nobody (s.proc q)) && (eqb (parent_of (s.proc q)) p || below n s p (parent_of (s.proc q)))) → rank p < rank q
    by r k u = let z = at in grind (arith, tests)

pub not_below_itself : (n : ℕ) (s : State) (rank : ℕ → ℕ) (top p : ℕ) → Kin s.proc rank top → T (below n s p p) → ⊥
not_below_itself n s rank top p h u = let r = below_rank n s rank top p p h u in grind arith

one_lives : (f : ℕ → Proc) → f 1 ≡ Living 1 true → T (living (f 1))
unfolding living
one_lives f e = grind (arith, tests)

-- a death
module _ (f : ℕ → Proc) (q code : ℕ) (l : T (living (f q))) (o : q ≡ 1 → ⊥) where
  abbrev after : ℕ → Proc
  after = λ p. cond (eqb p q) (Dead (parent_of (f q)) code) (up_to1 q (f p))

  die_one : f 1 ≡ Living 1 true → after 1 ≡ Living 1 true
  unfolding up_to1
  die_one e = grind (arith, tests)

  die_range : (p : ℕ) → T (nobody (f p) || (ltb 0 p && ltb p 64)) → T (nobody (after p) || (ltb 0 p && ltb p 64))
  unfolding up_to1 nobody living
  die_range p e = grind (arith, tests)

  die_live : (rank : ℕ → ℕ) (p : ℕ) → T (nobody (f p) || living (f (parent_of (f p)))) → T (nobody (f p) || eqb p 1 || ltb (rank (parent_of (f p))) (rank p)) → T (living (f 1)) →
      T (nobody (after p) || living (after (parent_of (after p))))
  unfolding up_to1 living nobody parent_of
  die_live rank p a c b = grind (arith, tests)

  die_ranks : (rank : ℕ → ℕ) (p : ℕ) → T (nobody (f p) || eqb p 1 || ltb (rank (parent_of (f p))) (rank p)) → rank 1 ≡ 0 → T (nobody (after p) || eqb p 1 || ltb (rank (parent_of (after p))) (rank p))
  unfolding up_to1 living nobody parent_of
  die_ranks rank p b c = grind (arith, tests)

  pub die_kin : (rank : ℕ → ℕ) (top : ℕ) → Kin f rank top → Kin after rank top
  die_kin rank top h =
      record {
        one = die_one h.one;
        range = λ p. die_range p (h.range p);
        live = λ p. die_live rank p (h.live p) (h.ranks p) (one_lives f h.one);
        ranks = λ p. die_ranks rank p (h.ranks p) h.least;
        tops = h.tops;
        least = h.least;
      }

  pub die_held : (hand : ℕ → ℕ → Hand) → Held f hand → Held after (λ p h. cond (eqb p q) Empty (hand p h))
  unfolding up_to1 living is_empty
  die_held hand h = record { bare = λ p i. (let a = h.bare p i in grind (arith, tests)); few = λ p i. (let a = h.few p i in grind (arith, tests)); writer = λ p r i j n w a b. (let z = h.writer p r i j n w in grind (arith, tests)) }

  pub die_desk : (owner : ℕ) → Desked f owner → Desked after (cond (eqb owner q) 0 owner)
  unfolding up_to1 living
  die_desk owner h = λ p. (let a = h p in grind (arith, tests))

  pub die_idle : (now : ℕ → Now) → Idle f now → Idle after (put q Quiet now)
  unfolding up_to1 living quiet
  die_idle now h = λ p. (let a = h p in grind (arith, tests))

-- a birth
module _ (f : ℕ → Proc) (k p : ℕ) (n : nobody (f k) ≡ true) (a : 0 < k) (b : k < 64) (l : T (living (f p))) where
  abbrev born : ℕ → Proc
  born = put k (Living p false) f

  born_new : f 1 ≡ Living 1 true → k ≡ 1 → ⊥
  unfolding nobody
  born_new o e = let z : f k ≡ Living 1 true = ap f e ∙ o in grind (arith, tests)

  born_one : f 1 ≡ Living 1 true → born 1 ≡ Living 1 true
  born_one o = let z = born_new o in grind (arith, tests)

  born_range : (q : ℕ) → T (nobody (f q) || (ltb 0 q && ltb q 64)) → T (nobody (born q) || (ltb 0 q && ltb q 64))
  unfolding nobody
  born_range q e = grind (arith, tests)

  born_live : (q : ℕ) → T (nobody (f q) || living (f (parent_of (f q)))) → T (nobody (born q) || living (born (parent_of (born q))))
  unfolding living nobody parent_of
  born_live q e = grind (arith, tests)

  born_ranks : (rank : ℕ → ℕ) (top q : ℕ) → T (nobody (f q) || living (f (parent_of (f q)))) → T (nobody (f q) || eqb q 1 || ltb (rank (parent_of (f q))) (rank q)) → ((j : ℕ) → rank j ≤ top) →
      T (nobody (born q) || eqb q 1 || ltb (put k (top + 1) rank (parent_of (born q))) (put k (top + 1) rank q))
  unfolding living nobody parent_of
  born_ranks rank top q d e c = grind (arith, tests)

  born_tops : (rank : ℕ → ℕ) (top q : ℕ) → rank q ≤ top → put k (top + 1) rank q ≤ top + 1
  born_tops rank top q c = grind (arith, tests)

  born_least : (rank : ℕ → ℕ) (top : ℕ) → (k ≡ 1 → ⊥) → rank 1 ≡ 0 → put k (top + 1) rank 1 ≡ 0
  born_least rank top z c = grind (arith, tests)

  pub born_kin : (rank : ℕ → ℕ) (top : ℕ) → Kin f rank top → Kin born (put k (top + 1) rank) (top + 1)
  born_kin rank top h =
      record {
        one = born_one h.one;
        range = λ q. born_range q (h.range q);
        live = λ q. born_live q (h.live q);
        ranks = λ q. born_ranks rank top q (h.live q) (h.ranks q) h.tops;
        tops = λ q. born_tops rank top q (h.tops q);
        least = born_least rank top (born_new h.one) h.least;
      }

  pub born_held : (hand : ℕ → ℕ → Hand) → Held f hand → Held born hand
  unfolding living
  born_held hand h = record { bare = λ q i. (let z = h.bare q i in grind (arith, tests)); few = h.few; writer = h.writer }

  pub born_desk : (owner : ℕ) → Desked f owner → Desked born owner
  unfolding living
  born_desk owner h = λ q. (let z = h q in grind (arith, tests))

  pub born_idle : (now : ℕ → Now) → Idle f now → Idle born now
  unfolding living
  born_idle now h = λ q. (let z = h q in grind (arith, tests))

-- a dead one is nobody from then on
module _ (f : ℕ → Proc) (k : ℕ) (d : T (dead (f k))) where
  abbrev gone : ℕ → Proc
  gone = put k Nobody f

  gone_one : f 1 ≡ Living 1 true → gone 1 ≡ Living 1 true
  unfolding dead
  gone_one o = let z : (k ≡ 1) → f k ≡ Living 1 true = λ e. ap f e ∙ o in grind (arith, tests)

  gone_range : (q : ℕ) → T (nobody (f q) || (ltb 0 q && ltb q 64)) → T (nobody (gone q) || (ltb 0 q && ltb q 64))
  unfolding nobody
  gone_range q e = grind (arith, tests)

  gone_live : (q : ℕ) → T (nobody (f q) || living (f (parent_of (f q)))) → T (nobody (gone q) || living (gone (parent_of (gone q))))
  unfolding living nobody parent_of dead
  gone_live q e = grind (arith, tests)

  gone_ranks : (rank : ℕ → ℕ) (q : ℕ) → T (nobody (f q) || eqb q 1 || ltb (rank (parent_of (f q))) (rank q)) → T (nobody (gone q) || eqb q 1 || ltb (rank (parent_of (gone q))) (rank q))
  unfolding nobody parent_of
  gone_ranks rank q e = grind (arith, tests)

  pub gone_kin : (rank : ℕ → ℕ) (top : ℕ) → Kin f rank top → Kin gone rank top
  gone_kin rank top h =
      record {
        one = gone_one h.one;
        range = λ q. gone_range q (h.range q);
        live = λ q. gone_live q (h.live q);
        ranks = λ q. gone_ranks rank q (h.ranks q);
        tops = h.tops;
        least = h.least;
      }

  pub gone_living : (q : ℕ) → living (gone q) ≡ living (f q)
  unfolding living dead
  gone_living q = grind (arith, tests)

-- which calls change what
module _ (k p : ℕ) (s t : State) (a : Answer) where
  pub did_spawn : (n : ℕ) → does k s p (Spawn n) ≡ Gives a t → (t ≡ s) ⊎ ((some' 64 (λ (q : ℕ). ltb 0 q && nobody (s.proc q)) ≡ true) × (t ≡ set_proc (put k (Living p false) s.proc) s))
  unfolding does
  did_spawn n e = grind (arith, tests)

  pub did_wait : does k s p Wait ≡ Gives a t → (t ≡ s) ⊎ ((some' 64 (λ (q : ℕ). child_of s p q && dead (s.proc q)) ≡ true) × (t ≡ set_proc (put k Nobody s.proc) s))
  unfolding does
  did_wait e = grind (arith, tests)

  pub did_kill : (q : ℕ) → does k s p (Kill q) ≡ Gives a t → (t ≡ s) ⊎ ((may_kill s p q ≡ true) × (t ≡ dies q 255 s))
  unfolding does
  did_kill q e = grind (arith, tests)

  pub did_open : (n : ℕ) (w : Bool) → does k s p (Open n w) ≡ Gives a t →
      (t ≡ s) ⊎ ((clash s n w ≡ false) × (some' 8 (λ (h : ℕ). is_empty (s.hand p h)) ≡ true) × (t.proc ≡ s.proc) × (t.hand ≡ (give_hand p (first 8 (λ (h : ℕ). is_empty (s.hand p h))) (On n w) s).hand) × (t.owner ≡ s.owner) × (t.now' ≡ s.now'))
  unfolding does
  did_open n w e = grind (arith, tests)

  pub did_close : (h : ℕ) → does k s p (Close h) ≡ Gives a t → (t ≡ s) ⊎ (t ≡ give_hand p h Empty s)
  unfolding does
  did_close h e = grind (arith, tests)

  pub did_take : does k s p Take ≡ Gives a t → (t ≡ s) ⊎ (t ≡ set_desk p s.screen s.keys s.heard s)
  unfolding does
  did_take e = grind (arith, tests)

  pub did_leave : does k s p Leave ≡ Gives a t → (t ≡ s) ⊎ (t ≡ set_desk 0 s.screen s.keys s.heard s)
  unfolding does
  did_leave e = grind (arith, tests)

  pub did_exit : (c : ℕ) → T (not (ends p (Exit c))) → does k s p (Exit c) ≡ Gives a t → t ≡ s
  unfolding does ends
  did_exit c n e = grind (arith, tests)

  pub did_die : (c : Call) → T (ends p c) → does k s p c ≡ Gives a t → (p ≡ 1 → ⊥) × ((code : ℕ) × (t ≡ dies p code s))
  unfolding does ends
  did_die (Exit c) n e = (grind (arith, tests), (c, grind (arith, tests)))
  did_die (Spawn m) n e = absurd n
  did_die Wait n e = absurd n
  did_die (Kill q) n e = absurd n
  did_die (Open m w) n e = absurd n
  did_die (Close h) n e = absurd n
  did_die (Read h i) n e = absurd n
  did_die (Write h i x) n e = absurd n
  did_die (Remove m) n e = absurd n
  did_die Take n e = absurd n
  did_die Leave n e = absurd n
  did_die (Say x) n e = absurd n
  did_die Hear n e = absurd n

-- these change nothing of it
abbrev pub Same : State → State → Type 0
Same s t = (t.proc ≡ s.proc) × (t.hand ≡ s.hand) × (t.owner ≡ s.owner) × (t.now' ≡ s.now')

module _ (k p : ℕ) (s t : State) (a : Answer) where
  pub did_read : (h i : ℕ) → does k s p (Read h i) ≡ Gives a t → Same s t
  unfolding does
  did_read h i e = grind (arith, tests)

  pub did_write : (h i x : ℕ) → does k s p (Write h i x) ≡ Gives a t → Same s t
  unfolding does
  did_write h i x e = grind (arith, tests)

  pub did_remove : (n : ℕ) → does k s p (Remove n) ≡ Gives a t → Same s t
  unfolding does
  did_remove n e = grind (arith, tests)

  pub did_say : (x : ℕ) → does k s p (Say x) ≡ Gives a t → Same s t
  unfolding does
  did_say x e = grind (arith, tests)

  pub did_hear : does k s p Hear ≡ Gives a t → Same s t
  unfolding does
  did_hear e = grind (arith, tests)

-- who has something under way lives
lives_at : (f : Proc) (v w : Now) → T (living f || quiet v) → v ≡ w → quiet w ≡ false → T (living f)
lives_at f v w i e n = let z : quiet v ≡ false = ap quiet e ∙ n in grind (arith, tests)

pub busy_lives : (s : State) (p : ℕ) (w : Now) → Lawful s → s.now' p ≡ w → quiet w ≡ false → T (living (s.proc p))
busy_lives s p w h e n = lives_at (s.proc p) (s.now' p) w (h.idle p) e n

-- something is under way, or no longer
idle_at : (proc : ℕ → Proc) (now : ℕ → Now) (p : ℕ) (w : Now) (q : ℕ) → T (living (proc q) || quiet (now q)) → T (living (proc p)) → T (living (proc q) || quiet (put p w now q))
idle_at proc now p w q i l = grind (arith, tests)

pub at_now : (s : State) (p : ℕ) (w : Now) → Lawful s → T (living (s.proc p)) → Lawful (set_now p w s)
at_now s p w h l = record { rank = h.rank; top = h.top; kin = h.kin; held = h.held; desk = h.desk; idle = λ q. idle_at s.proc s.now' p w q (h.idle q) l }

pub same_lawful : (s t : State) → Lawful s → Same s t → Lawful t
same_lawful s t h e =
    record {
      rank = h.rank;
      top = h.top;
      kin = subst (λ f. Kin f h.rank h.top) (sym e.0) h.kin;
      held = subst₂ (λ f g. Held f g) (sym e.0) (sym e.1) h.held;
      desk = subst₂ (λ f o. Desked f o) (sym e.0) (sym e.2) h.desk;
      idle = subst₂ (λ f n. Idle f n) (sym e.0) (sym e.3) h.idle;
    }

-- a death, whole
pub dies_lawful : (s : State) (q code : ℕ) → Lawful s → T (living (s.proc q)) → (q ≡ 1 → ⊥) → Lawful (dies q code s)
dies_lawful s q code h l o =
    record { rank = h.rank; top = h.top; kin = die_kin s.proc q code l o h.rank h.top h.kin; held = die_held s.proc q code l o s.hand h.held; desk = die_desk s.proc q code l o s.owner h.desk; idle = die_idle s.proc q code l o s.now' h.idle }

-- handles
open_bare : (proc : ℕ → Proc) (hand : ℕ → ℕ → Hand) (p e : ℕ) (x : Hand) (q i : ℕ) → T (living (proc p)) → T (living (proc q) || is_empty (hand q i)) → T (living (proc q) || is_empty (cond (eqb q p && eqb i e) x (hand q i)))
open_bare proc hand p e x q i l a = grind (arith, tests)

open_few : (hand : ℕ → ℕ → Hand) (p e : ℕ) (x : Hand) (q i : ℕ) → e < 8 → T (ltb i 8 || is_empty (hand q i)) → T (ltb i 8 || is_empty (cond (eqb q p && eqb i e) x (hand q i)))
open_few hand p e x q i l a = grind (arith, tests)

open_writer : (hand : ℕ → ℕ → Hand) (p e n : ℕ) (w : Bool) (q r i j m : ℕ) (v : Bool) → (hand q i ≡ On n true → (w ≡ false) × (true ≡ false)) → (hand r j ≡ On n v → (w ≡ false) × (v ≡ false)) →
    (hand q i ≡ On m true → hand r j ≡ On m v → (q ≡ r) × (i ≡ j)) → cond (eqb q p && eqb i e) (On n w) (hand q i) ≡ On m true → cond (eqb r p && eqb j e) (On n w) (hand r j) ≡ On m v → (q ≡ r) × (i ≡ j)
open_writer hand p e n w q r i j m v a b c x y = grind (arith, tests)

module _ (s : State) (p : ℕ) (l : T (living (s.proc p))) (held : Held s.proc s.hand) where
  pub close_held : (h : ℕ) → Held s.proc (give_hand p h Empty s).hand
  unfolding is_empty
  close_held h = record { bare = λ q i. (let a = held.bare q i in grind (arith, tests)); few = λ q i. (let a = held.few q i in grind (arith, tests)); writer = λ q r i j n w a b. (let z = held.writer q r i j n w in grind (arith, tests)) }

  -- nobody has it open as open would not have it
  apart : (n : ℕ) (w : Bool) → clash s n w ≡ false → (q i : ℕ) (v : Bool) → q < 64 → i < 8 → s.hand q i ≡ On n v → (w ≡ false) × (v ≡ false)
  unfolding is_on
  apart n w e q i v lq li x =
      let r : some' 8 (λ (h : ℕ). is_on n (not w) (s.hand q h)) ≡ false = none_at 64 q (λ (p : ℕ). some' 8 (λ (h : ℕ). is_on n (not w) (s.hand p h))) e lq in
      let y : is_on n (not w) (s.hand q i) ≡ false = none_at 8 i (λ (h : ℕ). is_on n (not w) (s.hand q h)) r li in
      let z : is_on n (not w) (On n v) ≡ false = ap (is_on n (not w)) (sym x) ∙ y in
      grind (arith, tests)

  -- who has one open lives, and it's one of eight
  within : ((q : ℕ) → T (nobody (s.proc q) || (ltb 0 q && ltb q 64))) → (q i n : ℕ) (v : Bool) → s.hand q i ≡ On n v → (q < 64) × (i < 8)
  unfolding is_empty living nobody
  within range q i n v x = let a = held.bare q i in let b = held.few q i in let c = range q in (within_a (s.proc q) (s.hand q i) q n v x a c, within_b (s.hand q i) i n v x b)
    where
      within_a : (f : Proc) (y : Hand) (q n : ℕ) (v : Bool) → y ≡ On n v → T (living f || is_empty y) → T (nobody f || (ltb 0 q && ltb q 64)) → q < 64
      within_a f y q n v x a c = grind (arith, tests)

      within_b : (y : Hand) (i n : ℕ) (v : Bool) → y ≡ On n v → T (ltb i 8 || is_empty y) → i < 8
      within_b y i n v x b = grind (arith, tests)

  pub open_held : ((q : ℕ) → T (nobody (s.proc q) || (ltb 0 q && ltb q 64))) → (n : ℕ) (w : Bool) (e : ℕ) → clash s n w ≡ false → e < 8 → Held s.proc (give_hand p e (On n w) s).hand
  open_held range n w e c le =
      record {
        bare = λ q i. open_bare s.proc s.hand p e (On n w) q i l (held.bare q i);
        few = λ q i. open_few s.hand p e (On n w) q i le (held.few q i);
        writer = λ q r i j m v x y. open_writer s.hand p e n w q r i j m v (away q i true) (away r j v) (held.writer q r i j m v) x y;
      }
    where
      away : (q i : ℕ) (v : Bool) → s.hand q i ≡ On n v → (w ≡ false) × (v ≡ false)
      away q i v x = let z = within range q i n v x in apart n w c q i v z.0 z.1 x
