-- What is decided stays decided while the answer's words are written; and then it's done.
-- Assumes nothing.
use Rattle.std.proofs.Common.{◌≡◌, ℕ, ◌+◌, ◌<◌, ◌≤◌, Bool, true, false, cond, ◌&&◌, eqb, ◌⊎◌, List, [], ◌∷◌, ◌++◌, length, sym, refl, ap, ◌∙◌, subst, subst₂, inl, inr, append_assoc, arith}
use Rattle.std.proofs.lemmas.Bool.Decides.{nat_tests as tests}
use Rattle.heal.specs.declared.Call.{Call}
use Rattle.heal.specs.declared.Answer.{Answer}
use Rattle.heal.specs.declared.Answer.TheVariants.{Done}
use Rattle.heal.specs.Kernel.{Event, Kern, server_of, cells_of, kept, with_cell}
use Rattle.heal.specs.House.{Under, Over, State, waits_in}
use Rattle.heal.specs.declared.codec.AnswerKind.{AnswerKind}
use Rattle.heal.specs.declared.codec.AnswerKind.TheVariants as answer
use Rattle.heal.specs.Codec.{answer_of, answer_number_of, answer_has_a, answer_has_x}
use Rattle.heal.specs.Journal.{viewed, kept_all, Within, with_left}
use Rattle.heal.specs.Invariant.{Inv, Moves, Before, Common, last, owed, ready, ahead, plus}
use Rattle.heal.specs.Ready.{FirstFrom}
use Rattle.heal.specs.Deciding.{Standing, Apart, Decided, Decision, Finish, Pass, Chosen, Noted}
use Rattle.heal.specs.Turn.{After, Exact, Keeps, cells, Finished}
use Rattle.heal.proofs.FileCells.{files_same}
use Rattle.heal.proofs.Kept.{kept_same, desk_other, loose}
use Rattle.heal.proofs.Moments.{before, finish_kept, pass_kept}
use Rattle.heal.proofs.Steps.{in_cells, inv_exact, put_cell, same_cell, same_cells}

-- the same kernel with another count of asks
pub standing_left : (p : ℕ) (c : Call) (m : ℕ) (k : Kern) → Standing p c k → Standing p c (with_left m k)
standing_left p c m k z = record { number = z.number; low = z.low; small = z.small; at = z.at; pend = z.pend; here = z.here; held = z.held; undone = z.undone; none = z.none }

moves_left : (m : ℕ) (k : Kern) (f : ℕ → ℕ → ℕ) (es : List Event) (p : ℕ) (c : Call) (a : Answer) (g : ℕ) (s : State) → Moves k f es p c a g s → Moves (with_left m k) f es p c a g s
moves_left m k f es p c a g s v = record { t = v.t; run = v.run; over = v.over; others = v.others; procs = v.procs; ons = v.ons; ready = v.ready; desk = v.desk; files = v.files }

-- cells after writes, where they were the same before
all_same : (ps : List (ℕ × ℕ)) (k l : Kern) (σ j : ℕ) → l.at ≡ k.at → l.cell σ j ≡ k.cell σ j → (kept_all ps l).cell σ j ≡ (kept_all ps k).cell σ j
unfolding kept_all
all_same [] k l σ j a e = e
all_same (x ∷ xs) k l σ j a e = all_same xs (kept x.0 x.1 k) (kept x.0 x.1 l) σ j a (one x.0 x.1 σ j l.at k.at (l.cell σ j) (k.cell σ j) a e)
  where
    one : (c x σ j s t y z : ℕ) → s ≡ t → y ≡ z → cond (eqb σ s && eqb j c) x y ≡ cond (eqb σ t && eqb j c) x z
    one c x σ j s t y z a e = λ i. cond (eqb σ (a i) && eqb j c) x (e i)

all_apart : (ps : List (ℕ × ℕ)) (k : Kern) (σ j : ℕ) → Apart ps → Common j → (kept_all ps k).cell σ j ≡ k.cell σ j
unfolding kept_all
all_apart [] k σ j a c = refl
all_apart (x ∷ xs) k σ j a c = all_apart xs (kept x.0 x.1 k) σ j a.1 c ∙ kept_same k x.0 x.1 σ j (λ _ e. a.0 (subst Common e c))

all_cell : (ps : List (ℕ × ℕ)) (k : Kern) → kept_all ps k ≡ with_cell (kept_all ps k).cell k
unfolding kept_all
all_cell [] k = refl
all_cell (x ∷ xs) k = all_cell xs (kept x.0 x.1 k)

all_more : (ps qs : List (ℕ × ℕ)) (k : Kern) → kept_all (ps ++ qs) k ≡ kept_all qs (kept_all ps k)
unfolding kept_all
all_more [] qs k = refl
all_more (x ∷ xs) qs k = all_more xs qs (kept x.0 x.1 k)

left_cells : (ps : List (ℕ × ℕ)) (k : Kern) (m : ℕ) → (kept_all ps k).cell ≡ (kept_all ps (with_left m k)).cell
unfolding kept_all
left_cells [] k m = refl
left_cells (x ∷ xs) k m = left_cells xs (kept x.0 x.1 k) m

pub decided_left : (p : ℕ) (c : Call) (a : Answer) (ps : List (ℕ × ℕ)) (m : ℕ) (k : Kern) (es : List Event) → Decided p c a ps k es → Decided p c a ps (with_left m k) es
decided_left p c a ps m k es h =
    record {
      few = h.few;
      within = h.within;
      apart = h.apart;
      moves = λ s r w d f g b. (let v = moves_left m k (kept_all ps k).cell es p c a g s (h.moves s r w d f g b) in subst (λ f. Moves (with_left m k) f es p c a g s) (left_cells ps k m) v);
    }

-- a word of the answer is written
module _ (p : ℕ) (c : Call) (k : Kern) (es : List Event) (j x : ℕ) (h : (33 ≤ j) × (j < 36)) where
  same : (σ i : ℕ) → (i < 33) ⊎ (36 ≤ i) → (kept j x k).cell σ i ≡ k.cell σ i
  same σ i o = kept_same k j x σ i (λ _ e. off i j h o e)
    where
      off : (i j : ℕ) → (33 ≤ j) × (j < 36) → (i < 33) ⊎ (36 ≤ i) → i ≡ j → ⊥
      off i j h (inl o) e = omega (arith, h.0)
      off i j h (inr o) e = omega (arith, h.1)

  pub standing_word : Standing p c k → Standing p c (kept j x k)
  standing_word z =
      record {
        number = z.number;
        low = z.low;
        small = z.small;
        at = same k.at 32 (inl (omega arith)) ∙ z.at;
        pend = z.pend;
        here = z.here;
        held = same k.at (64 + p) (inr (omega arith)) ∙ z.held;
        undone = subst (λ y. y ≤ z.number) (sym (same k.at (128 + p) (inr (omega arith)))) z.undone;
        none = z.none;
      }

  pub decided_word : (a : Answer) (ps : List (ℕ × ℕ)) → Decided p c a ps k es → Decided p c a ps (kept j x k) es
  decided_word a ps q =
      record {
        few = q.few;
        within = q.within;
        apart = q.apart;
        moves = λ s r w d f g b.
            (let d' = desk_other ((kept j x k).cell 2) (k.cell 2) k.screen k.keys k.pending s (sym (same 2 52 (inr (omega arith)))) (sym (same 2 53 (inr (omega arith)))) (sym (same 2 54 (inr (omega arith)))) (sym (same 2 32 (inl (omega arith)))) (λ r l. le_of (same 2 (64 + r) (inr (omega arith)))) (λ r l. sym (same 2 (128 + r) (inr (omega arith)))) d in
            let f' = files_same ((kept j x k).cell 1) (k.cell 1) s.file s.hand (λ i l. sym (same 1 i (inr (omega arith)))) f in
            let b' : Before k p c g s = b ∙ (λ i. cond (ahead (server_of c) p (same 2 32 (inl (omega arith)) i) (same 2 53 (inr (omega arith)) i) (length k.screen)) (Over c Done g) (Under c g)) in
            let v = q.moves s r w d' f' g b' in
            let to : (σ i : ℕ) → (i < 33) ⊎ (36 ≤ i) → (kept_all ps (kept j x k)).cell σ i ≡ (kept_all ps k).cell σ i = λ σ i o. all_same ps k (kept j x k) σ i refl (same σ i o) in
            let e = v.desk in
            let t52 = to 2 52 (inr (omega arith)) in
            let t53 = to 2 53 (inr (omega arith)) in
            let t54 = to 2 54 (inr (omega arith)) in
            let s52 = same 2 52 (inr (omega arith)) in
            let s53 = same 2 53 (inr (omega arith)) in
            let s54 = same 2 54 (inr (omega arith)) in
            record {
              t = v.t;
              run = v.run;
              over = v.over;
              others = v.others;
              procs = v.procs;
              ons = v.ons;
              ready = v.ready;
              desk = record {
                owns = e.owns ∙ sym t52;
                hears = e.hears ∙ sym t54;
                typed = e.typed;
                shows = e.shows;
                places = λ y. e.places y ∙ sym t53;
                same = λ y. (t52 ∙ ((e.same y).0 ∙ sym s52), t53 ∙ ((e.same y).1 ∙ sym s53));
                few = few_same k.at _ _ _ _ _ _ _ _ t53 t54 s53 s54 e.few;
              };
              files = files_same ((kept_all ps k).cell 1) _ v.t.file v.t.hand (λ i l. to 1 i (inr (omega arith))) v.files;
            });
      }
    where
      le_of : {m n : ℕ} → m ≡ n → m ≤ n
      le_of e = omega arith

      few_same : (s a b c d a' b' c' d' : ℕ) → a' ≡ a → b' ≡ b → c' ≡ c → d' ≡ d → a + b ≤ c + d + cond (eqb s 2) 1 0 → a' + b' ≤ c' + d' + cond (eqb s 2) 1 0
      few_same s a b c d a' b' c' d' x y z w h = omega arith

-- after asks that changed nothing that is meant, or one such word
pub standing_exact : {p : ℕ} {c : Call} {j l : Kern} {es fs : List Event} → Exact j es l fs → Standing p c j → Standing p c (viewed l)
standing_exact {p = p} {c = c} {j = j} {l = l} e z = subst (Standing p c) (sym e.is) (standing_left p c l.left j z)

pub decided_exact : {p : ℕ} {c : Call} {a : Answer} {ps : List (ℕ × ℕ)} {j l : Kern} {es fs : List Event} → Exact j es l fs → Decided p c a ps j es → Decided p c a ps (viewed l) fs
decided_exact {p = p} {c = c} {a = a} {ps = ps} {j = j} {l = l} {es = es} e z = subst₂ (λ κ gs. Decided p c a ps κ gs) (sym e.is) (sym e.same) (decided_left p c a ps l.left j es z)

waits_exact : (p : ℕ) (c : Call) (j l : Kern) (es fs : List Event) → Exact j es l fs → ((b : ℕ → ℕ) (i : Inv b j es) → waits_in i.0 p c ≡ true) → (b : ℕ → ℕ) (i : Inv b (viewed l) fs) → waits_in i.0 p c ≡ true
waits_exact p c j l es fs e h = subst₂ (λ κ gs. (b : ℕ → ℕ) (i : Inv b κ gs) → waits_in i.0 p c ≡ true) (sym e.is) (sym e.same) (λ b i. h b (i.0, i.1, i.2))

pub chosen_exact : (p : ℕ) (c : Call) (d : Decision) {j l : Kern} {es fs : List Event} → Exact j es l fs → Chosen p c d j es → Chosen p c d (viewed l) fs
chosen_exact p c (Finish a ps) e h = (standing_exact e h.0, decided_exact e h.1)
chosen_exact p c Pass e h = (standing_exact e h.0, waits_exact p c _ _ _ _ e h.1)

-- A moment that is due: what is written then, rs, is what is decided, and the last two words.
pub record Due (p : ℕ) (c : Call) (rs : List (ℕ × ℕ)) (k : Kern) (es : List Event) : Type 0 where
  pub answer : Answer
  pub writes : List (ℕ × ℕ)
  pub number : ℕ
  pub whole : rs ≡ writes ++ ((128 + p, number) ∷ (32, 64 + p) ∷ [])
  pub stand : Standing p c k
  pub decided : Decided p c answer writes k es
  pub owes : owed (k.cell k.at) ≡ answer
  pub latest : number ≡ last (k.cell k.at) p

pub due : {p n : ℕ} {c : Call} {a : Answer} {ps qs rs : List (ℕ × ℕ)} {k : Kern} (l : Kern) {m : Kern} {es fs gs : List Event} → Standing p c k → Decided p c a ps k es → Noted a k es (viewed l) fs → Exact (viewed l) fs m gs → n ≡ last (cells l) p → qs ≡ ps ++ ((128 + p, n) ∷ []) → rs ≡ qs ++ ((32, 64 + p) ∷ []) → Due p c rs (viewed m) gs
due {p = p} {n = n} {c = c} {a = a} {ps = ps} l z d w x e f g =
    record {
      answer = a;
      writes = ps;
      number = n;
      whole = g ∙ (ap (λ xs. xs ++ ((32, 64 + p) ∷ [])) f ∙ append_assoc ps ((128 + p, n) ∷ []) ((32, 64 + p) ∷ []));
      stand = standing_exact x (w.stands p c z);
      decided = decided_exact x (w.stays p c a ps d);
      owes = ap owed (same_cells l x) ∙ w.owes;
      latest = e ∙ sym (same_cell l x (64 + p));
    }

within_more : (n : ℕ) (ps : List (ℕ × ℕ)) (a b : ℕ × ℕ) → Within n ps → a.0 + 17 < n → b.0 + 17 < n → Within n (ps ++ (a ∷ b ∷ []))
unfolding Within
within_more n [] a b w x y = (x, (y, tt))
within_more n (p ∷ ps) a b w x y = (w.0, within_more n ps a b w.1 x y)

-- the moment
module _ {p : ℕ} {c : Call} {rs : List (ℕ × ℕ)} {k : Kern} {es : List Event} (u : Due p c rs k es) where
  gives : (b : ℕ → ℕ) → Inv b k es → Inv (plus k.at 1 b) (kept_all rs k) es
  unfolding kept_all
  gives b i =
      let z = u.stand in
      let ps = u.writes in
      let f = (kept_all ps k).cell in
      let sh : (σ j : ℕ) → Common j → f σ j ≡ k.cell σ j = λ σ j co. all_apart ps k σ j u.decided.apart co in
      let bf = before b k es i p z.number c u.answer f z.low z.small z.at z.pend z.here z.held z.undone u.owes z.none sh in
      let m = u.decided.moves i.0 i.1 i.2.who i.2.desk i.2.files (i.2.calls p z.number c z.pend).age bf in
      let r = finish_kept b k es i p z.number c u.answer f z.low z.small z.at z.pend z.here z.held z.undone u.owes z.none sh m in
      subst (λ κ. Inv (plus k.at 1 b) κ es) (sym (ap (λ rs. kept_all rs k) u.whole ∙ (all_more ps ((128 + p, u.number) ∷ (32, 64 + p) ∷ []) k ∙ (λ d. kept 32 (64 + p) (kept (128 + p) (u.latest d) (all_cell ps k d)))))) r

  pub due_keeps : Keeps k es (kept_all rs k) es
  due_keeps b i = loose (plus k.at 1 b) (kept_all rs k) es (gives b i) b (λ τ. grind (arith, tests))

  pub due_within : Within (cells_of k.at) rs
  due_within = subst (Within (cells_of k.at)) (sym u.whole) (within_more (cells_of k.at) u.writes (128 + p, u.number) (32, 64 + p) u.decided.within (in_cells k.at (128 + p) (omega (arith, u.stand.small))) (in_cells k.at 32 (omega arith)))

-- what is owed then
sweep_is : (ps : List (ℕ × ℕ)) (n p : ℕ) (k : Kern) → (kept_all (ps ++ ((128 + p, n) ∷ (32, 64 + p) ∷ [])) k).cell (kept_all (ps ++ ((128 + p, n) ∷ (32, 64 + p) ∷ [])) k).at 32 ≡ 64 + p
unfolding kept_all
sweep_is ps n p k = ap (λ κ. κ.cell κ.at 32) (all_more ps ((128 + p, n) ∷ (32, 64 + p) ∷ []) k) ∙ here (kept_all ps k)
  where
    here : (k : Kern) → (kept 32 (64 + p) (kept (128 + p) n k)).cell k.at 32 ≡ 64 + p
    here k = at_here (64 + p) k.at ((kept (128 + p) n k).cell k.at 32)
      where
        at_here : (x s y : ℕ) → cond (eqb s s && true) x y ≡ x
        at_here x s y = grind (arith, tests)

box_is : (ps : List (ℕ × ℕ)) (k : Kern) → (kept_all ps k).box ≡ k.box
unfolding kept_all
box_is [] k = refl
box_is (x ∷ xs) k = box_is xs (kept x.0 x.1 k)

pub finished : {p t : ℕ} {c : Call} {rs : List (ℕ × ℕ)} {k0 k l : Kern} {e0 es fs : List Event} → After t k0 e0 true k es → k.box ≡ k0.box → Due p c rs (viewed k) es → Exact (kept_all rs (viewed k)) es l fs → Finished p k0 e0 l fs
finished {p = p} {rs = rs} {k = k} {l = l} {fs = fs} x b u e =
    record {
      owes = ap (λ κ. κ.cell κ.at 32) e.is ∙ (ap (λ rs. (kept_all rs (viewed k)).cell (kept_all rs (viewed k)).at 32) u.whole ∙ sweep_is u.writes u.number p (viewed k));
      boxes = ap (λ κ. κ.box) e.is ∙ (box_is rs (viewed k) ∙ b);
      gave = λ a i. subst (λ σ. Inv (plus σ 1 a) (viewed l) fs) x.seat (inv_exact (plus k.at 1 a) e (gives u a (x.kept a i)));
    }

-- passed over
pub pass_gives : (p : ℕ) (c : Call) (w : ℕ) (k : Kern) (es : List Event) → Standing p c k → ((b : ℕ → ℕ) (i : Inv b k es) → waits_in i.0 p c ≡ true) → FirstFrom (p + 1) (ready (k.cell k.at)) w → (a : ℕ → ℕ) → Inv a k es → Inv (plus k.at 1 a) (kept 32 w k) es
pass_gives p c w k es z h f a i = pass_kept a k es i p z.number w c z.at z.pend z.here z.undone (h a i) f

-- the words of an answer, one after the other
pub record Words (k : Kern) (es : List Event) (l : Kern) (fs : List Event) : Type 0 where
  pub seat : l.at ≡ k.at
  pub boxes : l.box ≡ k.box
  pub stands : (p : ℕ) (c : Call) → Standing p c k → Standing p c l
  pub stays : (p : ℕ) (c : Call) (b : Answer) (ps : List (ℕ × ℕ)) → Decided p c b ps k es → Decided p c b ps l fs

pub one_word : (j x : ℕ) (k : Kern) {l : Kern} {es fs : List Event} → (33 ≤ j) × (j < 36) → Exact (kept j x (viewed k)) es l fs → Words (viewed k) es (viewed l) fs
one_word j x k {es = es} h e =
    record {
      seat = ap (λ κ. κ.at) e.is;
      boxes = ap (λ κ. κ.box) e.is;
      stands = λ p c z. standing_exact e (standing_word p c (viewed k) es j x h z);
      stays = λ p c b ps q. decided_exact e (decided_word p c (viewed k) es j x h b ps q);
    }

pub words_then : {k l m : Kern} {es fs gs : List Event} → Words k es l fs → Words l fs m gs → Words k es m gs
words_then a b = record { seat = b.seat ∙ a.seat; boxes = b.boxes ∙ a.boxes; stands = λ p c z. b.stands p c (a.stands p c z); stays = λ p c x ps q. b.stays p c x ps (a.stays p c x ps q) }

pub noted : {a : Answer} {k l : Kern} {es fs : List Event} → Words k es l fs → owed (l.cell l.at) ≡ a → Noted a k es l fs
noted w o = record { owes = o; boxes = w.boxes; stands = w.stands; stays = w.stays }

-- a word that answers of a kind don't have may be anything
kind_words : (k : AnswerKind) (a x y z : ℕ) → answer_of (answer_number_of k) (cond (answer_has_a (answer_number_of k)) a y) (cond (answer_has_x (answer_number_of k)) x z) ≡ answer_of (answer_number_of k) a x
unfolding answer_of
kind_words answer.Done a x y z = refl
kind_words _ a x y z = refl

-- a word that is written only if answers of the kind have it
module _ (j x : ℕ) (k l : Kern) (es fs : List Event) where
  pub word_if : (h : Bool) → (33 ≤ j) × (j < 36) → Exact (cond h (kept j x (viewed k)) (viewed k)) es l fs → Words (viewed k) es (viewed l) fs
  word_if true b e = one_word j x k b e
  word_if false b e =
      record { seat = ap (λ κ. κ.at) e.is; boxes = ap (λ κ. κ.box) e.is; stands = λ p c z. standing_exact e z; stays = λ p c a ps q. decided_exact e q }

  pub if_here : (h : Bool) → Exact (cond h (kept j x (viewed k)) (viewed k)) es l fs → cells l j ≡ cond h x (cells k j)
  if_here true e = put_cell j x k e j ∙ grind (arith, tests)
  if_here false e = same_cell k e j

  pub if_other : (h : Bool) → Exact (cond h (kept j x (viewed k)) (viewed k)) es l fs → (i : ℕ) → (i ≡ j → ⊥) → cells l i ≡ cells k i
  if_other true e i d = (let z = put_cell j x k e i in grind (arith, tests))
  if_other false e i d = same_cell k e i

-- the words of the answer are there
pub words_noted : (k : AnswerKind) (a x : ℕ) (r : Answer) (d : ℕ → ℕ) (y z : ℕ) → answer_of (answer_number_of k) a x ≡ r → d 33 ≡ answer_number_of k → d 34 ≡ cond (answer_has_a (answer_number_of k)) a y → d 35 ≡ cond (answer_has_x (answer_number_of k)) x z → owed d ≡ r
words_noted k a x r d y z e ek ea ex = (λ i. answer_of (ek i) (ea i) (ex i)) ∙ kind_words k a x y z ∙ e
