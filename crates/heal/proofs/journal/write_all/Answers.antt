use Rattle.std.proofs.Common.{◌≡◌, ℕ, ◌+◌, ◌-◌, ◌*◌, ◌<◌, ◌≤◌, Bool, true, List, ◌∷◌, length, get_or, drop, sym, refl, ap, ◌∙◌, arith, rules}
use Rattle.std.specs.List.{enumerate_from}
use mathlib.Core.Bool.{false≢true}
use mathlib.Core.List.{reverse}
use Rattle.std.proofs.lemmas.List.{get_or-reverse, length-reverse, length_push}
use Rattle.std.proofs.lemmas.List.FromFn.{get_or-enumerate_from, length-enumerate_from}
use Rattle.std.proofs.lemmas.Iterator.Adapters.{YieldsList-from_rev_slice}
use Rattle.std.proofs.lemmas.Iterator.Consumers.{YieldsList-from_enumerate, YieldsList-turn, YieldsList-end}
use Rattle.heal.specs.Kernel.{Kern, Event, Does, kept, set, cells_of}
use Rattle.heal.specs.Journal.{Sound, own, entries, kept_all, viewed, Within, Atomic}
use Rattle.heal.proofs.Cells.{committed, committed_fine, drop_back, drop_whole, drop_none}
use Rattle.heal.proofs.Atomics.{At, at_start, at_call, at_more, lost_call, end_put, more, not_ok, atomic_left, as_lost, then_stays}
use Rattle.heal.proofs.journal.write_all.Goals as goal

-- the one moment
module _ (i : ℕ) (ps : List (ℕ × ℕ)) (k : Kern) (es : List Event) (k1 : Kern) (es1 : List Event) (a : At (2 * i) k es (own k1) k1 es1) (e : own k1 0 ≡ 0) (h : entries i (own k1) ≡ drop (length ps - i) ps)
    (n : i ≡ length ps) (few : length ps ≤ 8) (w : Within (cells_of k.at) ps) where
  all : entries (length ps) (own k1) ≡ ps
  all = ap (λ j. entries j (own k1)) (sym n) ∙ h ∙ drop_whole ps i (omega arith)

  moment : {ok : Bool} {k2 : Kern} {es2 : List Event} → Does k1 (kept 0 (length ps) k1) es1 es1 ok k2 es2 → Sound k2 × (ok ≡ true → own k2 ≡ set 0 (length ps) (own k1)) × Atomic (2 * i + 1) (viewed k) (kept_all ps (viewed k)) es es ok (viewed k2) es2
  moment d = end_put a ps 0 (length ps) (committed (length ps) ps (own k1) e all) (committed_fine k.at (length ps) ps (own k1) all few w) d

-- the pairs with their numbers, from the last on
abbrev numbered : List (ℕ × ℕ) → List (ℕ × (ℕ × ℕ))
numbered ps = enumerate_from 0 (reverse ps)

many : (ps : List (ℕ × ℕ)) → length (numbered ps) ≡ length ps
many ps = length-enumerate_from 0 (reverse ps) ∙ length-reverse ps

place : (ps : List (ℕ × ℕ)) (n : ℕ) (p : ℕ × (ℕ × ℕ)) → (n < length (numbered ps)) × (p ≡ get_or (numbered ps) n p) → (n < length ps) × (p.0 ≡ n) × (p.1 ≡ get_or ps (length ps - 1 - n) p.1)
place ps n p t =
    let m = many ps in
    let h : n < length ps = omega (arith, t.0) in
    let e = t.1 ∙ get_or-enumerate_from 0 (reverse ps) n p (omega (arith, length-reverse ps)) in (h, omega (arith, ap (λ q. q.0) e), ap (λ q. q.1) e ∙ get_or-reverse ps n p.1 h)

-- one more is noted
more_noted : (ps : List (ℕ × ℕ)) (n m i : ℕ) (p : ℕ × ℕ) (f g : ℕ → ℕ) → (n < length ps) × (i ≡ n) × (p ≡ get_or ps (length ps - 1 - n) p) → m ≡ n + 1 → entries (i + 1) g ≡ p ∷ entries i f → entries n f ≡ drop (length ps - n) ps → entries m g ≡ drop (length ps - m) ps
more_noted ps n m i p f g t em e h = let b = drop_back ps n p t.0 in cc

pub loop-i-init : goal.loop-i-init
loop-i-init g c =
    record { can = search rules; finite = search rules; at = at_more (omega arith) (at_start _ _ c.requires.recovered.sound); settled = c.requires.recovered.settled; noted = drop_none c.args.pairs.now _ }

pub loop-i-preserved : goal.loop-i-preserved
loop-i-preserved g c =
    let p = c.in_ok-note.ensures in
    let l = c.loop-i.invariant in
    let road = YieldsList-from_enumerate {s = c.into_iter-i-iterator.result} (YieldsList-from_rev_slice c.args.pairs.now (cc)) (cc) in
    let t = place c.args.pairs.now _ _ (YieldsList-turn road c.loop-i.yielded _ c.loop-i.yielded_by _ _ _ c.in-Some.is c.next.ensures.steps) in
    let n = length_push c.loop-i.yielded (c.in-Some.i, c.in-Some.field-0-1) in
    record { can = search rules; finite = search rules; at = at_more (omega arith) (at_call l.at p.still.sound p.same refl); settled = p.still.settled refl; noted = more_noted c.args.pairs.now (length c.loop-i.yielded) _ c.in-Some.i _ _ _ t n (p.noted refl) l.noted }

pub returns-in_err-note-clause-done : goal.returns-in_err-note-clause-done
returns-in_err-note-clause-done g c =
    let no = not_ok c.from_residual.result c.from_residual.ensures.0 in
    let road = YieldsList-from_enumerate {s = c.into_iter-i-iterator.result} (YieldsList-from_rev_slice c.args.pairs.now (cc)) (cc) in
    let t = place c.args.pairs.now _ _ (YieldsList-turn road c.loop-i.yielded _ c.loop-i.yielded_by _ _ _ c.in-Some.is c.next.ensures.steps) in
    more (omega (arith, c.requires.few, t.0)) (lost_call c.loop-i.invariant.at _ _ _ c.in_err-note.ensures.same refl no)

pub returns-in_err-put : goal.returns-in_err-put
returns-in_err-put g c =
    let no = not_ok c.from_residual-in_err-put.result c.from_residual-in_err-put.ensures.0 in
    let l = c.loop-i.invariant in
    let road = YieldsList-from_enumerate {s = c.into_iter-i-iterator.result} (YieldsList-from_rev_slice c.args.pairs.now (cc)) (cc) in
    let end = (YieldsList-end road c.loop-i.yielded _ c.loop-i.yielded_by _ _ c.in-None.is c.next.ensures.steps).1 ∙ many c.args.pairs.now in
    let w = moment _ _ _ _ _ _ l.at l.settled l.noted end c.requires.few c.requires.within c.in_err-put.ensures in
    record { still = record { sound = w.0; settled = λ e. absurd (false≢true (sym no ∙ e)) }; done = more (omega (arith, c.requires.few, end)) (as_lost w.2 refl no) }

pub recover-requires : goal.recover-requires
recover-requires g c =
    let l = c.loop-i.invariant in
    let road = YieldsList-from_enumerate {s = c.into_iter-i-iterator.result} (YieldsList-from_rev_slice c.args.pairs.now (cc)) (cc) in
    let end = (YieldsList-end road c.loop-i.yielded _ c.loop-i.yielded_by _ _ c.in-None.is c.next.ensures.steps).1 ∙ many c.args.pairs.now in
    let w = moment _ _ _ _ _ _ l.at l.settled l.noted end c.requires.few c.requires.within c.in_ok-put.ensures in
    record { some = omega (arith, atomic_left w.2, c.requires.recovered.some, c.requires.few, end); sound = w.0 }

pub returns-clause-done : goal.returns-clause-done
returns-clause-done g c =
    let l = c.loop-i.invariant in
    let road = YieldsList-from_enumerate {s = c.into_iter-i-iterator.result} (YieldsList-from_rev_slice c.args.pairs.now (cc)) (cc) in
    let end = (YieldsList-end road c.loop-i.yielded _ c.loop-i.yielded_by _ _ c.in-None.is c.next.ensures.steps).1 ∙ many c.args.pairs.now in
    let w = moment _ _ _ _ _ _ l.at l.settled l.noted end c.requires.few c.requires.within c.in_ok-put.ensures in
    more (omega (arith, c.requires.few, end)) (then_stays w.2 refl c.recover.ensures.same)
