-- The steps of accepting a call.
-- Assumes nothing.
use Rattle.std.proofs.Common.{◌≡◌, ℕ, ◌+◌, ◌<◌, ◌≤◌, ◌||◌, T, eqb, ◌⊎◌, List, ◌∷◌, length, sym, ap, ◌∙◌, subst, arith}
use Rattle.std.proofs.lemmas.Bool.Decides.{nat_tests as tests}
use Rattle.heal.specs.declared.Call.{Call}
use Rattle.heal.specs.declared.Msg.{Msg}
use Rattle.heal.specs.declared.Msg.TheVariants.{Asks}
use Rattle.heal.specs.Kernel.{Event, Kern, kept, taken, tail}
use Rattle.heal.specs.Journal.{viewed}
use Rattle.heal.specs.Codec.{call_of}
use Rattle.heal.specs.Ready.{has}
use Rattle.heal.specs.Invariant.{Inv, All, MsgOk, last, sweep}
use Rattle.heal.specs.Turn.{Exact, Keeps, cells, Storing, Stored, Fewer}
use Rattle.heal.proofs.Kept.{words_kept, last_kept, take_kept}
use Rattle.heal.proofs.Steps.{put_cell, put_box}

pub has_in : (p q bits m y : ℕ) → ((r : ℕ) → has r m ≡ has r bits || eqb p r) → bits ≡ y → T (has q y) → T (has q m)
has_in p q bits m y h e t = let f = h q in let g : has q bits ≡ has q y = ap (has q) e in grind (arith, tests)

pub has_new' : (p bits m : ℕ) → ((r : ℕ) → has r m ≡ has r bits || eqb p r) → T (has p m)
has_new' p bits m h = let f = h p in grind (arith, tests)

-- which cells hold the words of p's call
abbrev pub Word : ℕ → ℕ → Type 0
Word p j = (j ≡ 192 + p) ⊎ ((j ≡ 256 + p) ⊎ ((j ≡ 320 + p) ⊎ (j ≡ 384 + p)))

pub head_fine : (a : ℕ → ℕ) (k : Kern) (es : List Event) (p n : ℕ) (c : Call) (ms : List Msg) → k.box k.at ≡ Asks p n c ∷ ms → Inv a k es → MsgOk k.pending (k.cell k.at) k.at (Asks p n c)
head_fine a k es p n c ms e i = (subst (All (MsgOk k.pending (k.cell k.at) k.at)) e (i.2.mail k.at).fine).0

pub word_keeps : (p n : ℕ) (c : Call) (k : Kern) (es : List Event) (j x : ℕ) → p < 64 → Word p j → Storing p n c (k.box k.at) (k.cell k.at) → Keeps k es (kept j x k) es
word_keeps p n c k es j x s w h a i = let o = head_fine a k es p n c h.rest h.head i in words_kept a k es i p n c j x s o.2 o.3 h.fresh w

pub word_storing : (p n : ℕ) (c : Call) (j x : ℕ) (k l : Kern) (es fs : List Event) → p < 64 → Word p j → Storing p n c (k.box k.at) (cells k) → Exact (kept j x (viewed k)) es l fs → Storing p n c (l.box l.at) (cells l)
word_storing p n c j x k l es fs s w h e =
    let pc = put_cell j x k e in
    let p1 = pc (64 + p) in let p2 = pc 32 in let p3 = pc 36 in
    let e1 : cells l (64 + p) ≡ cells k (64 + p) = grind (arith, tests) in
    let e2 : cells l 32 ≡ cells k 32 = grind (arith, tests) in
    let e3 : cells l 36 ≡ cells k 36 = grind (arith, tests) in
    let hf = h.fresh in let hc = h.calm in
    record { rest = h.rest; head = ap (λ κ. κ.box κ.at) e.is ∙ h.head; fresh = omega arith; calm = omega arith; bit = subst (λ y. T (has p y)) (sym e3) h.bit }

-- the four words are there
pub words_there : (p a b c d : ℕ) (k0 k1 k2 k3 k4 : Kern) (e0 e1 e2 e3 e4 : List Event) → p < 64 → Exact (kept (192 + p) a (viewed k0)) e0 k1 e1 → Exact (kept (256 + p) b (viewed k1)) e1 k2 e2 → Exact (kept (320 + p) c (viewed k2)) e2 k3 e3 → Exact (kept (384 + p) d (viewed k3)) e3 k4 e4 →
    call_of (cells k4 (192 + p)) (cells k4 (256 + p)) (cells k4 (320 + p)) (cells k4 (384 + p)) ≡ call_of a b c d
words_there p a b c d k0 k1 k2 k3 k4 e0 e1 e2 e3 e4 s f1 f2 f3 f4 =
    let g1 = put_cell _ _ _ f1 in let g2 = put_cell _ _ _ f2 in let g3 = put_cell _ _ _ f3 in let g4 = put_cell _ _ _ f4 in
    let x1 = g1 (192 + p) in let x2 = g2 (192 + p) in let x3 = g3 (192 + p) in let x4 = g4 (192 + p) in
    let y2 = g2 (256 + p) in let y3 = g3 (256 + p) in let y4 = g4 (256 + p) in
    let z3 = g3 (320 + p) in let z4 = g4 (320 + p) in
    let w4 = g4 (384 + p) in
    let u1 : cells k4 (192 + p) ≡ a = grind (arith, tests) in
    let u2 : cells k4 (256 + p) ≡ b = grind (arith, tests) in
    let u3 : cells k4 (320 + p) ≡ c = grind (arith, tests) in
    let u4 : cells k4 (384 + p) ≡ d = grind (arith, tests) in cc

pub last_keeps : (p n : ℕ) (c : Call) (k : Kern) (es : List Event) → Storing p n c (k.box k.at) (k.cell k.at) → call_of (k.cell k.at (192 + p)) (k.cell k.at (256 + p)) (k.cell k.at (320 + p)) (k.cell k.at (384 + p)) ≡ c → Keeps k es (kept (64 + p) (n + 1) k) es
last_keeps p n c k es h e a i = last_kept a k es i p n c h.rest h.head h.fresh h.calm h.bit e

-- all five puts
pub stored : (p n a b c d : ℕ) (k0 k1 k2 k3 k4 k5 : Kern) (e0 e1 e2 e3 e4 e5 : List Event) → p < 64 → Exact (kept (192 + p) a (viewed k0)) e0 k1 e1 → Exact (kept (256 + p) b (viewed k1)) e1 k2 e2 → Exact (kept (320 + p) c (viewed k2)) e2 k3 e3 → Exact (kept (384 + p) d (viewed k3)) e3 k4 e4 → Exact (kept (64 + p) (n + 1) (viewed k4)) e4 k5 e5 → Stored p n k0 k5
stored p n a b c d k0 k1 k2 k3 k4 k5 e0 e1 e2 e3 e4 e5 s f1 f2 f3 f4 f5 =
    let x1 = put_cell _ _ _ f1 32 in let x2 = put_cell _ _ _ f2 32 in let x3 = put_cell _ _ _ f3 32 in let x4 = put_cell _ _ _ f4 32 in let x5 = put_cell _ _ _ f5 32 in
    let y5 = put_cell _ _ _ f5 (64 + p) in
    record { there = grind (arith, tests); boxes = put_box _ _ _ f5 ∙ (put_box _ _ _ f4 ∙ (put_box _ _ _ f3 ∙ (put_box _ _ _ f2 ∙ put_box _ _ _ f1))); swept = grind (arith, tests) }

-- before the words: the bit
pub storing : (p n m : ℕ) (c : Call) (k l : Kern) (es fs : List Event) → p < 64 → (ms : List Msg) → k.box k.at ≡ Asks p n c ∷ ms → last (cells k) p ≤ n → sweep (cells k) < 64 → T (has p m) → Exact (kept 36 m (viewed k)) es l fs → Storing p n c (l.box l.at) (cells l)
storing p n m c k l es fs s ms h f z t e =
    let pc = put_cell 36 m k e in
    let p1 = pc (64 + p) in let p2 = pc 32 in let p3 = pc 36 in
    let e1 : cells l (64 + p) ≡ cells k (64 + p) = grind (arith, tests) in
    let e2 : cells l 32 ≡ cells k 32 = grind (arith, tests) in
    let e3 : cells l 36 ≡ m = grind (arith, tests) in
    record { rest = ms; head = ap (λ κ. κ.box κ.at) e.is ∙ h; fresh = omega arith; calm = omega arith; bit = subst (λ y. T (has p y)) (sym e3) t }

pub take_keeps : (p n : ℕ) (c : Call) (k : Kern) (es : List Event) (ms : List Msg) → k.box k.at ≡ Asks p n c ∷ ms → n < last (k.cell k.at) p → Keeps k es (taken k) es
take_keeps p n c k es ms h l a i = take_kept a k es i p n c ms h l

pub fewer : (p n : ℕ) (c : Call) (ms : List Msg) (k l m : Kern) (es fs : List Event) → k.box k.at ≡ Asks p n c ∷ ms → l.box ≡ k.box → l.at ≡ k.at → sweep (cells l) ≡ sweep (cells k) → Exact (taken (viewed l)) es m fs → Fewer k m
unfolding tail
fewer p n c ms k l m es fs h b s w e =
    let z : m.box m.at ≡ tail (l.box l.at) = ap (λ κ. κ.box κ.at) e.is ∙ grind (arith, tests) in
    let y : l.box l.at ≡ Asks p n c ∷ ms = ap (λ f. f l.at) b ∙ (ap k.box s ∙ h) in
    let x : m.box m.at ≡ ms = z ∙ ap tail y in
    record { less = (let u = ap length x in let v : length (k.box k.at) ≡ length ms + 1 = ap length h ∙ omega arith in omega arith); swept = ap (λ κ. κ.cell κ.at 32) e.is ∙ w }
