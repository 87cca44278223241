-- Messages in lists, and the measure. Whatever is an induction; `grind` does the rest.
-- Assumes nothing.
use Rattle.std.proofs.Common.{◌≡◌, ℕ, zero, suc, ◌+◌, ◌<◌, ◌≤◌, Bool, true, false, cond, T, eqb, ltb, List, [], ◌∷◌, ◌++◌, length, sym, refl, subst, arith}
use Rattle.std.proofs.lemmas.Bool.Decides.{nat_tests as tests}
use Rattle.heal.specs.declared.Call.{Call}
use Rattle.heal.specs.declared.Msg.{Msg}
use Rattle.heal.specs.declared.Msg.TheVariants.{Asks, Tells}
use Rattle.heal.specs.Kernel.{Pending, None', Some', is_call, server_of, set, tail}
use Rattle.heal.specs.House.{every}
use Rattle.heal.specs.Invariant.{Has, All, MsgOk, Fresh, Mail, occ, pos, far, last, done}

pub set_same : {A : Type 0} (p : ℕ) (x : A) (f : ℕ → A) → set p x f p ≡ x
set_same p x f = grind (arith, tests)

pub every_all : (n : ℕ) (f : ℕ → Bool) → ((p : ℕ) → T (f p)) → T (every n f)
unfolding every
every_all zero f h = tt
every_all (suc n) f h = let r = every_all n f h in let i = h n in grind arith

pub is_call_lem : (n : ℕ) (x : Pending) → is_call n x ≡ true → (c : Call) × (x ≡ Some' n c)
unfolding is_call
is_call_lem n None' e = grind (arith, tests)
is_call_lem n (Some' m c) e = (c, grind (arith, tests))

-- lists of messages
pub all_map : (P Q : Msg → Type 0) → ((m : Msg) → P m → Q m) → (xs : List Msg) → All P xs → All Q xs
all_map P Q h [] a = tt
all_map P Q h (x ∷ xs) a = (h x a.0, all_map P Q h xs a.1)

pub all_snoc : (P : Msg → Type 0) (xs : List Msg) (x : Msg) → All P xs → P x → All P (xs ++ (x ∷ []))
all_snoc P [] x a h = (h, tt)
all_snoc P (y ∷ xs) x a h = (a.0, all_snoc P xs x a.1 h)

pub all_tail : (P : Msg → Type 0) (xs : List Msg) → All P xs → All P (tail xs)
unfolding tail
all_tail P xs a = grind arith

pub all_tail_snoc : (P : Msg → Type 0) (xs : List Msg) (x : Msg) → All P (tail xs) → P x → All P (tail (xs ++ (x ∷ [])))
unfolding tail
all_tail_snoc P [] x a h = tt
all_tail_snoc P (y ∷ xs) x a h = all_snoc P xs x a h

pub has_old : (m : Msg) (xs ys : List Msg) → Has m xs → Has m (xs ++ ys)
has_old m [] ys h = grind arith
has_old m (x ∷ xs) ys h = let r = has_old m xs ys in grind arith

pub has_new : (m : Msg) (xs : List Msg) → Has m (xs ++ (m ∷ []))
has_new m [] = grind arith
has_new m (x ∷ xs) = let r = has_new m xs in grind arith

pub occ_tail : (q : ℕ) (xs : List Msg) → occ q (tail xs) ≤ occ q xs
unfolding occ tail
occ_tail q [] = omega arith
occ_tail q (Asks p n c ∷ xs) = omega arith
occ_tail q (Tells r k a b c ∷ xs) = omega arith

pub occ_snoc : (q p n : ℕ) (c : Call) (xs : List Msg) → occ q (xs ++ (Asks p n c ∷ [])) ≡ occ q xs + cond (eqb p q) 1 0
unfolding occ
occ_snoc q p n c [] = grind (arith, tests)
occ_snoc q p n c (Asks r m d ∷ xs) = let e = occ_snoc q p n c xs in omega arith
occ_snoc q p n c (Tells r k a b d ∷ xs) = occ_snoc q p n c xs

-- who has nothing pending has no message
pub occ_none : (pending : ℕ → Pending) (d : ℕ → ℕ) (σ q : ℕ) (xs : List Msg) → pending q ≡ None' → All (MsgOk pending d σ) xs → occ q xs ≡ 0
unfolding occ
occ_none pending d σ q [] e a = refl
occ_none pending d σ q (Asks p n c ∷ xs) e a = let r = occ_none pending d σ q xs e a.1 in grind (arith, tests)
occ_none pending d σ q (Tells r k x y z ∷ xs) e a = absurd a.0

-- the others stay fresh
pub fresh_other : (d e : ℕ → ℕ) (p : ℕ) → ((q : ℕ) → q < 64 → (q ≡ p → ⊥) → last e q ≡ last d q) → (pending : ℕ → Pending) (σ : ℕ) (xs : List Msg) → occ p xs ≡ 0 → All (MsgOk pending d σ) xs → All (Fresh d) xs → All (Fresh e) xs
unfolding occ
fresh_other d e p h pending σ [] z a b = tt
fresh_other d e p h pending σ (Asks q n c ∷ xs) z a b =
    let i : q ≡ p → ⊥ = λ (f : q ≡ p). grind (arith, tests) in
    let s = h q a.0.1 i in
    (omega arith, fresh_other d e p h pending σ xs (omega arith) a.1 b.1)
fresh_other d e p h pending σ (Tells r k x y w ∷ xs) z a b = absurd a.0

-- a box has at most one call of each
total : ℕ → List Msg → ℕ
total zero xs = 0
total (suc n) xs = occ n xs + total n xs

total_one : (n p m : ℕ) (c : Call) (xs : List Msg) → total n (Asks p m c ∷ xs) ≡ cond (ltb p n) 1 0 + total n xs
unfolding total occ
total_one zero p m c xs = grind (arith, tests)
total_one (suc n) p m c xs = let r = total_one n p m c xs in grind (arith, tests)

total_length : (pending : ℕ → Pending) (d : ℕ → ℕ) (σ : ℕ) (xs : List Msg) → All (MsgOk pending d σ) xs → length xs ≤ total 64 xs
total_length pending d σ [] a = omega arith
total_length pending d σ (Asks p n c ∷ xs) a = let r = total_length pending d σ xs a.1 in let t = total_one 64 p n c xs in grind (arith, tests)
total_length pending d σ (Tells r k x y w ∷ xs) a = absurd a.0

total_top : (n : ℕ) (xs : List Msg) → ((q : ℕ) → occ q xs ≤ 1) → total n xs ≤ n
unfolding total
total_top zero xs h = omega arith
total_top (suc n) xs h = let r = total_top n xs h in let i = h n in omega arith

pub box_few : (pending : ℕ → Pending) (d : ℕ → ℕ) (σ : ℕ) (xs : List Msg) → Mail pending d σ xs → length xs ≤ 64
box_few pending d σ xs m = omega (arith, total_length pending d σ xs m.fine, total_top 64 xs m.once)

-- mail under other cells
pub mail_same : (pending : ℕ → Pending) (d e : ℕ → ℕ) (σ : ℕ) (xs : List Msg) → ((p : ℕ) → p < 64 → last e p ≡ last d p) → ((p : ℕ) → p < 64 → done e p ≡ done d p) → Mail pending d σ xs → Mail pending e σ xs
unfolding tail
mail_same pending d e σ xs h i m =
    record { fine = all_map (MsgOk pending d σ) (MsgOk pending e σ) one xs m.fine; fresh = go xs m.fine m.fresh; once = m.once }
  where
    one : (x : Msg) → MsgOk pending d σ x → MsgOk pending e σ x
    one (Asks p n c) o = let j = i p o.1 in (o.0, o.1, o.2, o.3, omega arith)
    one (Tells r k x y w) o = o

    all_fresh : (ys : List Msg) → All (MsgOk pending d σ) ys → All (Fresh d) ys → All (Fresh e) ys
    all_fresh [] a b = tt
    all_fresh (Asks p n c ∷ ys) a b = let j = h p a.0.1 in (omega arith, all_fresh ys a.1 b.1)
    all_fresh (Tells r k x y w ∷ ys) a b = absurd a.0

    go : (ys : List Msg) → All (MsgOk pending d σ) ys → All (Fresh d) (tail ys) → All (Fresh e) (tail ys)
    go [] a b = tt
    go (y ∷ ys) a b = all_fresh ys a.1 b

-- the measure
pub far_top : (p w : ℕ) → p < 64 → far p w ≤ 192
unfolding far pos
far_top p w h = grind (arith, tests)

pub far_rest : (p : ℕ) → far p 0 ≡ 128
unfolding far pos
far_rest p = grind (arith, tests)

pub far_own : (p : ℕ) → 0 < p → p < 64 → far p p ≡ 33
unfolding far pos
far_own p l h = grind (arith, tests)

-- an operation at slot c is over
pub far_over : (p c : ℕ) → 0 < c → c < 64 → p < 64 → (p ≡ c → ⊥) → far p (64 + c) + 1 ≤ far p c
unfolding far pos
far_over p c l h i n = grind (arith, tests)

-- the sweep goes on from c to w
pub far_on : (p c w : ℕ) → 0 < c → c < 64 → w < 64 → p < 64 → (p ≡ c → ⊥) → (0 < w → c < w) → (c < p → (0 < w) × (w ≤ p)) → far p w + 1 ≤ far p c
unfolding far pos
far_on p c w l h i j n u v = grind (arith, tests)

pub far_told : (p c w : ℕ) → 0 < c → c < 64 → w < 64 → p < 64 → (p ≡ c → ⊥) → (0 < w → c < w) → (c < p → (0 < w) × (w ≤ p)) → far p w ≤ far p (64 + c)
unfolding far pos
far_told p c w l h i j n u v = grind (arith, tests)

-- it begins
pub far_begin : (p w : ℕ) → 0 < w → w ≤ p → p < 64 → far p w + 32 ≤ far p 0
unfolding far pos
far_begin p w l h i = grind (arith, tests)

pub mail_empty : (pending : ℕ → Pending) (d : ℕ → ℕ) (σ : ℕ) (xs : List Msg) → xs ≡ [] → Mail pending d σ xs
unfolding tail occ
mail_empty pending d σ xs e = subst (Mail pending d σ) (sym e) (record { fine = tt; fresh = tt; once = λ q. omega arith })

pub mail_tail : (pending : ℕ → Pending) (d : ℕ → ℕ) (σ : ℕ) (xs : List Msg) → Mail pending d σ xs → Mail pending d σ (tail xs)
mail_tail pending d σ xs m = record { fine = all_tail (MsgOk pending d σ) xs m.fine; fresh = all_tail (Fresh d) (tail xs) m.fresh; once = λ q. (let u = m.once q in let v = occ_tail q xs in omega arith) }

-- the first is accepted
pub mail_last : (pending : ℕ → Pending) (d e : ℕ → ℕ) (σ p n : ℕ) (c : Call) (ms xs : List Msg) → xs ≡ Asks p n c ∷ ms → ((q : ℕ) → q < 64 → (q ≡ p → ⊥) → last e q ≡ last d q) → ((q : ℕ) → q < 64 → done e q ≡ done d q) → Mail pending d σ xs → Mail pending e σ xs
unfolding tail occ
mail_last pending d e σ p n c ms xs f h i m' = subst (Mail pending e σ) (sym f) (
    let m : Mail pending d σ (Asks p n c ∷ ms) = subst (Mail pending d σ) f m' in
    let o = m.once p in
    record { fine = all_map (MsgOk pending d σ) (MsgOk pending e σ) one (Asks p n c ∷ ms) m.fine; fresh = fresh_other d e p h pending σ ms (grind (arith, tests)) m.fine.1 m.fresh; once = m.once })
  where
    one : (x : Msg) → MsgOk pending d σ x → MsgOk pending e σ x
    one (Asks q r y) o = let j = i q o.1 in (o.0, o.1, o.2, o.3, omega arith)
    one (Tells r k x y w) o = o

-- others are pending as they were, and this one has no message
pub mail_told : (pending : ℕ → Pending) (d : ℕ → ℕ) (σ p : ℕ) (x : Pending) (xs : List Msg) → ((n : ℕ) (c : Call) → pending p ≡ Some' n c → server_of c ≡ σ → done d p ≤ n → ⊥) → Mail pending d σ xs → Mail (set p x pending) d σ xs
mail_told pending d σ p x xs h m = record { fine = all_map (MsgOk pending d σ) (MsgOk (set p x pending) d σ) one xs m.fine; fresh = m.fresh; once = m.once }
  where
    one : (y : Msg) → MsgOk pending d σ y → MsgOk (set p x pending) d σ y
    one (Asks q n c) o =
        let z : q ≡ p → ⊥ = λ (e : q ≡ p). h n c (subst (λ t. pending t ≡ Some' n c) e o.2) o.3 (subst (λ t. done d t ≤ n) e o.4) in
        let e : set p x pending q ≡ Some' n c = grind (arith, tests) in
        (o.0, o.1, e, o.3, o.4)
    one (Tells r k y v w) o = o

-- one more
pub mail_asks : (pending : ℕ → Pending) (d : ℕ → ℕ) (p n : ℕ) (c : Call) (xs : List Msg) → 0 < p → p < 64 → pending p ≡ None' → last d p ≤ n → done d p ≤ n → Mail pending d (server_of c) xs → Mail (set p (Some' n c) pending) d (server_of c) (xs ++ (Asks p n c ∷ []))
mail_asks pending d p n c xs l s e h i m =
    let t = mail_told pending d (server_of c) p (Some' n c) xs (λ n' c' f g z. (let b : ◌≡◌ {A = Bool} true false = grind arith in grind arith)) m in
    record {
      fine = all_snoc (MsgOk (set p (Some' n c) pending) d (server_of c)) xs (Asks p n c) t.fine (l, s, set_same p (Some' n c) pending, refl, i);
      fresh = all_tail_snoc (Fresh d) xs (Asks p n c) t.fresh h;
      once = λ q. (let u = occ_snoc q p n c xs in let v = m.once q in let z = occ_none pending d (server_of c) p xs e m.fine in grind (arith, tests));
    }
