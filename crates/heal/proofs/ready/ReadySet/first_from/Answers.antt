use Rattle.std.proofs.Common.{◌≡◌, ℕ, ◌+◌, ◌-◌, ◌/◌, ◌%◌, ◌^◌, ◌<◌, ◌≤◌, not, T, sym, ap, ◌∙◌, arith, rules, tests}
use Rattle.std.specs.Int.{bit_at, w64, trailing_zeros}
use Rattle.std.proofs.Math.Nat.{div-eq_of_lt, pow-le-pow_right}
use Rattle.std.proofs.lemmas.Nat.{shr-shr}
use Rattle.std.proofs.lemmas.Nat.Bits.{bit_at-zero, bit_at-trailing_zeros}
use Rattle.heal.specs.Ready.{has}
use Rattle.heal.proofs.ready.ReadySet.first_from.Goals as goal

-- bit p of m, in what is left from c on
bit_from : (m c p : ℕ) → c ≤ p → bit_at m p ≡ bit_at (m / 2 ^ c) (p - c)
bit_from m c p h = let e : c + (p - c) ≡ p = omega arith in ap (λ x. m / 2 ^ x % 2) (sym e) ∙ ap (λ x. x % 2) (sym (shr-shr m c (p - c)))

is_in : (m p : ℕ) → bit_at m p ≡ 1 → T (has p m)
unfolding has
is_in m p e = grind (arith, tests)

is_out : (m p : ℕ) → bit_at m p ≡ 0 → T (not (has p m))
unfolding has
is_out m p e = grind (arith, tests)

-- a word has no bit from 64 on
no_high : (m p : ℕ) → m < 2 ^ 64 → 64 ≤ p → bit_at m p ≡ 1 → ⊥
no_high m p h l e =
    let low : m < 2 ^ p = omega (arith, pow-le-pow_right {n = 2} (omega arith) l) in
    let none : m / 2 ^ p ≡ 0 = div-eq_of_lt low in
    omega (arith, ap (λ x. x % 2) none)

below_unless : (x y : ℕ) → (y ≤ x → ⊥) → x < y
below_unless x y h = omega arith

pub returns-then-rest-eq0 : goal.returns-then-rest-eq0
returns-then-rest-eq0 c = λ p a b. is_out c.args.self.bits p (bit_from c.args.self.bits c.args.c p a ∙ ap (λ r. bit_at r (p - c.args.c)) (sym c.in_ok-rest.ensures.1 ∙ c.if-rest-eq0.true) ∙ bit_at-zero (p - c.args.c))

pub returns : goal.returns
returns c =
    let m = c.args.self.bits in
    let r = c.in_ok-rest.rest in
    let t = trailing_zeros w64 r in
    let small : r < 2 ^ 64 = search rules in
    let fits : m < 2 ^ 64 = search rules in
    let z = bit_at-trailing_zeros w64 r (omega (arith, c.if-rest-eq0.false)) small in
    let at : (p : ℕ) → c.args.c ≤ p → bit_at m p ≡ bit_at r (p - c.args.c) = λ p l. bit_from m c.args.c p l ∙ ap (λ x. bit_at x (p - c.args.c)) (sym c.in_ok-rest.ensures.1) in
    let back : (c.args.c + t) - c.args.c ≡ t = omega arith in
    let one : bit_at m (c.args.c + t) ≡ 1 = at (c.args.c + t) (omega arith) ∙ ap (λ x. bit_at r x) back ∙ z.1 in
    (omega arith, below_unless (c.args.c + t) 64 (λ l. no_high m (c.args.c + t) fits l one), is_in m (c.args.c + t) one, λ p a b. is_out m p (at p a ∙ z.2 (p - c.args.c) (omega arith)))
