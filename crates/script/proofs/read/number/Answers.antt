use Rattle.std.proofs.Common.{◌≡◌, ◌+◌, ◌∙◌, length, ⊎_elim, arith}
use Rattle.script.proofs.Cutting.{of_none, some_digit, each_digit, no_nought, fits, digit_more, value_more, is_number}
use Rattle.script.proofs.read.number.Goals as goal

pub returns-in_err-first : goal.returns-in_err-first
returns-in_err-first c = of_none _ c.from_residual.ensures (λ n h e. omega (arith, some_digit c.args.word.now n h e, c.in_err-first.ensures.item))

pub returns-then-word-gt1 : goal.returns-then-word-gt1
returns-then-word-gt1 c n h e = omega (arith, c.in_ok-first.ensures.item.3.1 0, no_nought c.args.word.now n h e, c.if-first-eq48.true)

pub returns-then-not-is_ascii_digit : goal.returns-then-not-is_ascii_digit
returns-then-not-is_ascii_digit c n h e = omega (arith, each_digit c.args.word.now n h e c.loop-byte.byte-index c.loop-byte-test.true, c.if-not-is_ascii_digit.ensures.cases)

pub returns-in_err-checked_mul : goal.returns-in_err-checked_mul
returns-in_err-checked_mul c =
    let w = c.args.word.now in
    let i = c.loop-byte.byte-index in
    of_none _ c.from_residual-in_err-checked_mul.ensures (λ n h e. omega (arith, fits w n h e (i + 1), value_more w i c.loop-byte-test.true c.if-not-is_ascii_digit.ensures.cases, c.loop-byte.invariant.0, c.in_err-checked_mul.ensures))

pub returns-in_err-n : goal.returns-in_err-n
returns-in_err-n c =
    let w = c.args.word.now in
    let i = c.loop-byte.byte-index in
    of_none _ c.from_residual-in_err-n.ensures (λ n h e. omega (arith, fits w n h e (i + 1), value_more w i c.loop-byte-test.true c.if-not-is_ascii_digit.ensures.cases, c.loop-byte.invariant.0, c.in_ok-checked_mul.ensures, c.into.ensures, c.in_err-n.ensures))

pub loop-byte-preserved : goal.loop-byte-preserved
loop-byte-preserved c =
    let w = c.args.word.now in
    let i = c.loop-byte.byte-index in
    let h = c.if-not-is_ascii_digit.ensures.cases in
    (omega (arith, value_more w i c.loop-byte-test.true h, c.loop-byte.invariant.0, c.in_ok-checked_mul.ensures, c.into.ensures, c.in_ok-n.ensures), digit_more w i c.loop-byte-test.true h c.loop-byte.invariant.1, omega (arith, c.in_ok-n.ensures))

pub returns : goal.returns
returns c =
    let w = c.args.word.now in
    let at : c.loop-byte.byte-index ≡ length w = omega arith in
    let first = c.in_ok-first.ensures.item.3.1 0 in
    is_number w c.loop-byte.n (rw at at c.loop-byte.invariant.0) (rw at at c.loop-byte.invariant.1) c.in_ok-first.ensures.item.3.0 c.loop-byte.invariant.2 (λ f. ⊎_elim (λ z. z.1) (λ z. absurd (z (first ∙ f))) c.else-first-eq48.either)
