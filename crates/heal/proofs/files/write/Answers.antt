use Rattle.std.proofs.Common.{◌≡◌, ℕ, ◌+◌, ◌-◌, ◌%◌, ◌<◌, ◌≤◌, true, false, cond, eqb, max, ◌⊎◌, inl, inr, [], ◌∷◌, sym, refl, ap, ◌∙◌, subst, arith}
use Rattle.std.proofs.lemmas.Bool.Decides.{nat_tests as tests}
use Rattle.heal.specs.declared.Call.TheVariants.{Write}
use Rattle.heal.specs.declared.decision.Refusal.TheVariants.{NoSuchHandle, ReadOnly, PastEnd}
use Rattle.heal.specs.Kernel.{server_of}
use Rattle.heal.specs.Files.{size_at, word_at, name_in, writes_in}
use Rattle.heal.specs.Handles.{Holds}
use Rattle.heal.proofs.Deciders.{write_4, write_6, write_5, write_yes}
use Rattle.heal.proofs.Serving.{at_one}
use Rattle.heal.proofs.Looking.{looks, looked, found, length_is, handed, size_bounds, ends_by, ends_refused, ends}
use Rattle.heal.proofs.files.write.Goals as goal
use Rattle.heal.proofs.files.write.Goals.{then-index-ge256-via-then-index-ge256, then-index-ge256-via-else-index-ge256+then-length-index}

there : (h i x : ℕ) → server_of (Write h i x) ≡ 1
unfolding server_of
there h i x = refl

odd : (v : ℕ) → writes_in v ≡ true → (v - 1) % 2 ≡ 1
odd v e = grind (arith, tests)

even : (v : ℕ) → writes_in v ≡ false → (v - 1) % 2 ≡ 1 → ⊥
even v e f = grind (arith, tests)

-- a word written at the length makes the file longer; z: its word
longer : (i l z : ℕ) → z ≡ l + 1 → i ≤ l → max l (i + 1) + 1 ≡ cond (eqb (i + 1) z) (z + 1) z
longer i l z e h = grind (arith, tests)

shorter : (i l z : ℕ) → z ≡ l + 1 → (l < i) ⊎ (256 ≤ i) → (z < i + 1) ⊎ (256 ≤ i)
shorter i l z e h = grind arith

pub find_held-requires-clause-one : goal.find_held-requires-clause-one
find_held-requires-clause-one g c = at_one c.args.p (Write c.args.handle c.args.index c.args.word) _ c.requires.stand (there c.args.handle c.args.index c.args.word)

pub returns-in_err-held : goal.returns-in_err-held
returns-in_err-held g c =
    let L0 = looks (there c.args.handle c.args.index c.args.word) c.requires.able c.requires.stand in
    let L1 = looked L0 c.in_ok-find_held.ensures in
    let y = found L0 (Holds c.args.p c.args.handle) c.in_ok-find_held.ensures c.in_err-held.ensures.ok_part in
    ends_by L1 NoSuchHandle c.from_residual-in_err-held.result c.from_residual-in_err-held.ensures.1 (handed c.in_err-held.ensures.value c.in_err-held.ensures.ok_part) (write_4 c.args.p _ _ L0.one L0.stand.small c.args.handle c.args.index c.args.word L0.stand y) (omega arith)

pub returns-then-not-held : goal.returns-then-not-held
returns-then-not-held g c =
    let L0 = looks (there c.args.handle c.args.index c.args.word) c.requires.able c.requires.stand in
    let L1 = looked L0 c.in_ok-find_held.ensures in
    let y = found L0 (Holds c.args.p c.args.handle) c.in_ok-find_held.ensures c.in_ok-held.ensures.ok_part in
    ends_refused L1 ReadOnly (write_6 c.args.p _ _ L0.one L0.stand.small c.args.handle c.args.index c.args.word _ L0.stand y.0 refl y.1.0 (even _ (y.1.2 ∙ c.if-not-held.true))) (omega arith)

pub returns-in_err-length : goal.returns-in_err-length
returns-in_err-length g c =
    let L0 = looks (there c.args.handle c.args.index c.args.word) c.requires.able c.requires.stand in
    let L1 = looked L0 c.in_ok-find_held.ensures in
    let L2 = looked L1 c.in_ok-length_of.ensures in
    let y = found L0 (Holds c.args.p c.args.handle) c.in_ok-find_held.ensures c.in_ok-held.ensures.ok_part in
    let s = length_is L1 c.in_ok-length_of.ensures (sym y.1.1) c.in_err-length.ensures.ok_part in
    ends_by L2 PastEnd c.from_residual-in_err-length.result c.from_residual-in_err-length.ensures.1 (handed c.in_err-length.ensures.value c.in_err-length.ensures.ok_part)
    (write_5 c.args.p _ _ L0.one L0.stand.small c.args.handle c.args.index c.args.word _ L0.stand y.0 refl y.1.0 (odd _ (y.1.2 ∙ c.if-not-held.false)) (inl (omega (arith, s)))) (omega arith)

pub returns-then-index-ge256 : goal.returns-then-index-ge256
returns-then-index-ge256 g c =
    let L0 = looks (there c.args.handle c.args.index c.args.word) c.requires.able c.requires.stand in
    let L1 = looked L0 c.in_ok-find_held.ensures in
    let L2 = looked L1 c.in_ok-length_of.ensures in
    let y = found L0 (Holds c.args.p c.args.handle) c.in_ok-find_held.ensures c.in_ok-held.ensures.ok_part in
    let s = length_is L1 c.in_ok-length_of.ensures (sym y.1.1) c.in_ok-length.ensures.ok_part in
    let b : (c.in_ok-length.length < c.args.index) ⊎ (256 ≤ c.args.index) = elim c.then-index-ge256.branch [ then-index-ge256-via-then-index-ge256 w ↦ inr w.if-index-ge256.true | then-index-ge256-via-else-index-ge256+then-length-index w ↦ inl w.if-length-index.true ] in
    ends_refused L2 PastEnd (write_5 c.args.p _ _ L0.one L0.stand.small c.args.handle c.args.index c.args.word _ L0.stand y.0 refl y.1.0 (odd _ (y.1.2 ∙ c.if-not-held.false)) (shorter _ _ _ s b)) (omega arith)

pub size_word-requires : goal.size_word-requires
size_word-requires g c =
    let L0 = looks (there c.args.handle c.args.index c.args.word) c.requires.able c.requires.stand in
    let L1 = looked L0 c.in_ok-find_held.ensures in
    let y = found L0 (Holds c.args.p c.args.handle) c.in_ok-find_held.ensures c.in_ok-held.ensures.ok_part in
    let s = length_is L1 c.in_ok-length_of.ensures refl c.in_ok-length.ensures.ok_part in
    omega (arith, (size_bounds L0 c.args.handle c.in_ok-held.held y).1, s, c.max-grown.ensures, c.if-index-ge256.false)

pub returns : goal.returns
returns g c =
    let L0 = looks (there c.args.handle c.args.index c.args.word) c.requires.able c.requires.stand in
    let L1 = looked L0 c.in_ok-find_held.ensures in
    let L2 = looked L1 c.in_ok-length_of.ensures in
    let y = found L0 (Holds c.args.p c.args.handle) c.in_ok-find_held.ensures c.in_ok-held.ensures.ok_part in
    let s = length_is L1 c.in_ok-length_of.ensures (sym y.1.1) c.in_ok-length.ensures.ok_part in
    let n : name_in _ < 64 = subst (λ n. n < 64) (sym y.1.1) c.in_ok-held.held.name.small in
    ends L2 c.new.ensures.answer
    (c.new.ensures.writes ∙ (λ i. ((c.word_cell.ensures ∙ ap (λ n. word_at n c.args.index) (sym y.1.1)) i, c.args.word) ∷ ((c.size_cell.ensures ∙ ap size_at (sym y.1.1)) i, (c.size_word.ensures ∙ ap (λ n. n + 1) c.max-grown.ensures ∙ longer c.args.index _ _ s c.if-length-index.false) i) ∷ []))
    (write_yes c.args.p _ _ L0.one L0.stand.small c.args.handle c.args.index c.args.word _ _ L0.stand y.0 refl y.1.0 n (odd _ (y.1.2 ∙ c.if-not-held.false)) refl (omega (arith, s, c.if-length-index.false)) c.if-index-ge256.false) (omega arith)
