use Rattle.std.proofs.Common.{◌≡◌, ℕ, sym, refl, ap, ◌∙◌, arith}
use Rattle.heal.specs.declared.Call.TheVariants.{Read}
use Rattle.heal.specs.declared.decision.Refusal.TheVariants.{NoSuchHandle, PastEnd}
use Rattle.heal.specs.Kernel.{server_of}
use Rattle.heal.specs.Files.{word_at}
use Rattle.heal.specs.Handles.{Holds}
use Rattle.heal.proofs.Deciders.{in_files, read_4, read_5, read_yes}
use Rattle.heal.proofs.Serving.{at_one}
use Rattle.heal.proofs.Looking.{looks, looked, found, handed, length_is, word_is, size_bounds, seat, falls, ends_by, ends_refused, ends}
use Rattle.heal.proofs.files.read.Goals as goal

there : (h i : ℕ) → server_of (Read h i) ≡ 1
unfolding server_of
there h i = refl

pub find_held-requires-clause-one : goal.find_held-requires-clause-one
find_held-requires-clause-one g c = at_one c.args.p (Read c.args.handle c.args.index) _ c.requires.stand (there c.args.handle c.args.index)

pub returns-in_err-held : goal.returns-in_err-held
returns-in_err-held g c =
    let L0 = looks (there c.args.handle c.args.index) c.requires.able c.requires.stand in
    let L1 = looked L0 c.in_ok-find_held.ensures in
    let y = found L0 (Holds c.args.p c.args.handle) c.in_ok-find_held.ensures c.in_err-held.ensures.ok_part in
    ends_by L1 NoSuchHandle c.from_residual-in_err-held.result c.from_residual-in_err-held.ensures.1 (handed c.in_err-held.ensures.value c.in_err-held.ensures.ok_part) (read_4 c.args.p _ _ L0.one L0.stand.small c.args.handle c.args.index L0.stand y) (omega arith)

pub returns-in_err-length : goal.returns-in_err-length
returns-in_err-length g c =
    let L0 = looks (there c.args.handle c.args.index) c.requires.able c.requires.stand in
    let L1 = looked L0 c.in_ok-find_held.ensures in
    let L2 = looked L1 c.in_ok-length_of.ensures in
    let y = found L0 (Holds c.args.p c.args.handle) c.in_ok-find_held.ensures c.in_ok-held.ensures.ok_part in
    let s = length_is L1 c.in_ok-length_of.ensures (sym y.1.1) c.in_err-length.ensures.ok_part in
    ends_by L2 PastEnd c.from_residual-in_err-length.result c.from_residual-in_err-length.ensures.1 (handed c.in_err-length.ensures.value c.in_err-length.ensures.ok_part) (read_5 c.args.p _ _ L0.one L0.stand.small c.args.handle c.args.index _ L0.stand y.0 refl y.1.0 (omega (arith, s))) (omega arith)

pub returns-then-length-index : goal.returns-then-length-index
returns-then-length-index g c =
    let L0 = looks (there c.args.handle c.args.index) c.requires.able c.requires.stand in
    let L1 = looked L0 c.in_ok-find_held.ensures in
    let L2 = looked L1 c.in_ok-length_of.ensures in
    let y = found L0 (Holds c.args.p c.args.handle) c.in_ok-find_held.ensures c.in_ok-held.ensures.ok_part in
    let s = length_is L1 c.in_ok-length_of.ensures (sym y.1.1) c.in_ok-length.ensures.ok_part in
    ends_refused L2 PastEnd (read_5 c.args.p _ _ L0.one L0.stand.small c.args.handle c.args.index _ L0.stand y.0 refl y.1.0 (omega (arith, s, c.if-length-index.true))) (omega arith)

pub word_cell-requires : goal.word_cell-requires
word_cell-requires g c =
    let L0 = looks (there c.args.handle c.args.index) c.requires.able c.requires.stand in
    let L1 = looked L0 c.in_ok-find_held.ensures in
    let y = found L0 (Holds c.args.p c.args.handle) c.in_ok-find_held.ensures c.in_ok-held.ensures.ok_part in
    let s = length_is L1 c.in_ok-length_of.ensures refl c.in_ok-length.ensures.ok_part in
    omega (arith, (size_bounds L0 c.args.handle c.in_ok-held.held y).1, s, c.if-length-index.false)

pub read-requires-clause-within : goal.read-requires-clause-within
read-requires-clause-within g c =
    let L0 = looks (there c.args.handle c.args.index) c.requires.able c.requires.stand in
    let L1 = looked L0 c.in_ok-find_held.ensures in
    let L2 = looked L1 c.in_ok-length_of.ensures in
    let y = found L0 (Holds c.args.p c.args.handle) c.in_ok-find_held.ensures c.in_ok-held.ensures.ok_part in
    let s = length_is L1 c.in_ok-length_of.ensures refl c.in_ok-length.ensures.ok_part in
    in_files _ _ (seat L2) (omega (arith, c.in_ok-held.held.name.small, (size_bounds L0 c.args.handle c.in_ok-held.held y).1, s, c.if-length-index.false, c.word_cell.ensures))

pub returns-in_err-word : goal.returns-in_err-word
returns-in_err-word g c =
    let L0 = looks (there c.args.handle c.args.index) c.requires.able c.requires.stand in
    let L1 = looked L0 c.in_ok-find_held.ensures in
    let L2 = looked L1 c.in_ok-length_of.ensures in
    falls L2 c.from_residual-in_err-word.result c.from_residual-in_err-word.ensures.1 c.in_err-word.ensures.after (omega arith)

pub returns : goal.returns
returns g c =
    let L0 = looks (there c.args.handle c.args.index) c.requires.able c.requires.stand in
    let L1 = looked L0 c.in_ok-find_held.ensures in
    let L2 = looked L1 c.in_ok-length_of.ensures in
    let L3 = looked L2 c.in_ok-word.ensures in
    let y = found L0 (Holds c.args.p c.args.handle) c.in_ok-find_held.ensures c.in_ok-held.ensures.ok_part in
    let s = length_is L1 c.in_ok-length_of.ensures (sym y.1.1) c.in_ok-length.ensures.ok_part in
    let w = word_is L2 c.in_ok-word.ensures (c.word_cell.ensures ∙ ap (λ n. word_at n c.args.index) (sym y.1.1)) in
    ends L3 c.new.ensures.answer c.new.ensures.writes (read_yes c.args.p _ _ L0.one L0.stand.small c.args.handle c.args.index _ _ L0.stand y.0 refl y.1.0 (omega (arith, s, c.if-length-index.false)) w) (omega arith)
