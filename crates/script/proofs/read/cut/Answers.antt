use Rattle.std.proofs.Common.{◌≡◌, ◌<◌, ◌≤◌, rules, eqb, get_or, [], ◌∷◌, ◌++◌, length, sym, ap, ◌∙◌, arith}
use Rattle.std.proofs.lemmas.Iterator.Consumers.{YieldsList-turn, YieldsList-end}
use Rattle.std.proofs.lemmas.Iterator.Splits.{YieldsList-from_slice_split}
use Rattle.std.proofs.lemmas.List.{length-map}
use borrow.Author.Tests.{tests}
use Rattle.script.specs.Words.{spelt}
use Rattle.script.proofs.Cutting.{pieces, of_none, no_word, too_many, all_words, one_more}
use Rattle.script.proofs.read.cut.Goals.{In-Some}
use Rattle.script.proofs.read.cut.Goals as goal

-- the piece that is read, among all
next_piece : (c : In-Some) → (length c.loop-word.yielded < length (pieces c.args.text.now)) × (c.in-Some.word.now ≡ get_or (pieces c.args.text.now) (length c.loop-word.yielded) c.in-Some.word.now)
next_piece c =
    YieldsList-turn (YieldsList-from_slice_split _ (λ b. eqb b 32) c.args.text.now (cc) (cc) (cc) (λ x b q k. search (rules, tests))) c.loop-word.yielded _ c.loop-word.yielded_by _ _ c.in-Some.word c.in-Some.is c.next.ensures.steps

pub returns-in_err-token_of : goal.returns-in_err-token_of
returns-in_err-token_of c =
    of_none _ c.from_residual.ensures (no_word c.args.text.now c.in-Some.word.now (length c.loop-word.yielded) (next_piece (goal.at.returns-in_err-token_of c).In-Some) c.in_err-token_of.ensures)

pub loop-word-preserved : goal.loop-word-preserved
loop-word-preserved c =
    let new : c.try_push.new.self.items ≡ c.loop-word.words.items ++ c.in_ok-token_of.field-0 ∷ [] = search rules in
    let more = one_more c.loop-word.words.items c.try_push.new.self.items c.in_ok-token_of.field-0 c.loop-word.yielded c.in-Some.word c.loop-word.invariant.2 c.loop-word.invariant.3 c.in_ok-token_of.ensures new in
    let few : length c.try_push.new.self.items ≤ 5 = search rules in
    (search rules, tt, more.0, more.1, few)

pub returns-in_err-ok : goal.returns-in_err-ok
returns-in_err-ok c =
    let full : 5 ≤ length c.loop-word.words.items = search rules in
    let same : length c.loop-word.words.items ≡ length c.loop-word.yielded = sym (length-map c.loop-word.words.items spelt) ∙ ap length c.loop-word.invariant.2 ∙ length-map c.loop-word.yielded (λ x. x.now) in
    of_none _ c.from_residual-in_err-ok.ensures (too_many c.args.text.now (length c.loop-word.yielded) (next_piece (goal.at.returns-in_err-ok c).In-Some).0 (omega (arith, full, same)))

pub returns : goal.returns
returns c =
    let all = YieldsList-end (YieldsList-from_slice_split _ (λ b. eqb b 32) c.args.text.now (cc) (cc) (cc) (λ x b q k. search (rules, tests))) c.loop-word.yielded _ c.loop-word.yielded_by _ _ c.in-None.is c.next.ensures.steps in
    all_words c.args.text.now c.loop-word.words.items (c.loop-word.invariant.2 ∙ all.0) c.loop-word.invariant.3 c.loop-word.invariant.4
