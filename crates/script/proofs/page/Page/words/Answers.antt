use Rattle.std.proofs.Common.{◌+◌, ◌++◌, drop, sym, refl, ap, ◌∙◌, append-nil}
use Rattle.std.proofs.lemmas.List.{nil_from_length}
use Rattle.script.specs.Words.{spell}
use Rattle.script.specs.Pages.{written}
use Rattle.script.proofs.Spelling.{after, first_words, spell_after, one_more_word, words_then, words_whole}
use Rattle.script.proofs.Writing.{fails_first, fails_later, partly_as, not_written, written_on}
use Rattle.script.proofs.page.Page.words.Goals as goal

pub returns-in_default : goal.returns-in_default
unfolding spell
returns-in_default c = record { stays = refl; text = sym (append-nil _) ∙ ap (λ ws. written c.args.self.now ++ spell ws) (sym (nil_from_length c.args.words.now c.in_default.ensures.cases)) }

pub returns-in_err-word : goal.returns-in_err-word
returns-in_err-word c =
    let first = c.in-Some.first.now in
    let others = c.in-Some.others.now in
    not_written _ c.from_residual.ensures.0 c.word.ensures.stays (partly_as (fails_first c.in_err-word.ensures.text (after others)) _ (sym (spell_after first others) ∙ ap spell (sym c.in-Some.ensures.cases.0)))

pub returns-in_err-next_word : goal.returns-in_err-next_word
returns-in_err-next_word c =
    let words = c.args.words.now in
    let first = c.in-Some.first.now in
    let others = c.in-Some.others.now in
    let i = c.loop-word.word-index in
    let part = fails_later (first_words words i) c.loop-word.invariant.1 c.loop-word.invariant.0 c.in_err-next_word.ensures.text in
    let more = one_more_word words first others c.in-Some.ensures.cases.0 i _ c.loop-word-test.true in
    not_written _ c.from_residual-in_err-next_word.ensures.0 (c.next_word.ensures.stays ∙ c.loop-word.invariant.0)
    (partly_as (fails_first part (after (drop (i + 1) others))) _ (ap (λ l. l ++ after (drop (i + 1) others)) (sym more) ∙ words_then words first others c.in-Some.ensures.cases.0 (i + 1)))

pub loop-word-preserved : goal.loop-word-preserved
loop-word-preserved c =
    let i = c.loop-word.word-index in
    let more = one_more_word c.args.words.now c.in-Some.first.now c.in-Some.others.now c.in-Some.ensures.cases.0 i _ c.loop-word-test.true in
    (c.next_word.ensures.stays ∙ c.loop-word.invariant.0, written_on _ (first_words c.args.words.now i) _ _ _ _ c.in_ok-next_word.ensures.text c.loop-word.invariant.1 (sym more))

pub returns : goal.returns
returns c =
    record {
      stays = c.loop-word.invariant.0;
      text = c.loop-word.invariant.1 ∙ ap (λ l. written c.args.self.now ++ l) (words_whole c.args.words.now c.in-Some.first.now c.in-Some.others.now c.in-Some.ensures.cases.0 c.loop-word.word-index c.loop-word-test.false);
    }
