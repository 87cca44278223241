-- The parser inverts the printer, and no two lines have one text. Assumes nothing.
use Rattle.std.proofs.Common.{true, false, ◌≡◌, ℕ, ◌<◌, ◌≤◌, List, ◌∷◌, length, Some, None, Option, sym, ap, ◌∙◌, arith, MatchOption}
use Rattle.std.specs.List.{AllByRecursion}
use Rattle.std.proofs.lemmas.List.Elements.{All-from_recursion}
use Rattle.heal.specs.declared.Call.{Call}
use Rattle.heal.specs.declared.Call.TheVariants as call
use Rattle.script.specs.declared.Line.{Line}
use Rattle.script.specs.declared.Line.TheVariants as line
use Rattle.script.specs.declared.words.Token.{Token}
use Rattle.script.specs.declared.words.Token.TheVariants.{Number}
use Rattle.script.specs.Text.{text_of, Valid, ValidCall}
use Rattle.script.specs.Law.{ComesBack}
use Rattle.script.specs.Words.{spell, call_words, line_words}
use Rattle.script.specs.Cuts.{Readable, Shaped}
use Rattle.script.specs.Senses.{line_of}
use Rattle.script.proofs.Spelling.{line_text}
use Rattle.script.proofs.Meaning.{means, line_is, none_some, some_same}
use Rattle.script.proofs.Cutting.{spell_same}

shaped_of : (ts : List Token) → 0 < length ts → length ts ≤ 5 → AllByRecursion Readable ts → Shaped ts
shaped_of ts some few each = record { some = some; few = few; each = All-from_recursion Readable ts each }

-- the words of a valid line are such as a script may have
call_shaped : (p : ℕ) (c : Call) → p < 64 → ValidCall c → Shaped (Number p ∷ call_words c)
call_shaped p (call.Spawn n) h v = shaped_of _ (omega arith) (omega arith) (omega arith, (tt, (omega arith, tt)))
call_shaped p (call.Exit n) h v = shaped_of _ (omega arith) (omega arith) (omega arith, (tt, (omega arith, tt)))
call_shaped p call.Wait h v = shaped_of _ (omega arith) (omega arith) (omega arith, (tt, tt))
call_shaped p (call.Kill n) h v = shaped_of _ (omega arith) (omega arith) (omega arith, (tt, (omega arith, tt)))
call_shaped p (call.Open n true) h v = shaped_of _ (omega arith) (omega arith) (omega arith, (tt, (omega arith, (tt, tt))))
call_shaped p (call.Open n false) h v = shaped_of _ (omega arith) (omega arith) (omega arith, (tt, (omega arith, (tt, tt))))
call_shaped p (call.Close n) h v = shaped_of _ (omega arith) (omega arith) (omega arith, (tt, (omega arith, tt)))
call_shaped p (call.Read x y) h v = shaped_of _ (omega arith) (omega arith) (omega arith, (tt, (omega (arith, v.0), (omega (arith, v.1), tt))))
call_shaped p (call.Write x y z) h v = shaped_of _ (omega arith) (omega arith) (omega arith, (tt, (omega (arith, v.0), (omega (arith, v.1), (omega (arith, v.2), tt)))))
call_shaped p (call.Remove n) h v = shaped_of _ (omega arith) (omega arith) (omega arith, (tt, (omega arith, tt)))
call_shaped p call.Take h v = shaped_of _ (omega arith) (omega arith) (omega arith, (tt, tt))
call_shaped p call.Leave h v = shaped_of _ (omega arith) (omega arith) (omega arith, (tt, tt))
call_shaped p (call.Say x) h v = shaped_of _ (omega arith) (omega arith) (omega arith, (tt, (omega arith, tt)))
call_shaped p call.Hear h v = shaped_of _ (omega arith) (omega arith) (omega arith, (tt, tt))

shaped : (l : Line) → Valid l → Shaped (line_words l)
shaped (line.Ask p c) v = call_shaped p c v.1 v.2
shaped (line.Key n) v = shaped_of _ (omega arith) (omega arith) (tt, (omega arith, tt))
shaped (line.Rounds n) v = shaped_of _ (omega arith) (omega arith) (tt, (omega arith, tt))
shaped line.On v = shaped_of _ (omega arith) (omega arith) (tt, tt)
shaped (line.Fall s n true) v = shaped_of _ (omega arith) (omega arith) (tt, (omega (arith, v.0), (omega (arith, v.2), (tt, tt))))
shaped (line.Fall s n false) v = shaped_of _ (omega arith) (omega arith) (tt, (omega (arith, v.0), (omega (arith, v.2), (tt, tt))))
shaped (line.Falls s n) v = shaped_of _ (omega arith) (omega arith) (tt, (omega (arith, v.0), (omega (arith, v.1), tt)))
shaped line.New v = shaped_of _ (omega arith) (omega arith) (tt, tt)

-- what the words of a text mean, is the line that has this text
pub parsed : (s : List ℕ) (ws : List Token) (r : Option Line) → Shaped ws → s ≡ spell ws → r ≡ line_of ws → MatchOption r ((l : Line) → Valid l → s ≡ text_of l → ⊥) (λ l. Valid l × (s ≡ text_of l))
parsed s ws (Some l) h e f =
    let is = line_is ws l (sym f) in
    (is.1, e ∙ ap spell is.0 ∙ line_text l)
parsed s ws None h e f = λ l v g.
    let same = spell_same ws (line_words l) h (shaped l v) (sym e ∙ g ∙ sym (line_text l)) in
    none_some (f ∙ ap line_of same ∙ means l v)

-- a text with no such words is no line
pub no_words : (s : List ℕ) → ((ts : List Token) → Shaped ts → s ≡ spell ts → ⊥) → (l : Line) → Valid l → s ≡ text_of l → ⊥
no_words s none l v e = none (line_words l) (shaped l v) (e ∙ sym (line_text l))

pub comes_back : ComesBack
comes_back l m v w e =
    let same = spell_same (line_words l) (line_words m) (shaped l v) (shaped m w) (line_text l ∙ e ∙ sym (line_text m)) in
    some_same (sym (means l v) ∙ ap line_of same ∙ means m w)
