-- The words of a text, for contracts of private functions: no public contract names these. Assumes nothing.
use Rattle.std.specs.Prelude.{ℕ, ◌^◌, ◌<◌, ◌≤◌, List, [], ◌∷◌, length, Option, All, ⊤}
use Rattle.std.specs.List.{find}
use Rattle.std.specs.Str.{bytes_eq}
use Rattle.script.specs.declared.words.Keyword.{Keyword}
use Rattle.script.specs.declared.words.Keyword.TheVariants as word
use Rattle.script.specs.declared.words.Token.{Token}
use Rattle.script.specs.declared.words.Token.TheVariants.{Number, Asked, Word}
use Rattle.script.specs.Words.{keyword_text}

abbrev pub keywords : List Keyword
keywords =
    word.Spawn ∷ word.Exit ∷ word.Wait ∷ word.Kill ∷ word.Open ∷ word.Close ∷ word.Read ∷ word.Write ∷ word.Remove ∷ word.Take ∷ word.Leave ∷ word.Say ∷ word.Hear ∷ word.Key ∷ word.Round ∷ word.On ∷ word.Fall ∷ word.Falls ∷ word.New ∷ word.W ∷ word.R ∷ word.After ∷ word.Before ∷ word.Pid ∷ word.Handle ∷ word.Ended ∷ word.Word ∷ word.No ∷ word.Done ∷ word.Screen ∷ word.Begin ∷ word.Stop ∷ word.Busy ∷ word.Gone ∷ word.Line ∷ word.Gave ∷ word.Up ∷ []

-- the keyword with that text
abbrev pub keyword_of : List ℕ → Option Keyword
keyword_of text = find (λ k. bytes_eq (keyword_text k) text) keywords

-- a word that a script may have
abbrev pub Readable : Token → Type 0
Readable (Number n) = n < 2 ^ 64
Readable (Asked n) = ⊥
Readable (Word k) = ⊤

-- as many of them as a line has
pub record Shaped (words : List Token) : Type 0 where
  pub some : 0 < length words
  pub few : length words ≤ 5
  pub each : All Readable words
