-- A text is cut at its blanks, and numbers are read. Assumes nothing.
use Rattle.std.proofs.Common.{◌≡◌, ℕ, ◌+◌, ◌-◌, ◌*◌, ◌^◌, take, ◌<◌, ◌≤◌, ⊎_elim, Bool, true, false, ◌&&◌, leb, eqb, List, [], ◌∷◌, ◌++◌, map, length, get_or, decimal, cond, Some, None, Option, MatchOption, Bor, sym, refl, ap, ◌∙◌, subst, arith, All}
use Rattle.std.specs.List.{slice_split, join_with_byte, find, list_all}
use Rattle.std.specs.Int.{IsInRange}
use Rattle.std.specs.Str.{bytes_eq}
use Rattle.std.specs.Str.Parse.{AllDigits, digits_value}
use Rattle.std.proofs.lemmas.Option.{none-some}
use Rattle.std.proofs.lemmas.Slice.Eq.{bytes_eq-Decides}
use Rattle.std.proofs.lemmas.Str.{digit_value_digit}
use Rattle.std.proofs.lemmas.Int.Digits.{digits_value_more, digits_more}
use Rattle.std.specs.Char.{digit_value}
use Rattle.std.proofs.lemmas.List.{length-map, map-append, take_all}
use Rattle.std.proofs.lemmas.Bool.{and_parts, leb-true, ne_eqb, cases_lt}
use Rattle.std.proofs.lemmas.Fmt.{decimal_injective, decimal_nonempty, first_decimal, length-decimal-le, digits_decimal, digits_value-decimal, decimal-digits_value}
use Rattle.std.proofs.lemmas.List.Elements.{All-head, All-tail, All-from_get_or, All-map, All-same, All-push}
use Rattle.std.proofs.lemmas.List.Recursion.{and_at}
use Rattle.std.proofs.lemmas.List.Splits.{slice_split_none, slice_split_at, length-slice_split, join_with_byte-slice_split}
use Rattle.std.proofs.lemmas.Str.Parse.{IsNumeralModel, numerals_by_value, tells_digits, digit_at, digits_value-take-le}
use Rattle.script.specs.declared.words.Keyword.{Keyword}
use Rattle.script.specs.declared.words.Keyword.TheVariants as word
use Rattle.script.specs.declared.words.Token.{Token}
use Rattle.script.specs.declared.words.Token.TheVariants.{Number, Asked, Word}
use Rattle.script.specs.Words.{keyword_text, spelt, spell}
use Rattle.script.specs.Cuts.{keywords, keyword_of, Readable, Shaped}
use Rattle.script.proofs.Meaning.{some_same}

-- what passes one test in a list of which all pass another, passes both
module _ {X : Type 0} (p q : X → Bool) (x : X) where
  here : (y : X) (ys : List X) (b : Bool) → p y ≡ b → (q y && list_all q ys) ≡ true → (list_all q ys ≡ true → find p ys ≡ Some x → (p x ≡ true) × (q x ≡ true)) → cond b (Some y) (find p ys) ≡ Some x → (p x ≡ true) × (q x ≡ true)
  here y ys true t all later e = (ap p (sym (some_same e)) ∙ t, ap q (sym (some_same e)) ∙ (and_parts (q y) (list_all q ys) all).0)
  here y ys false t all later e = later (and_parts (q y) (list_all q ys) all).1 e

  passes : (xs : List X) → list_all q xs ≡ true → find p xs ≡ Some x → (p x ≡ true) × (q x ≡ true)
  passes [] all e = absurd (none-some x e)
  passes (y ∷ ys) all e = here y ys (p y) refl all (passes ys) e

-- a keyword that is found has that text
pub keyword_is : (w : List ℕ) (k : Keyword) → keyword_of w ≡ Some k → w ≡ keyword_text k
keyword_is w k e = sym ((bytes_eq-Decides (keyword_text k) w).0 (passes (λ j. bytes_eq (keyword_text j) w) (λ _. true) k keywords refl e).0)

-- and each is found by its text
keyword_found : (k : Keyword) → keyword_of (keyword_text k) ≡ Some k
keyword_found word.Spawn = refl
keyword_found word.Exit = refl
keyword_found word.Wait = refl
keyword_found word.Kill = refl
keyword_found word.Open = refl
keyword_found word.Close = refl
keyword_found word.Read = refl
keyword_found word.Write = refl
keyword_found word.Remove = refl
keyword_found word.Take = refl
keyword_found word.Leave = refl
keyword_found word.Say = refl
keyword_found word.Hear = refl
keyword_found word.Key = refl
keyword_found word.Round = refl
keyword_found word.On = refl
keyword_found word.Fall = refl
keyword_found word.Falls = refl
keyword_found word.New = refl
keyword_found word.W = refl
keyword_found word.R = refl
keyword_found word.After = refl
keyword_found word.Before = refl
keyword_found word.Pid = refl
keyword_found word.Handle = refl
keyword_found word.Ended = refl
keyword_found word.Word = refl
keyword_found word.No = refl
keyword_found word.Done = refl
keyword_found word.Screen = refl
keyword_found word.Begin = refl
keyword_found word.Stop = refl
keyword_found word.Busy = refl
keyword_found word.Gone = refl
keyword_found word.Line = refl
keyword_found word.Gave = refl
keyword_found word.Up = refl

keyword_same : (j k : Keyword) → keyword_text j ≡ keyword_text k → j ≡ k
keyword_same j k e = some_same (sym (keyword_found j) ∙ ap keyword_of e ∙ keyword_found k)

-- keywords are of small letters
abbrev letters : List ℕ → Bool
letters = list_all (leb 97)

letter : (k : Keyword) (i : ℕ) → i < length (keyword_text k) → 97 ≤ get_or (keyword_text k) i 0
letter k i l =
    let all = (passes (λ j. bytes_eq (keyword_text j) (keyword_text k)) (λ j. letters (keyword_text j)) k keywords refl (keyword_found k)).1 in
    leb-true 97 _ (and_at letters (leb 97) refl (λ _ _. refl) (keyword_text k) i 0 l all)

-- numbers are of digits
own : IsNumeralModel (AllDigits 10) (digits_value 10)
own = numerals_by_value (AllDigits 10) tells_digits

digit : (n : ℕ) → n < 2 ^ 64 → (k : ℕ) → k < length (decimal n) → (48 ≤ get_or (decimal n) k 0) × (get_or (decimal n) k 0 ≤ 57)
digit n h k l = digit_at (decimal n) k (digits_decimal own n h) l

no_number : (k : Keyword) (n : ℕ) → n < 2 ^ 64 → keyword_text k ≡ decimal n → ⊥
no_number k n h e =
    let some : 0 < length (decimal n) = decimal_nonempty n h in
    let d = digit n h 0 some in
    let l : 97 ≤ get_or (decimal n) 0 0 = subst (λ (w : List ℕ). 97 ≤ get_or w 0 0) e (letter k 0 (omega (arith, ap length e))) in
    omega arith

-- no two words that a script may have have one text, and none has a blank
spelt_same : (t u : Token) → Readable t → Readable u → spelt t ≡ spelt u → t ≡ u
spelt_same (Number m) (Number n) r s e = ap Number (decimal_injective m n r s e)
spelt_same (Number m) (Word k) r s e = absurd (no_number k m r (sym e))
spelt_same (Word j) (Number n) r s e = absurd (no_number j n s e)
spelt_same (Word j) (Word k) r s e = ap Word (keyword_same j k e)
spelt_same (Asked m) u r s e = absurd r
spelt_same t (Asked n) r s e = absurd s

no_blank : (t : Token) → Readable t → All (λ b. eqb b 32 ≡ false) (spelt t)
no_blank (Number n) r = All-from_get_or (λ b. eqb b 32 ≡ false) (decimal n) 0 (λ k l. ne_eqb _ 32 (λ e. omega (arith, digit n r k l)))
no_blank (Word w) r = All-from_get_or (λ b. eqb b 32 ≡ false) (keyword_text w) 0 (λ k l. ne_eqb _ 32 (λ e. omega (arith, letter w k l)))
no_blank (Asked n) r = absurd r

-- a text, cut at its blanks
abbrev pub pieces : List ℕ → List (List ℕ)
pieces s = slice_split (λ b. eqb b 32) s

-- those of a spelt list are its words
pub words_are_pieces : (ts : List Token) → 0 < length ts → All Readable ts → pieces (spell ts) ≡ map spelt ts
unfolding spell
words_are_pieces [] some r = absurd (omega arith)
words_are_pieces (t ∷ []) some r = slice_split_none (λ b. eqb b 32) (spelt t) (no_blank t (All-head Readable t [] r))
words_are_pieces (t ∷ u ∷ ts) some r =
    slice_split_at (λ b. eqb b 32) (spelt t) 32 (spell (u ∷ ts)) (no_blank t (All-head Readable t (u ∷ ts) r)) refl
    ∙ ap (λ l. spelt t ∷ l) (words_are_pieces (u ∷ ts) (omega arith) (All-tail Readable t (u ∷ ts) r))

words_same : (ts us : List Token) → All Readable ts → All Readable us → map spelt ts ≡ map spelt us → ts ≡ us
words_same [] [] r s e = refl
words_same [] (u ∷ us) r s e = absurd (omega (arith, ap length e))
words_same (t ∷ ts) [] r s e = absurd (omega (arith, ap length e))
words_same (t ∷ ts) (u ∷ us) r s e =
    let first : spelt t ≡ spelt u = cc in
    let others : map spelt ts ≡ map spelt us = cc in
    (λ i. spelt_same t u (All-head Readable t ts r) (All-head Readable u us s) first i ∷ words_same ts us (All-tail Readable t ts r) (All-tail Readable u us s) others i)

-- so no two lists of words have one text
pub spell_same : (ts us : List Token) → Shaped ts → Shaped us → spell ts ≡ spell us → ts ≡ us
spell_same ts us h k e = words_same ts us h.each k.each (sym (words_are_pieces ts h.some h.each) ∙ ap pieces e ∙ words_are_pieces us k.some k.each)

-- what `?` hands back
pub of_none : {A : Type 0} {P : Type 0} (Q : A → Type 0) {r : Option A} → r ≡ None → P → MatchOption r P Q
of_none {P = P} Q e p = subst (λ o. MatchOption o P Q) (sym e) p

-- a number's text is of digits, one or more, with a nought in front only if that's all, and no beginning of it is too large
module _ (w : List ℕ) (n : ℕ) (small : n < 2 ^ 64) (e : w ≡ decimal n) where
  pub some_digit : 0 < length w
  some_digit = omega (arith, ap length e, decimal_nonempty n small)

  pub each_digit : (i : ℕ) → i < length w → IsInRange 48 57 (get_or w i 0)
  each_digit i l = digit_at w i (subst (AllDigits 10) (sym e) (digits_decimal own n small)) l

  pub no_nought : get_or w 0 0 ≡ 48 → length w ≤ 1
  no_nought f =
      ⊎_elim (λ pos. omega (arith, first_decimal n pos small, ap (λ x. get_or x 0 0) e)) (λ z. omega (arith, ap length e, length-decimal-le 1 n (omega arith) (omega arith) small)) (cases_lt 0 n)

  pub fits : (i : ℕ) → digits_value 10 (take i w) < 2 ^ 64
  fits i = omega (arith, digits_value-take-le 10 w i (omega arith), ap (digits_value 10) e, digits_value-decimal own n small)

-- one digit more
module _ (w : List ℕ) (i : ℕ) (l : i < length w) (h : IsInRange 48 57 (get_or w i 0)) where
  value_of_digit : digit_value (get_or w i 0) ≡ get_or w i 0 - 48
  value_of_digit = omega (arith, digit_value_digit (get_or w i 0) h)

  pub digit_more : AllDigits 10 (take i w) → AllDigits 10 (take (i + 1) w)
  digit_more d = digits_more 10 w i l d (omega (arith, value_of_digit))

  pub value_more : digits_value 10 (take i w) * 10 + (get_or w i 0 - 48) ≡ digits_value 10 (take (i + 1) w)
  value_more = ap (λ d. digits_value 10 (take i w) * 10 + d) (sym value_of_digit) ∙ sym (digits_value_more 10 w i l)

-- what is read to the end is the number that is written so
pub is_number : (w : List ℕ) (n : ℕ) → n ≡ digits_value 10 (take (length w) w) → AllDigits 10 (take (length w) w) → 0 < length w → n < 2 ^ 64 → (get_or w 0 0 ≡ 48 → length w ≤ 1) → w ≡ decimal n
is_number w n v d some small first =
    let all : take (length w) w ≡ w = take_all (length w) w (omega arith) in
    let v' : n ≡ digits_value 10 w = v ∙ ap (digits_value 10) all in
    sym (ap decimal v' ∙ decimal-digits_value own w (subst (AllDigits 10) all d) some (λ f. omega (arith, first f, some)) (omega arith))

-- the next piece of s has no word that a script may have
pub no_word : (s w : List ℕ) (i : ℕ) → (i < length (pieces s)) × (w ≡ get_or (pieces s) i w) → ((t : Token) → Readable t → w ≡ spelt t → ⊥) → (ts : List Token) → Shaped ts → s ≡ spell ts → ⊥
no_word s w i at none ts h e =
    let same : pieces s ≡ map spelt ts = ap pieces e ∙ words_are_pieces ts h.some h.each in
    let all : All (λ x. (t : Token) × (Readable t × (x ≡ spelt t))) (map spelt ts) = All-map (λ x. (t : Token) × (Readable t × (x ≡ spelt t))) spelt ts (λ k d l. (get_or ts k d, (h.each k d l, refl))) in
    let it = all i w (subst (λ x. i < length x) same at.0) in
    none it.0 it.1.0 (at.1 ∙ ap (λ x. get_or x i w) same ∙ it.1.1)

-- s has more than five pieces
pub too_many : (s : List ℕ) (i : ℕ) → i < length (pieces s) → 5 ≤ i → (ts : List Token) → Shaped ts → s ≡ spell ts → ⊥
too_many s i l m ts h e =
    omega (arith, h.few, ap length (ap pieces e ∙ words_are_pieces ts h.some h.each), length-map ts spelt)

-- these are the words of all its pieces
pub all_words : (s : List ℕ) (ts : List Token) → map spelt ts ≡ pieces s → All Readable ts → length ts ≤ 5 → Shaped ts × (s ≡ spell ts)
unfolding spell
all_words s ts e each few = (
  record { some = omega (arith, ap length e, length-map ts spelt, length-slice_split (λ b. eqb b 32) s); few = few; each = each },
  sym (join_with_byte-slice_split 32 s) ∙ ap (join_with_byte 32) (sym e),
)

-- the word of one piece more
pub one_more : (ts new : List Token) (t : Token) (ps : List (Bor (List ℕ))) (w : Bor (List ℕ)) → map spelt ts ≡ map (λ x. x.now) ps → All Readable ts → Readable t × (w.now ≡ spelt t) → new ≡ ts ++ t ∷ [] → (map spelt new ≡ map (λ x. x.now) (ps ++ w ∷ [])) × All Readable new
one_more ts new t ps w e each named is = (
  ap (map spelt) is ∙ map-append spelt ts (t ∷ []) ∙ ap (λ l. l ++ spelt t ∷ []) e ∙ ap (λ x. map (λ y. y.now) ps ++ x ∷ []) (sym named.1) ∙ sym (map-append (λ y. y.now) ps (w ∷ [])),
  All-same Readable new (ts ++ t ∷ []) is (All-push Readable ts t each named.0),
)
