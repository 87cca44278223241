-- Words mean a line just if they are its words. Assumes nothing.
use Rattle.std.proofs.Common.{◌≡◌, ℕ, ◌^◌, ◌<◌, ◌≤◌, Bool, true, false, ◌&&◌, nat_lt, List, [], ◌∷◌, is_some, Some, None, Option, if◌then◌else◌, refl, ap, ◌∙◌, subst, arith}
use Rattle.std.specs.Option.{option_map}
use Rattle.std.proofs.lemmas.Bool.{false≢true, and_parts, and_from, lt-ltb, ltb-true}
use Rattle.heal.specs.declared.Call.{Call}
use Rattle.heal.specs.declared.Call.TheVariants as call
use Rattle.script.specs.declared.Line.{Line}
use Rattle.script.specs.declared.Line.TheVariants as line
use Rattle.script.specs.declared.words.Keyword.TheVariants as word
use Rattle.script.specs.declared.words.Token.{Token}
use Rattle.script.specs.declared.words.Token.TheVariants.{Number, Word}
use Rattle.script.specs.Text.{Valid, ValidCall}
use Rattle.script.specs.Words.{call_words, line_words}
use Rattle.script.specs.Senses.{small, call_of, line_of}

-- the words of a valid line mean it
below : (n : ℕ) → n < 2 ^ 32 → small n ≡ true
below n h = lt-ltb n 4294967296 (omega arith)

both : {a b : Bool} → a ≡ true → b ≡ true → (a && b) ≡ true
both p q = and_from _ _ p q

holds : {X : Type 0} {x : X} {b : Bool} → b ≡ true → (if b then Some x else None) ≡ Some x
holds {X} {x} e = ap (λ b. if b then Some x else None) e

call_means : (c : Call) → ValidCall c → call_of (call_words c) ≡ Some c
call_means (call.Spawn n) v = holds (below n v)
call_means (call.Exit n) v = holds (below n v)
call_means call.Wait v = refl
call_means (call.Kill n) v = holds (below n v)
call_means (call.Open n true) v = holds (below n v)
call_means (call.Open n false) v = holds (below n v)
call_means (call.Close n) v = holds (below n v)
call_means (call.Read h n) v = holds (both (below h v.0) (below n v.1))
call_means (call.Write h n x) v = holds (both (below h v.0) (both (below n v.1) (below x v.2)))
call_means (call.Remove n) v = holds (below n v)
call_means call.Take v = refl
call_means call.Leave v = refl
call_means (call.Say x) v = holds (below x v)
call_means call.Hear v = refl

pub means : (l : Line) → Valid l → line_of (line_words l) ≡ Some l
means (line.Ask p c) v =
    ap (λ b. if b then option_map (λ k. line.Ask p k) (call_of (call_words c)) else None) (both (lt-ltb 0 p v.0) (lt-ltb p 64 v.1))
    ∙ ap (option_map (λ k. line.Ask p k)) (call_means c v.2)
means (line.Key n) v = holds (below n v)
means (line.Rounds n) v = holds (below n v)
means line.On v = refl
means (line.Fall s n true) v = holds (both (lt-ltb s 3 v.0) (both (lt-ltb 0 n v.1) (below n v.2)))
means (line.Fall s n false) v = holds (both (lt-ltb s 3 v.0) (both (lt-ltb 0 n v.1) (below n v.2)))
means (line.Falls s n) v = holds (both (below s v.0) (below n v.1))
means line.New v = refl

-- and what means a line, is its words
from_below : (n : ℕ) → small n ≡ true → n < 2 ^ 32
from_below n e = omega (arith, ltb-true n 4294967296 e)

module _ {X : Type 0} where
  pub none_some : {x : X} → None ≡ Some x → ⊥
  none_some e = false≢true (ap is_some e)

  none_either : (b : Bool) {x : X} → (if b then None else None) ≡ Some x → ⊥
  none_either true e = none_some e
  none_either false e = none_some e

  pub some_same : {x y : X} → Some x ≡ Some y → x ≡ y
  some_same e = cc

-- of calls or of lines
module _ {X : Type 0} (words : X → List Token) (V : X → Type 0) where
  known : {y : X} (x : X) → V x → Some x ≡ Some y → (words x ≡ words y) × V y
  known {y} x v e = (ap words (some_same e), subst V (some_same e) v)

  guarded : {y : X} (b : Bool) (x : X) → (b ≡ true → V x) → (if b then Some x else None) ≡ Some y → (words x ≡ words y) × V y
  guarded true x v e = known x (v refl) e
  guarded false x v e = absurd (none_some e)

call_is : (ws : List Token) (c : Call) → call_of ws ≡ Some c → (ws ≡ call_words c) × ValidCall c
call_is (Word word.Spawn ∷ Number n ∷ []) c e = guarded call_words ValidCall (small n) (call.Spawn n) (from_below n) e
call_is (Word word.Exit ∷ Number n ∷ []) c e = guarded call_words ValidCall (small n) (call.Exit n) (from_below n) e
call_is (Word word.Wait ∷ []) c e = known call_words ValidCall call.Wait tt e
call_is (Word word.Kill ∷ Number n ∷ []) c e = guarded call_words ValidCall (small n) (call.Kill n) (from_below n) e
call_is (Word word.Open ∷ Number n ∷ Word word.W ∷ []) c e = guarded call_words ValidCall (small n) (call.Open n true) (from_below n) e
call_is (Word word.Open ∷ Number n ∷ Word word.R ∷ []) c e = guarded call_words ValidCall (small n) (call.Open n false) (from_below n) e
call_is (Word word.Close ∷ Number n ∷ []) c e = guarded call_words ValidCall (small n) (call.Close n) (from_below n) e
call_is (Word word.Read ∷ Number h ∷ Number n ∷ []) c e =
    guarded call_words ValidCall (small h && small n) (call.Read h n) (λ t. let p = and_parts (small h) (small n) t in (from_below h p.0, from_below n p.1)) e
call_is (Word word.Write ∷ Number h ∷ Number n ∷ Number x ∷ []) c e =
    guarded call_words ValidCall (small h && (small n && small x)) (call.Write h n x)
    (λ t.
    let p = and_parts (small h) (small n && small x) t in
    let q = and_parts (small n) (small x) p.1 in
    (from_below h p.0, from_below n q.0, from_below x q.1))
    e
call_is (Word word.Remove ∷ Number n ∷ []) c e = guarded call_words ValidCall (small n) (call.Remove n) (from_below n) e
call_is (Word word.Take ∷ []) c e = known call_words ValidCall call.Take tt e
call_is (Word word.Leave ∷ []) c e = known call_words ValidCall call.Leave tt e
call_is (Word word.Say ∷ Number x ∷ []) c e = guarded call_words ValidCall (small x) (call.Say x) (from_below x) e
call_is (Word word.Hear ∷ []) c e = known call_words ValidCall call.Hear tt e
call_is _ c e = absurd (none_some e)

ask_is : (p : ℕ) (ws : List Token) (o : Option Call) (l : Line) → call_of ws ≡ o → (if nat_lt 0 p && nat_lt p 64 then option_map (λ c. line.Ask p c) o else None) ≡ Some l → (Number p ∷ ws ≡ line_words l) × Valid l
ask_is p ws None l s e = absurd (none_either (nat_lt 0 p && nat_lt p 64) e)
ask_is p ws (Some c) l s e =
    let call = call_is ws c s in
    let line =
    guarded line_words Valid (nat_lt 0 p && nat_lt p 64) (line.Ask p c)
    (λ t.
    let q = and_parts (nat_lt 0 p) (nat_lt p 64) t in
    (ltb-true 0 p q.0, ltb-true p 64 q.1, call.1))
    e in
    (ap (λ x. Number p ∷ x) call.0 ∙ line.0, line.1)

timed : (s n : ℕ) → (nat_lt s 3 && (nat_lt 0 n && small n)) ≡ true → (s < 3) × (1 ≤ n) × (n < 2 ^ 32)
timed s n t =
    let p = and_parts (nat_lt s 3) (nat_lt 0 n && small n) t in
    let q = and_parts (nat_lt 0 n) (small n) p.1 in
    (ltb-true s 3 p.0, ltb-true 0 n q.0, from_below n q.1)

pub line_is : (ws : List Token) (l : Line) → line_of ws ≡ Some l → (ws ≡ line_words l) × Valid l
line_is (Number p ∷ ws) l e = ask_is p ws (call_of ws) l refl e
line_is (Word word.Key ∷ Number n ∷ []) l e = guarded line_words Valid (small n) (line.Key n) (from_below n) e
line_is (Word word.Round ∷ Number n ∷ []) l e = guarded line_words Valid (small n) (line.Rounds n) (from_below n) e
line_is (Word word.On ∷ []) l e = known line_words Valid line.On tt e
line_is (Word word.Fall ∷ Number s ∷ Number n ∷ Word word.After ∷ []) l e = guarded line_words Valid (nat_lt s 3 && (nat_lt 0 n && small n)) (line.Fall s n true) (timed s n) e
line_is (Word word.Fall ∷ Number s ∷ Number n ∷ Word word.Before ∷ []) l e = guarded line_words Valid (nat_lt s 3 && (nat_lt 0 n && small n)) (line.Fall s n false) (timed s n) e
line_is (Word word.Falls ∷ Number s ∷ Number n ∷ []) l e =
    guarded line_words Valid (small s && small n) (line.Falls s n) (λ t. let p = and_parts (small s) (small n) t in (from_below s p.0, from_below n p.1)) e
line_is (Word word.New ∷ []) l e = known line_words Valid line.New tt e
line_is _ l e = absurd (none_some e)
