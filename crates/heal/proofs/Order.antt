-- The screen's places are shown in order.
-- Assumes nothing.
use Rattle.std.proofs.Common.{◌≡◌, ℕ, suc, List, [], ◌∷◌, ◌++◌, length, sym, refl, ap, ◌∙◌, arith, length-append}
use Rattle.std.proofs.lemmas.Bool.Decides.{nat_tests as tests}
use Rattle.heal.specs.declared.Call.{Call}
use Rattle.heal.specs.declared.Answer.{Answer}
use Rattle.heal.specs.House.{State, does, Gives, begin, asks, types, acts, refuses, exits, not_built, shows, tells, begins, stops, round}
use Rattle.heal.specs.Promise.{places_of, down, ScreenInOrder}

-- what a call does, it does not to the screen
same_screen : (k : ℕ) (s t : State) (p : ℕ) (c : Call) (a : Answer) → does k s p c ≡ Gives a t → t.screen ≡ s.screen
unfolding does
same_screen k s t p c a e = grind (arith, tests)

grows : (xs : List ℕ) (x : ℕ) → down (length (xs ++ (x ∷ []))) ≡ length xs ∷ down (length xs)
unfolding down
grows xs x = let e : length (xs ++ (x ∷ [])) ≡ suc (length xs) = omega (arith, length-append xs (x ∷ [])) in ap down e

pub in_order : ScreenInOrder
unfolding places_of down
in_order every es s begin = refl
in_order every es s (asks p c r l q) = in_order every _ _ r
in_order every es s (types x r) = in_order every _ _ r
in_order every es s (acts p k r u b f n d) = in_order every _ _ r ∙ sym (ap (λ xs. down (length xs)) (same_screen k _ _ p _ _ d))
in_order every es s (refuses p k r u b d) = in_order every _ _ r
in_order every es s (exits p r u b n d) = in_order every _ _ r ∙ sym (ap (λ xs. down (length xs)) (same_screen 0 _ _ p _ _ d))
in_order every es s (not_built p r u b) = in_order every _ _ r
in_order every es s (shows {s = t} {x = x} p r u o) = ap (λ ns. length t.screen ∷ ns) (in_order every _ _ r) ∙ sym (grows t.screen x)
in_order every es s (tells p r u m) = in_order every _ _ r
in_order every es s (begins p r u) = in_order every _ _ r
in_order every es s (stops p r m) = in_order every _ _ r
in_order every es s (round r y o) = in_order every _ _ r
