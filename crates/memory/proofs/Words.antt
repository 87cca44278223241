-- Words that are written, what is read then, and what notes that stay tell.
use Rattle.std.proofs.Common.{◌≡◌, ℕ, zero, suc, ◌+◌, ◌-◌, ◌*◌, ◌<◌, ◌≤◌, List, ◌∷◌, length, take, drop, sym, refl, ap, ◌∙◌, ⊎_elim, add-one, arith}
use Rattle.std.proofs.lemmas.Bool.{cases_lt}
use Rattle.std.proofs.lemmas.Slice.{between_is, take-put_mid_below, drop-put_mid}
use Rattle.std.specs.List.{slice_range}
use borrow.Rule.Slice.PartMut.{put_mid}
use Rattle.heal.specs.Kernel.{Round}
use Rattle.memory.specs.declared.Note.{Note}
use Rattle.memory.specs.declared.Note.TheVariants.{Rounds}
use Rattle.memory.specs.Notes.{note_at, logged, added, rounds}

-- the six words of every other note stay where those of the ith are written
pub others_stay : (ws xs : List ℕ) (i j k : ℕ) → (j ≡ i → ⊥) → 6 * i + 6 ≤ length ws → length xs ≡ k → k ≡ 6 → slice_range (put_mid (6 * i) k ws xs) (6 * j) (6 * j + 6) ≡ slice_range ws (6 * j) (6 * j + 6)
others_stay ws xs i j k ne inside whole six =
    ⊎_elim
    (λ (before : j < i).
    between_is (put_mid (6 * i) k ws xs) (6 * j) (6 * j + 6)
    ∙ (ap (drop (6 * j)) (take-put_mid_below (6 * i) k ws xs (6 * j + 6) (omega arith) (omega arith)) ∙ sym (between_is ws (6 * j) (6 * j + 6))))
    (λ (after : i ≤ j). ap (take (6 * j + 6 - 6 * j)) (drop-put_mid (6 * i) k ws xs (6 * j) (omega arith) (omega arith) whole))
    (cases_lt j i)

-- notes that stay tell what they told
pub logged_same : (n : ℕ) (ws vs : List ℕ) → ((j : ℕ) → j < n → note_at vs j ≡ note_at ws j) → logged n vs ≡ logged n ws
unfolding logged
logged_same zero ws vs h = refl
logged_same (suc n) ws vs h = λ d. added (h n (omega arith) d) (logged_same n ws vs (λ j l. h j (omega arith)) d)

-- one note more
pub logged_new : (n : ℕ) (ws vs : List ℕ) (x : Note) → note_at vs n ≡ x → ((j : ℕ) → j < n → note_at vs j ≡ note_at ws j) → logged (n + 1) vs ≡ added x (logged n ws)
unfolding logged
logged_new n ws vs x here older = ap (λ m. logged m vs) (add-one n) ∙ (λ d. added (here d) (logged_same n ws vs older d))

-- the last note of rounds counts one more
pub logged_round : (n r : ℕ) (ws vs : List ℕ) → 0 < n → note_at ws (n - 1) ≡ Rounds r → note_at vs (n - 1) ≡ Rounds (r + 1) → ((j : ℕ) → (j ≡ n - 1 → ⊥) → note_at vs j ≡ note_at ws j) → logged n vs ≡ Round ∷ logged n ws
unfolding rounds
logged_round n r ws vs h was is others =
    let last : n ≡ n - 1 + 1 = omega arith in
    let now = logged_new (n - 1) ws vs (Rounds (r + 1)) is (λ j l. others j (λ e. omega arith)) in
    let before = logged_new (n - 1) ws ws (Rounds r) was (λ j l. refl) in
    ap (λ m. logged m vs) last ∙ (now ∙ (ap (λ m. rounds m (logged (n - 1) ws)) (add-one r) ∙ sym (ap (λ m. Round ∷ logged m ws) last ∙ ap (λ es. Round ∷ es) before)))
