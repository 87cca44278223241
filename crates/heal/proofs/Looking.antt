-- What a handler of the files' server knows after it has read some cells, and how it ends from there.
-- Assumes nothing.
use Rattle.std.proofs.Common.{◌≡◌, ℕ, ◌+◌, ◌<◌, ◌≤◌, Bool, true, false, not, List, [], Ok, Err, Some, None, Option, ok_or, is_some, Result, IsErrAnd, sym, refl, ap, ◌∙◌, subst, arith}
use Rattle.heal.specs.declared.Answer.{Answer}
use Rattle.heal.specs.declared.Answer.TheVariants.{No}
use Rattle.heal.specs.declared.Call.{Call}
use Rattle.heal.specs.declared.decision.Moment.{Moment}
use Rattle.heal.specs.declared.decision.Refusal.{Refusal}
use Rattle.heal.specs.declared.decision.NotDone.{NotDone}
use Rattle.heal.specs.declared.decision.NotDone.TheVariants.{Refused, Fell}
use Rattle.heal.specs.declared.handle.Held.{Held}
use Rattle.heal.specs.declared.users.Users.{Users}
use Rattle.heal.specs.Kernel.{Kern, Event, server_of}
use Rattle.heal.specs.Journal.{viewed}
use Rattle.heal.specs.Refusal.{refusal_code}
use Rattle.heal.specs.Files.{hand_at, size_at, users_at}
use Rattle.heal.specs.Handles.{Holds, Lasts, Uses, users_word}
use Rattle.heal.specs.Deciding.{Standing, Finish, Decided, Decides}
use Rattle.heal.specs.Turn.{Able, After, Did, Exact, cells}
use Rattle.heal.proofs.FileCells.{handle_bounds, users_small}
use Rattle.heal.proofs.Steps.{able, after_then, after_none, same_cells, same_box, read_read}
use Rattle.heal.proofs.Finishing.{chosen_exact}
use Rattle.heal.proofs.Ending.{fell, refused_by, refused, moment}
use Rattle.heal.proofs.Serving.{at_one}

-- the cells of the files' server, as they are meant
abbrev pub file_cells : Kern → ℕ → ℕ
file_cells k = (viewed k).cell 1

-- the files' server looks at p's call c; since k and es it has asked n things of m, and changed nothing
pub record Looked (p : ℕ) (c : Call) (m n : ℕ) (k : Kern) (es : List Event) (l : Kern) (fs : List Event) : Type 0 where
  pub able : Able m k es
  pub stand : Standing p c (viewed k)
  pub one : k.at ≡ 1
  pub after : After n k es true l fs
  pub same : Exact (viewed k) es l fs

-- what a `?` on nothing hands on
pub handed : {A E : Type 0} {o : Option A} {e f : E} → Err e ≡ ok_or o f → o ≡ None → e ≡ f
handed {e = e} {f = f} v n = let x : Err e ≡ Err f = v ∙ ap (λ y. ok_or y f) n in cc

-- what the word of a file's size says
missing_word : (v : ℕ) (o : Option ℕ) → Lasts v o → is_some o ≡ false → v ≡ 0
missing_word v None h e = h
missing_word v (Some n) h e = grind arith

there_word : (v : ℕ) (o : Option ℕ) → Lasts v o → is_some o ≡ true → v ≡ 0 → ⊥
there_word v None h e z = grind arith
there_word v (Some n) h e z = omega (arith, h, z)

module _ {p : ℕ} {c : Call} {m : ℕ} {k : Kern} {es : List Event} where
  pub looks : server_of c ≡ 1 → Able m k es → Standing p c (viewed k) → Looked p c m 0 k es k es
  looks e a z = record { able = a; stand = z; one = at_one p c (viewed k) z e; after = after_none a; same = record { is = refl; same = refl } }

  module _ {n : ℕ} {l : Kern} {fs : List Event} (x : Looked p c m n k es l fs) where
    are_files : cells l ≡ file_cells k
    are_files = same_cells k x.same ∙ ap (λ σ. (viewed k).cell σ) x.one

    pub able_now : (t : ℕ) → t + n ≤ m → Able t l fs
    able_now t h = able x.able x.after t h

    pub seat : l.at ≡ 1
    seat = x.after.seat ∙ x.one

    module _ {t : ℕ} {j : Kern} {gs : List Event} where
      -- after one ask more
      pub looked : {A : Type 0} {v : A} {P : A → Type 0} → Did t l fs (Ok v) j gs (λ y. P y × Exact (viewed l) fs j gs) → Looked p c m (n + t) k es j gs
      looked d = record { able = x.able; stand = x.stand; one = x.one; after = after_then x.after d.after; same = read_read k x.same (d.gives _ refl).1 }

      -- what was found
      pub found : {A : Type 0} (P : (ℕ → ℕ) → A → Type 0) {v w : A} → Did t l fs (Ok v) j gs (λ y. P (cells l) y × Exact (viewed l) fs j gs) → v ≡ w → P (file_cells k) w
      found P {w = w} d e = subst (λ f. P f w) are_files (subst (P (cells l)) e (d.gives _ refl).0)

      module _ {i q : ℕ} where
        pub word_is : {v : ℕ} → Did t l fs (Ok v) j gs (λ (y : ℕ). (y ≡ cells l i) × Exact (viewed l) fs j gs) → i ≡ q → file_cells k q ≡ v
        word_is d e = ap (file_cells k) (sym e) ∙ sym (found (λ f (y : ℕ). y ≡ f i) d refl)

        pub users_are : {u : Users} → Did t l fs (Ok u) j gs (λ y. Uses (cells l (users_at i)) y × Exact (viewed l) fs j gs) → i ≡ q → file_cells k (users_at q) ≡ users_word u
        users_are d e = ap (λ a. file_cells k (users_at a)) (sym e) ∙ sym (found (λ f y. Uses (f (users_at i)) y) d refl).1

        module _ {o : Option ℕ} (d : Did t l fs (Ok o) j gs (λ y. Lasts (cells l (size_at i)) y × Exact (viewed l) fs j gs)) (e : i ≡ q) where
          lasts : Lasts (file_cells k (size_at q)) o
          lasts = subst (λ a. Lasts (file_cells k (size_at a)) o) e (found (λ f y. Lasts (f (size_at i)) y) d refl)

          pub length_is : {w : Option ℕ} → o ≡ w → Lasts (file_cells k (size_at q)) w
          length_is h = subst (Lasts (file_cells k (size_at q))) h lasts

          pub missing_is : {b : Bool} → is_some o ≡ not b → b ≡ true → file_cells k (size_at q) ≡ 0
          missing_is h t = missing_word _ o lasts (h ∙ ap not t)

          pub there_is : {b : Bool} → is_some o ≡ not b → b ≡ false → file_cells k (size_at q) ≡ 0 → ⊥
          there_is h f = there_word _ o lasts (h ∙ ap not f)

    -- the file that a handle is on is there
    pub size_bounds : (h : ℕ) (q : Held) → Holds p h (file_cells k) (Some q) → (0 < file_cells k (size_at q.name.number)) × (file_cells k (size_at q.name.number) ≤ 257)
    size_bounds h q y =
        let i = x.able.inv in
        let b = handle_bounds i.0 (file_cells k) i.2.files p h (file_cells k (hand_at p h)) x.stand.small y.0 refl y.1.0 in
        subst (λ n. (0 < file_cells k (size_at n)) × (file_cells k (size_at n) ≤ 257)) y.1.1 (b.1, b.2)

    pub users_bound : (n : ℕ) → n < 64 → file_cells k (users_at n) ≤ 513
    users_bound n h = let i = x.able.inv in users_small i.0 (file_cells k) i.2.files n h

    -- the server fell at one ask more
    pub falls : {t : ℕ} {j : Kern} {gs : List Event} (r : Result Moment NotDone) → IsErrAnd r (λ s. s ≡ Fell) → After t l fs false j gs → n + t ≤ m → Decides m p c k es r j gs
    falls r e a h = fell p c r e (after_then x.after a) h

    -- it's refused
    pub ends_refused : (f : Refusal) → Decided p c (No (refusal_code f)) [] (viewed k) es → n ≤ m → Decides m p c k es (Err (Refused f)) l fs
    ends_refused f d h = refused p c f x.after (same_box k x.same) (chosen_exact p c (Finish (No (refusal_code f)) []) x.same (x.stand, d)) h

    -- it's refused, at a `?` on nothing
    pub ends_by : (f : Refusal) (r : Result Moment NotDone) {e : Refusal} → IsErrAnd r (λ s. s ≡ Refused e) → e ≡ f → Decided p c (No (refusal_code f)) [] (viewed k) es → n ≤ m → Decides m p c k es r l fs
    ends_by f r a e d h = refused_by p c f r (subst (λ e. IsErrAnd r (λ s. s ≡ Refused e)) e a) x.after (same_box k x.same) (chosen_exact p c (Finish (No (refusal_code f)) []) x.same (x.stand, d)) h

    -- it has its moment
    pub ends : {mo : Moment} {a : Answer} {ps : List (ℕ × ℕ)} → mo.answer ≡ a → mo.writes ≡ ps → Decided p c a ps (viewed k) es → n ≤ m → Decides m p c k es (Ok mo) l fs
    ends {mo = mo} {a = a} {ps = ps} e f d h = moment p c mo a ps e f x.after (same_box k x.same) (chosen_exact p c (Finish a ps) x.same (x.stand, d)) h
