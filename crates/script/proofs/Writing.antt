-- What is written in parts. Assumes nothing.
use Rattle.std.proofs.Common.{◌≡◌, ℕ, ◌+◌, ◌<◌, List, [], ◌∷◌, ◌++◌, length, get_or, set, take, Result, Ok, Err, IsErr, sym, refl, ap, ◌∙◌, subst, append_assoc, arith, length-append}
use Rattle.std.proofs.lemmas.Bool.{false≢true}
use Rattle.std.proofs.lemmas.List.{take_more, take_more_set, take-take, take_at}
use Rattle.script.specs.declared.page.Full.{Full}
use Rattle.script.specs.declared.page.Page.{Page}
use Rattle.script.specs.Pages.{size, written, Partly, Wrote}

-- one byte more
pub byte_more : (buf bs old : List ℕ) (len i b : ℕ) → take len buf ≡ old ++ take i bs → len < length buf → i < length bs → b ≡ get_or bs i 0 → take (len + 1) (set buf len b) ≡ old ++ take (i + 1) bs
byte_more buf bs old len i b h inside more is =
    take_more_set buf len b inside ∙ ap (λ l. l ++ b ∷ []) h ∙ append_assoc old (take i bs) (b ∷ []) ∙ ap (λ c. old ++ (take i bs ++ c ∷ [])) is ∙ ap (λ l. old ++ l) (sym (take_more bs i 0 more))

-- what has no room, has none with more behind it
pub fails_first : {room : ℕ} {old xs new : List ℕ} → Partly room old xs new → (ys : List ℕ) → Partly room old (xs ++ ys) new
fails_first {xs = xs} h ys = record { full = omega (arith, h.full, length-append xs ys); kept = h.kept }

-- xs stands on the page, and then there's no room for ys
pub fails_later : {room size : ℕ} {old mid ys new : List ℕ} (xs : List ℕ) → mid ≡ old ++ xs → size ≡ room → Partly size mid ys new → Partly room old (xs ++ ys) new
fails_later {old = old} {mid} {ys} {new} xs e same h =
    let long = ap length e ∙ length-append old xs in
    record {
      full = omega (arith, h.full, length-append xs ys);
      kept = sym (take-take (length old) (length mid) new (omega arith)) ∙ ap (take (length old)) (h.kept ∙ e) ∙ take_at old xs (length old) refl;
    }

-- the same bytes by another name
pub partly_as : {room : ℕ} {old xs new : List ℕ} → Partly room old xs new → (ys : List ℕ) → xs ≡ ys → Partly room old ys new
partly_as {room} {old} {xs} {new} h ys e = subst (λ l. Partly room old l new) e h

-- what `?` hands back
pub not_written : {p q : Page} {bs : List ℕ} (r : Result (Unit {0}) Full) → IsErr r → size q ≡ size p → Partly (size p) (written p) bs (written q) → Wrote p bs q r
not_written (Ok x) e same h = absurd (false≢true e)
not_written (Err x) e same h = record { stays = same; text = h }

pub written_on : (old xs ys zs mid new : List ℕ) → new ≡ mid ++ ys → mid ≡ old ++ xs → xs ++ ys ≡ zs → new ≡ old ++ zs
written_on old xs ys zs mid new h e same = h ∙ ap (λ l. l ++ ys) e ∙ append_assoc old xs ys ∙ ap (λ l. old ++ l) same

-- xs stands on the page, and then ys is tried
pub writes_on : (p m q : Page) (xs : List ℕ) {ys : List ℕ} (r : Result (Unit {0}) Full) → written m ≡ written p ++ xs → size m ≡ size p → Wrote m ys q r → Wrote p (xs ++ ys) q r
writes_on p m q xs {ys} (Ok x) e same h = record { stays = h.stays ∙ same; text = h.text ∙ ap (λ l. l ++ ys) e ∙ append_assoc (written p) xs ys }
writes_on p m q xs (Err x) e same h = record { stays = h.stays ∙ same; text = fails_later xs e same h.text }
