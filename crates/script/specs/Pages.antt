-- What is on a page, and what printing does to it. Assumes nothing.
use Rattle.std.specs.Prelude.{◌≡◌, ℕ, ◌+◌, ◌<◌, List, ◌++◌, length, take, Result, MatchResult}
use Rattle.script.specs.declared.page.Full.{Full}
use Rattle.script.specs.declared.page.Page.{Page}

abbrev pub written : Page → List ℕ
written p = take p.len p.buf.now

abbrev pub size : Page → ℕ
size p = length p.buf.now

-- bs comes after what was there; or there's no room for it, and all is as it was
abbrev pub Printed : (room : ℕ) (old bs new : List ℕ) → Result (Unit {0}) Full → Type 0
Printed room old bs new done = MatchResult done (λ _. new ≡ old ++ bs) (λ _. (room < length old + length bs) × (new ≡ old))

-- there's no room for bs, and a part of it may be there after what was there
pub record Partly (room : ℕ) (old bs new : List ℕ) : Type 0 where
  pub full : room < length old + length bs
  pub kept : take (length old) new ≡ old

-- bs comes after what was there, or a part of it; the page's size stays
pub record Wrote (before : Page) (bs : List ℕ) (after : Page) (done : Result (Unit {0}) Full) : Type 0 where
  pub stays : size after ≡ size before
  pub text : MatchResult done (λ _. written after ≡ written before ++ bs) (λ _. Partly (size before) (written before) bs (written after))
