-- What a call at the sweep comes to: what is written at its moment and answered, or that it waits.
-- Assumes nothing.
use Rattle.std.specs.Prelude.{◌≡◌, ℕ, ◌+◌, ◌<◌, ◌≤◌, true, false, List, [], ◌∷◌, length, Some, None, Option, Ok, Err, Result, ◌≢◌}
use Rattle.heal.specs.declared.Call.{Call}
use Rattle.heal.specs.declared.Call.TheVariants.{Say}
use Rattle.heal.specs.declared.Answer.{Answer}
use Rattle.heal.specs.declared.Answer.TheVariants.{No}
use Rattle.heal.specs.declared.Down.{Down}
use Rattle.heal.specs.declared.decision.Moment.{Moment}
use Rattle.heal.specs.declared.decision.NotDone.{NotDone}
use Rattle.heal.specs.declared.decision.NotDone.TheVariants.{Refused, Waits, Fell}
use Rattle.heal.specs.declared.decision.Refusal.TheVariants.{DeskNotOwn}
use Rattle.heal.specs.Refusal.{refusal_code}
use Rattle.heal.specs.Kernel.{Kern, Event, Some', server_of, cells_of}
use Rattle.heal.specs.House.{State, Run, waits_in}
use Rattle.heal.specs.Promise.{can}
use Rattle.heal.specs.Files.{FilesAre}
use Rattle.heal.specs.Journal.{viewed, kept_all, Within}
use Rattle.heal.specs.Turn.{Able, After, Did, Exact, cells}
use Rattle.heal.specs.Invariant.{Inv, Who, DeskIs, Moves, Before, Common, last, done, owed, sweep, owner_in, shown_in}

-- p's call c is in its slot, the sweep is there, and the box is empty
pub record Standing (p : ℕ) (c : Call) (k : Kern) : Type 0 where
  pub number : ℕ
  pub low : 0 < p
  pub small : p < 64
  pub at : sweep (k.cell k.at) ≡ p
  pub pend : k.pending p ≡ Some' number c
  pub here : server_of c ≡ k.at
  pub held : last (k.cell k.at) p ≡ number + 1
  pub undone : done (k.cell k.at) p ≤ number
  pub none : k.box k.at ≡ []

-- where a decision begins: p's call c is at the sweep, and n things may be asked
pub record AtSweep (n p : ℕ) (c : Call) (k : Kern) (es : List Event) : Type 0 where
  pub able : Able n k es
  pub stand : Standing p c (viewed k)

-- none of these cells is one of the slots' or the sweep's
abbrev pub Apart : List (ℕ × ℕ) → Type 0
Apart [] = Unit {0}
Apart (x ∷ xs) = (Common x.0 → ⊥) × Apart xs

-- writing these and answering so is the call's moment, as on the machine that never falls
pub record Decided (p : ℕ) (c : Call) (a : Answer) (ps : List (ℕ × ℕ)) (k : Kern) (es : List Event) : Type 0 where
  pub few : length ps ≤ 3
  pub within : Within (cells_of k.at) ps
  pub apart : Apart ps
  pub moves : (s : State) → Run can es s → Who k.runs s → DeskIs (k.cell 2) k.screen k.keys k.pending s → FilesAre (k.cell 1) s.file s.hand → (g : ℕ) → Before k p c g s → Moves k (kept_all ps k).cell es p c a g s

-- what a call comes to: its moment, at which it is answered and cells are written; or it waits
pub data Decision : Type 0 where
  Finish : Answer → List (ℕ × ℕ) → Decision
  Pass : Decision

-- what a handler hands back: a refusal is a moment too, at which nothing is written
abbrev pub decision_of : Result Moment NotDone → Result Decision Down
decision_of (Ok m) = Ok (Finish m.answer m.writes)
decision_of (Err (Refused r)) = Ok (Finish (No (refusal_code r)) [])
decision_of (Err Waits) = Ok Pass
decision_of (Err Fell) = Err (record {})

abbrev pub Chosen : ℕ → Call → Decision → Kern → List Event → Type 0
Chosen p c (Finish a ps) k es = Standing p c k × Decided p c a ps k es
Chosen p c Pass k es = Standing p c k × ((b : ℕ → ℕ) (i : Inv b k es) → waits_in i.0 p c ≡ true)

-- with at most n things asked, what p's call c comes to is found; or the server fell
abbrev pub Decides : ℕ → ℕ → Call → Kern → List Event → Result Moment NotDone → Kern → List Event → Type 0
Decides n p c k es r l fs = Did n k es (decision_of r) l fs (λ d. Chosen p c d (viewed l) fs × (l.box ≡ k.box))

-- what the word of the desk's owner says: the desk is nobody's, or a program's
abbrev pub OwnedBy : Option ℕ → ℕ → Type 0
OwnedBy None w = w ≡ 0
OwnedBy (Some q) w = (w ≡ q) × (q ≢ 0)

-- after at most n things asked, all of which were done, and nothing that is meant has changed
pub record Looked (n : ℕ) (k : Kern) (es : List Event) (l : Kern) (fs : List Event) : Type 0 where
  pub after : After n k es true l fs
  pub same : Exact (viewed k) es l fs

-- the desk is p's own, or p is turned away since it isn't; or the server fell
abbrev pub OwnDesk : ℕ → Kern → List Event → Result (Unit {0}) NotDone → Kern → List Event → Type 0
OwnDesk p k es (Ok x) l fs = Looked 1 k es l fs × (owner_in (cells k) ≡ p)
OwnDesk p k es (Err (Refused r)) l fs = Looked 1 k es l fs × (owner_in (cells k) ≢ p) × (r ≡ DeskNotOwn)
OwnDesk p k es (Err Waits) l fs = ⊥
OwnDesk p k es (Err Fell) l fs = After 1 k es false l fs

-- with at most n things asked, and nothing changed that is meant, something is found of which P holds; or the server fell
abbrev pub Finds : {A : Type 0} → ℕ → Kern → List Event → Result A Down → Kern → List Event → (A → Type 0) → Type 0
Finds n k es r l fs P = Did n k es r l fs (λ x. P x × Exact (viewed k) es l fs)

-- p's word is on the screen, and the cells don't count it yet
pub record Onscreen (p place x : ℕ) (k : Kern) : Type 0 where
  pub stand : Standing p (Say x) k
  pub two : k.at ≡ 2
  pub own : owner_in (k.cell 2) ≡ p
  pub which : shown_in (k.cell 2) ≡ place
  pub len : length k.screen ≡ place + 1

-- the words of the answer a are written, and nothing else is touched that a decision rests on
pub record Noted (a : Answer) (k : Kern) (es : List Event) (l : Kern) (fs : List Event) : Type 0 where
  pub owes : owed (l.cell l.at) ≡ a
  pub boxes : l.box ≡ k.box
  pub stands : (p : ℕ) (c : Call) → Standing p c k → Standing p c l
  pub stays : (p : ℕ) (c : Call) (b : Answer) (ps : List (ℕ × ℕ)) → Decided p c b ps k es → Decided p c b ps l fs
