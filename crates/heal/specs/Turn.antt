-- What the functions of a server say.
-- Assumes nothing.
use Rattle.std.specs.Prelude.{◌≡◌, ℕ, ◌+◌, ◌<◌, ◌≤◌, Bool, true, false, not, T, ◌⊎◌, List, [], ◌∷◌, length, is_ok, Some, None, Ok, Option, Result}
use Rattle.heal.specs.Ready.{has, FirstFrom}
use Rattle.heal.specs.declared.Call.{Call}
use Rattle.heal.specs.declared.Down.{Down}
use Rattle.heal.specs.declared.Msg.{Msg}
use Rattle.heal.specs.declared.Msg.TheVariants.{Asks}
use Rattle.heal.specs.Kernel.{Event, Kern, kept, is_call, Some', server_of}
use Rattle.heal.specs.Journal.{viewed, own, Sound, Settled, with_left}
use Rattle.heal.specs.Invariant.{Inv, nothing, last, done, sweep, ready, credit, plus}

-- a server's own cells, as they are meant
abbrev pub cells : Kern → ℕ → ℕ
cells k = own (viewed k)

-- the sweep stands at a slot or rests: nobody is owed an answer
abbrev pub IsCalm : Kern → Type 0
IsCalm k = sweep (cells k) < 64

-- the sweep stands at p's slot
abbrev pub IsAt : ℕ → Kern → Type 0
IsAt p k = (sweep (cells k) ≡ p) × (0 < p) × (p < 64)

-- all that the server was sent is in slots
abbrev pub BoxIsEmpty : Kern → Type 0
BoxIsEmpty k = k.box k.at ≡ []

-- n things may be asked
pub record Able (n : ℕ) (k : Kern) (es : List Event) : Type 0 where
  pub some : n ≤ k.left
  pub stands : k.fell ≡ false
  pub sound : Sound k
  pub settled : Settled k
  pub inv : Inv nothing (viewed k) es

-- after at most n things asked, of which the last was done, if ok, and all before it
pub record After (n : ℕ) (k : Kern) (es : List Event) (ok : Bool) (l : Kern) (fs : List Event) : Type 0 where
  pub seat : l.at ≡ k.at
  pub fell : l.fell ≡ not ok
  pub spent : k.left ≤ l.left + n
  pub sound : Sound l
  pub settled : ok ≡ true → Settled l
  pub kept : (a : ℕ → ℕ) → Inv a (viewed k) es → Inv a (viewed l) fs

pub record Did {A : Type 0} (n : ℕ) (k : Kern) (es : List Event) (r : Result A Down) (l : Kern) (fs : List Event) (P : A → Type 0) : Type 0 where
  pub after : After n k es (is_ok r) l fs
  pub gives : (x : A) → r ≡ Ok x → P x

-- all that is meant is as in j
pub record Exact (j : Kern) (es : List Event) (l : Kern) (fs : List Event) : Type 0 where
  pub is : viewed l ≡ with_left l.left j
  pub same : fs ≡ es

abbrev pub Keeps : Kern → List Event → Kern → List Event → Type 0
Keeps k es l fs = (a : ℕ → ℕ) → Inv a k es → Inv a l fs

-- wherever the sweep goes on to after p, all that holds is kept
abbrev pub MayAdvance : ℕ → Kern → List Event → Type 0
MayAdvance p k es = (to : ℕ) → FirstFrom (p + 1) (ready (cells k)) to → Keeps (viewed k) es (kept 32 to (viewed k)) es

-- the sweep went on after p
pub record Advanced (p : ℕ) (k : Kern) (es : List Event) (l : Kern) (fs : List Event) : Type 0 where
  pub to : ℕ
  pub first : FirstFrom (p + 1) (ready (cells k)) to
  pub exact : Exact (kept 32 to (viewed k)) es l fs

-- the first message is a call
abbrev pub Heads : ℕ → ℕ → Call → Kern → Type 0
Heads p n c k = (ms : List Msg) × (k.box k.at ≡ Asks p n c ∷ ms)

-- the sweep stands at a slot or rests, and the box is as it was
pub record Calm (k l : Kern) : Type 0 where
  pub sweeping : sweep (cells l) < 64
  pub boxes : l.box ≡ k.box

-- one step gives n credits to all calls at the server
abbrev pub Gives : ℕ → Kern → List Event → Kern → List Event → Type 0
Gives n k es l fs = (a : ℕ → ℕ) → Inv a (viewed k) es → Inv (plus k.at n a) (viewed l) fs

-- the calls at the server have n credits then
abbrev pub Credits : ℕ → Kern → List Event → Kern → List Event → Type 0
Credits n k es l fs = (a : ℕ → ℕ) → Inv a (viewed k) es → Inv (credit k.at n a) (viewed l) fs

pub record Worked (n : ℕ) (k : Kern) (es : List Event) (l : Kern) (fs : List Event) : Type 0 where
  pub calm : Calm k l
  pub rests : (sweep (cells l) ≡ 0) ⊎ Gives n k es l fs

-- before a turn: the server stands, and may ask for all that a turn takes
pub record TurnStarts (k : Kern) (es : List Event) : Type 0 where
  pub some : 4096 ≤ k.left
  pub stands : k.fell ≡ false
  pub sound : Sound k
  pub inv : Inv nothing (viewed k) es

-- after a turn, or a fall in it
pub record Turned (k : Kern) (es : List Event) (ok : Bool) (l : Kern) (fs : List Event) : Type 0 where
  pub seat : l.at ≡ k.at
  pub fell : l.fell ≡ not ok
  pub sound : Sound l
  pub kept : (a : ℕ → ℕ) → Inv a (viewed k) es → Inv a (viewed l) fs
  pub gave : ok ≡ true → Credits 32 k es l fs

-- the first message is p's call n, which isn't accepted; of a server's box and cells
pub record Storing (p n : ℕ) (c : Call) (xs : List Msg) (d : ℕ → ℕ) : Type 0 where
  pub rest : List Msg
  pub head : xs ≡ Asks p n c ∷ rest
  pub fresh : last d p ≤ n
  pub calm : sweep d < 64
  pub bit : T (has p (ready d))

-- it's accepted, and nothing else is changed that matters
pub record Stored (p n : ℕ) (k l : Kern) : Type 0 where
  pub there : n < last (cells l) p
  pub boxes : l.box ≡ k.box
  pub swept : sweep (cells l) ≡ sweep (cells k)

-- one message fewer
pub record Fewer (k l : Kern) : Type 0 where
  pub less : length (l.box l.at) + 1 ≤ length (k.box k.at)
  pub swept : sweep (cells l) ≡ sweep (cells k)

pub record Drained (k l : Kern) : Type 0 where
  pub none : l.box l.at ≡ []
  pub swept : sweep (cells l) ≡ sweep (cells k)

-- p was told, and waits no more for that call
pub record Told (p n : ℕ) (k l : Kern) : Type 0 where
  pub over : is_call n (l.pending p) ≡ false
  pub same : cells l ≡ cells k
  pub boxes : l.box ≡ k.box

-- the moment was: an answer is owed
pub record Finished (p : ℕ) (k : Kern) (es : List Event) (l : Kern) (fs : List Event) : Type 0 where
  pub owes : sweep (cells l) ≡ 64 + p
  pub boxes : l.box ≡ k.box
  pub gave : Gives 1 k es l fs

-- one step of the sweep
pub record Stepped (k : Kern) (es : List Event) (l : Kern) (fs : List Event) : Type 0 where
  pub calm : Calm k l
  pub gave : Gives 1 k es l fs

abbrev pub Begun : Kern → List Event → Kern → List Event → Type 0
Begun k es l fs = (a : ℕ → ℕ) (b : ℕ) → b ≤ a k.at + 32 → Inv a (viewed k) es → Inv (credit k.at b a) (viewed l) fs

-- what is in p's slot: nothing, or the call that p waits for
pub record InSlot (p : ℕ) (k : Kern) (o : Option Call) : Type 0 where
  pub none : o ≡ None → done (cells k) p ≡ last (cells k) p
  pub some : (c : Call) → o ≡ Some c → (n : ℕ) × (k.pending p ≡ Some' n c) × (server_of c ≡ k.at) × (last (cells k) p ≡ n + 1) × (done (cells k) p ≤ n)
