-- What holds after each thing that is asked of the kernel, whoever falls over it. All of it is about logical cells.
-- Assumes nothing.
use Rattle.std.specs.Prelude.{◌≡◌, ℕ, ◌+◌, ◌-◌, ◌*◌, ◌<◌, ◌≤◌, Bool, true, false, cond, not, ◌&&◌, T, ◌⊎◌, List, [], ◌∷◌, length, ◌==◌, ◌≢◌, nat_eq, nat_le, nat_lt}
use Rattle.heal.specs.declared.Call.{Call}
use Rattle.heal.specs.declared.Call.TheVariants.{Say}
use Rattle.heal.specs.declared.Answer.{Answer}
use Rattle.heal.specs.declared.Answer.TheVariants.{Done}
use Rattle.heal.specs.declared.Msg.{Msg}
use Rattle.heal.specs.declared.Msg.TheVariants.{Asks, Tells}
use Rattle.heal.specs.Kernel.{Event, Kern, Pending, None', Some', server_of, tail}
use Rattle.heal.specs.House.{Nobody, Living, Now, Quiet, Under, Over, State, Run, put, waits_in}
use Rattle.heal.specs.Promise.{can}
use Rattle.heal.specs.Codec.{call_of, answer_of}
use Rattle.heal.specs.Ready.{has}
use Rattle.heal.specs.Files.{FilesAre}

-- a server's cells
abbrev pub last : (ℕ → ℕ) → ℕ → ℕ
last d p = d (64 + p)

abbrev pub done : (ℕ → ℕ) → ℕ → ℕ
done d p = d (128 + p)

abbrev pub call_at : (ℕ → ℕ) → ℕ → Call
call_at d p = call_of (d (192 + p)) (d (256 + p)) (d (320 + p)) (d (384 + p))

abbrev pub owed : (ℕ → ℕ) → Answer
owed d = answer_of (d 33) (d 34) (d 35)

abbrev pub ready : (ℕ → ℕ) → ℕ
ready d = d 36

-- below 64: the sweep is at that slot, 0 at rest; 64 + p: p is owed an answer, and the sweep goes on after it
abbrev pub sweep : (ℕ → ℕ) → ℕ
sweep d = d 32

-- the desk's server: whose the desk is, how many words were shown and keys heard
abbrev pub owner_in : (ℕ → ℕ) → ℕ
owner_in d = d 52

abbrev pub shown_in : (ℕ → ℕ) → ℕ
shown_in d = d 53

abbrev pub heard_in : (ℕ → ℕ) → ℕ
heard_in d = d 54

-- A word is on the screen before the cells count it: the call at the sweep has had its moment. Is it p's at server σ?
unfoldable pub ahead : (σ p at shown len : ℕ) → Bool
ahead σ p at shown len = σ == 2 && at == p && not (len == shown)

-- The measure of a call: in the box, in a slot, owed.
unfoldable pub pos : ℕ → ℕ
pos w = cond (nat_lt w 64) w (cond (w == 127) 0 (w - 63))

unfoldable pub far : ℕ → ℕ → ℕ
far p w = cond (nat_lt 0 (pos w) && nat_le (pos w) p) (p - pos w + 33) (cond (pos w == 0) 128 (192 - pos w))

unfoldable pub hops : (l d n p w : ℕ) → ℕ
hops l d n p w = cond (nat_le l n) 224 (cond (nat_le d n) (far p w) 32)

abbrev pub Has : Msg → List Msg → Type 0
Has m [] = ⊥
Has m (x ∷ xs) = (x ≡ m) ⊎ Has m xs

abbrev pub All : (Msg → Type 0) → List Msg → Type 0
All P [] = Unit {0}
All P (x ∷ xs) = P x × All P xs

-- how many calls of q there are
unfoldable pub occ : ℕ → List Msg → ℕ
occ q [] = 0
occ q (Asks p n c ∷ ms) = cond (p == q) 1 0 + occ q ms
occ q (Tells r k a b c ∷ ms) = occ q ms

-- a message in the box of σ: a call that is under way and hasn't had its moment
abbrev pub MsgOk : (ℕ → Pending) → (ℕ → ℕ) → ℕ → Msg → Type 0
MsgOk pending d σ (Asks p n c) = (0 < p) × (p < 64) × (pending p ≡ Some' n c) × (server_of c ≡ σ) × (done d p ≤ n)
MsgOk pending d σ (Tells f k a b c) = ⊥

-- and isn't in its slot yet
abbrev pub Fresh : (ℕ → ℕ) → Msg → Type 0
Fresh d (Asks p n c) = last d p ≤ n
Fresh d (Tells f k a b c) = Unit {0}

pub record Mail (pending : ℕ → Pending) (d : ℕ → ℕ) (σ : ℕ) (box : List Msg) : Type 0 where
  pub fine : All (MsgOk pending d σ) box
  pub fresh : All (Fresh d) (tail box)
  pub once : (q : ℕ) → occ q box ≤ 1

-- p waits for its call n, which is c; d and box are those of the server that it went to, w is what the house says of p.
-- early: it has had its moment, though the cells don't say so yet; waits: it waits for others, as its row says
pub record Waiting (a : ℕ) (d : ℕ → ℕ) (box : List Msg) (p n : ℕ) (c : Call) (early waits : Bool) (w : Now) : Type 0 where
  pub low : 0 < p
  pub small : p < 64
  pub age : ℕ
  pub how : w ≡ cond (nat_le (done d p) n) (cond early (Over c Done age) (Under c age)) (Over c (owed d) age)
  pub soon : 32 * age + cond (nat_le (done d p) n && waits) 2000 (hops (last d p) (done d p) n p (sweep d) + a) ≤ 131072
  pub calm : waits ≡ true → early ≡ false
  pub boxed : last d p ≤ n → Has (Asks p n c) box
  pub slot : n < last d p → done d p ≤ n → call_at d p ≡ c
  pub bit : n < last d p → done d p ≤ n → T (has p (ready d))
  pub owing : n < done d p → sweep d ≡ 64 + p

-- only program 1 lives
pub record Who (runs : ℕ → Bool) (s : State) : Type 0 where
  pub procs : (p : ℕ) → s.proc p ≡ cond (p == 1) (Living 1 true) Nobody
  pub ons : (p : ℕ) → s.on p ≡ (p == 1)
  pub running : (p : ℕ) → runs p ≡ (p == 1)

-- numbers of calls at a server: p's call n is there, or it isn't
pub record Numbers (σ number : ℕ) (x : Pending) (l d : ℕ) : Type 0 where
  pub le : d ≤ l
  pub top : l ≤ number
  pub fits : number < 18446744073709551616
  pub this : (n : ℕ) (c : Call) → x ≡ Some' n c → n + 1 ≡ number
  pub full : d < l → (n : ℕ) × (c : Call) × (x ≡ Some' n c) × (server_of c ≡ σ) × (l ≡ n + 1)
  pub other : (n : ℕ) (c : Call) → x ≡ Some' n c → (server_of c ≡ σ) ⊎ (l ≤ n)

pub record Sweeps (d : ℕ → ℕ) : Type 0 where
  pub within : sweep d < 128
  pub not0 : sweep d ≡ 64 → ⊥
  pub owes : (p : ℕ) → sweep d ≡ 64 + p → (0 < done d p) × (last d p ≡ done d p)

-- a word is shown that the cells don't count yet: who says it is at the sweep
pub record Early (d : ℕ → ℕ) (len : ℕ) (pending : ℕ → Pending) : Type 0 where
  pub next : len ≡ shown_in d + 1
  pub low : 0 < sweep d
  pub small : sweep d < 64
  pub number : ℕ
  pub word : ℕ
  pub what : pending (sweep d) ≡ Some' number (Say word)
  pub held : number < last d (sweep d)
  pub undone : done d (sweep d) ≤ number
  pub own : owner_in d ≡ sweep d

-- what the cells of the desk's server mean
pub record DeskIs (d : ℕ → ℕ) (screen keys : List ℕ) (pending : ℕ → Pending) (s : State) : Type 0 where
  pub owns : s.owner ≡ owner_in d
  pub hears : s.heard ≡ heard_in d
  pub typed : s.keys ≡ keys
  pub shows : s.screen ≡ screen
  pub places : nat_eq (length screen) (shown_in d) ≡ false → Early d (length screen) pending
  pub few : shown_in d + heard_in d ≤ done d 1

-- the same at a moment of server σ, whose cells were e: no word is ahead, if it's the desk's
pub record Shut (d : ℕ → ℕ) (σ : ℕ) (screen keys : List ℕ) (e : ℕ → ℕ) (s : State) : Type 0 where
  pub owns : s.owner ≡ owner_in d
  pub hears : s.heard ≡ heard_in d
  pub typed : s.keys ≡ keys
  pub shows : s.screen ≡ screen
  pub places : σ ≡ 2 → length screen ≡ shown_in d
  pub same : (σ ≢ 2) → (d 52 ≡ e 52) × (d 53 ≡ e 53)
  pub few : shown_in d + heard_in d ≤ shown_in e + heard_in e + cond (σ == 2) 1 0

pub record Rel (a : ℕ → ℕ) (box : ℕ → List Msg) (cell : ℕ → ℕ → ℕ) (runs : ℕ → Bool) (pending : ℕ → Pending) (number : ℕ → ℕ) (screen keys : List ℕ) (s : State) : Type 0 where
  pub who : Who runs s
  pub only : (p n : ℕ) (c : Call) → pending p ≡ Some' n c → p ≡ 1
  pub quiet : (p : ℕ) → pending p ≡ None' → s.now' p ≡ Quiet
  pub calls : (p n : ℕ) (c : Call) → pending p ≡ Some' n c →
      Waiting (a (server_of c)) (cell (server_of c)) (box (server_of c)) p n c (ahead (server_of c) p (sweep (cell 2)) (shown_in (cell 2)) (length screen)) (waits_in s p c) (s.now' p)
  pub numbers : (σ p : ℕ) → p < 64 → Numbers σ (number p) (pending p) (last (cell σ) p) (done (cell σ) p)
  pub mail : (σ : ℕ) → Mail pending (cell σ) σ (box σ)
  pub sweeps : (σ : ℕ) → Sweeps (cell σ)
  pub desk : DeskIs (cell 2) screen keys pending s
  pub files : FilesAre (cell 1) s.file s.hand

-- with credits a; of the kernel with logical cells
abbrev pub Inv : (ℕ → ℕ) → Kern → List Event → Type 0
Inv a k es = (s : State) × Run can es s × Rel a k.box k.cell k.runs k.pending k.number k.screen k.keys s

abbrev pub nothing : ℕ → ℕ
nothing σ = 0

abbrev pub credit : ℕ → ℕ → (ℕ → ℕ) → ℕ → ℕ
credit σ n a = put σ n a

abbrev pub plus : ℕ → ℕ → (ℕ → ℕ) → ℕ → ℕ
plus σ n a τ = cond (τ == σ) (a τ + n) (a τ)

-- The moment of p's call c, which is answered by a: a state t of the house that follows s, and that the cells f mean.
-- Nobody else's call is touched.
pub record Moves (k : Kern) (f : ℕ → ℕ → ℕ) (es : List Event) (p : ℕ) (c : Call) (a : Answer) (g : ℕ) (s : State) : Type 0 where
  pub t : State
  pub run : Run can es t
  pub over : t.now' p ≡ Over c a g
  pub others : (q : ℕ) → (q ≢ p) → t.now' q ≡ s.now' q
  pub procs : (q : ℕ) → t.proc q ≡ s.proc q
  pub ons : (q : ℕ) → t.on q ≡ s.on q
  pub ready : waits_in s p c ≡ false
  pub desk : Shut (f 2) k.at k.screen k.keys (k.cell 2) t
  pub files : FilesAre (f 1) t.file t.hand

-- what stands of the house before that
abbrev pub Before : Kern → ℕ → Call → ℕ → State → Type 0
Before k p c g s = s.now' p ≡ cond (ahead (server_of c) p (sweep (k.cell 2)) (shown_in (k.cell 2)) (length k.screen)) (Over c Done g) (Under c g)

-- cells of slots and sweep, which no moment writes but by its last two words
abbrev pub Common : ℕ → Type 0
Common j = (j < 48) ⊎ ((64 ≤ j) × (j < 512))
