-- Where the sweep over the slots is.
-- Assumes nothing.
use Rattle.std.specs.Prelude.{ℕ, ◌+◌, ◌-◌, cond, ◌==◌, nat_lt, Option, Some, None}
use Rattle.heal.specs.declared.sweep.Sweep.{Sweep}
use Rattle.heal.specs.declared.sweep.Sweep.TheVariants.{Rests, At, Owes}

-- what the number in the cell says
abbrev pub sweep_of : ℕ → Sweep
sweep_of w = cond (w == 0) Rests (cond (nat_lt w 64) (At w) (Owes (w - 64)))

-- the number that says it
abbrev pub word_of : Sweep → ℕ
word_of Rests = 0
word_of (At p) = p
word_of (Owes p) = 64 + p

-- at the slot that is next
abbrev pub slot_of : Option ℕ → Sweep
slot_of None = Rests
slot_of (Some p) = At p
