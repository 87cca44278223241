-- What a program's call means, and which calls may wait.
-- Assumes nothing.
use Rattle.std.specs.Prelude.{Bool, true, false, Option, Some, None}
use Rattle.heal.specs.declared.Call.{Call}
use Rattle.heal.specs.declared.Call.TheVariants.{Spawn, Exit, Wait, Kill, Open, Close, Read, Write, Remove, Take, Leave, Say, Hear}
use Rattle.heal.specs.Kernel.{Pending, None', Some'}
use Rattle.memory.specs.declared.program.PendingCall.{PendingCall}

abbrev pub pending_of : Option PendingCall → Pending
pending_of None = None'
pending_of (Some w) = Some' w.number w.call

abbrev pub idle : Pending → Bool
idle None' = true
idle (Some' n c) = false

-- a call that may wait for ever: for a program that ends, for a key
abbrev pub may_wait : Call → Bool
may_wait (Spawn n) = false
may_wait (Exit c) = false
may_wait Wait = true
may_wait (Kill p) = false
may_wait (Open n w) = false
may_wait (Close h) = false
may_wait (Read h i) = false
may_wait (Write h i x) = false
may_wait (Remove n) = false
may_wait Take = false
may_wait Leave = false
may_wait (Say x) = false
may_wait Hear = true

abbrev pub calm_of : Pending → Bool
calm_of None' = true
calm_of (Some' n c) = may_wait c
