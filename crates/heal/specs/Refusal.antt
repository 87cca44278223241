-- The numbers by which a program is told that a call is turned away.
-- Assumes nothing.
use Rattle.std.specs.Prelude.{ℕ}
use Rattle.heal.specs.declared.decision.Refusal.{Refusal}
use Rattle.heal.specs.declared.decision.Refusal.TheVariants.{NoSuchName, MissingFile, NoSuchHandle, PastEnd, ReadOnly, FileInUse, DeskNotOwn, NoHandleLeft, NotBuilt}

abbrev pub refusal_code : Refusal → ℕ
refusal_code NoSuchName = 1
refusal_code MissingFile = 2
refusal_code NoSuchHandle = 4
refusal_code PastEnd = 5
refusal_code ReadOnly = 6
refusal_code FileInUse = 8
refusal_code DeskNotOwn = 9
refusal_code NoHandleLeft = 13
refusal_code NotBuilt = 14
