-- The line that words mean, for contracts of private functions: no public contract names these. Assumes nothing.
use Rattle.std.specs.Prelude.{ℕ, Bool, true, false, ◌&&◌, List, [], ◌∷◌, Some, None, Option, if◌then◌else◌, nat_lt}
use Rattle.std.specs.Option.{option_map}
use Rattle.heal.specs.declared.Call.{Call}
use Rattle.heal.specs.declared.Call.TheVariants as call
use Rattle.script.specs.declared.Line.{Line}
use Rattle.script.specs.declared.Line.TheVariants as line
use Rattle.script.specs.declared.words.Keyword.TheVariants as word
use Rattle.script.specs.declared.words.Token.{Token}
use Rattle.script.specs.declared.words.Token.TheVariants.{Number, Word}

abbrev pub small : ℕ → Bool
small n = nat_lt n 4294967296

-- what a program asks
abbrev pub call_of : List Token → Option Call
call_of (Word word.Spawn ∷ Number n ∷ []) = if small n then Some (call.Spawn n) else None
call_of (Word word.Exit ∷ Number n ∷ []) = if small n then Some (call.Exit n) else None
call_of (Word word.Wait ∷ []) = Some call.Wait
call_of (Word word.Kill ∷ Number n ∷ []) = if small n then Some (call.Kill n) else None
call_of (Word word.Open ∷ Number n ∷ Word word.W ∷ []) = if small n then Some (call.Open n true) else None
call_of (Word word.Open ∷ Number n ∷ Word word.R ∷ []) = if small n then Some (call.Open n false) else None
call_of (Word word.Close ∷ Number n ∷ []) = if small n then Some (call.Close n) else None
call_of (Word word.Read ∷ Number h ∷ Number n ∷ []) = if small h && small n then Some (call.Read h n) else None
call_of (Word word.Write ∷ Number h ∷ Number n ∷ Number x ∷ []) = if small h && (small n && small x) then Some (call.Write h n x) else None
call_of (Word word.Remove ∷ Number n ∷ []) = if small n then Some (call.Remove n) else None
call_of (Word word.Take ∷ []) = Some call.Take
call_of (Word word.Leave ∷ []) = Some call.Leave
call_of (Word word.Say ∷ Number x ∷ []) = if small x then Some (call.Say x) else None
call_of (Word word.Hear ∷ []) = Some call.Hear
call_of _ = None

abbrev pub line_of : List Token → Option Line
line_of (Number p ∷ ws) = if nat_lt 0 p && nat_lt p 64 then option_map (λ c. line.Ask p c) (call_of ws) else None
line_of (Word word.Key ∷ Number n ∷ []) = if small n then Some (line.Key n) else None
line_of (Word word.Round ∷ Number n ∷ []) = if small n then Some (line.Rounds n) else None
line_of (Word word.On ∷ []) = Some line.On
line_of (Word word.Fall ∷ Number s ∷ Number n ∷ Word word.After ∷ []) = if nat_lt s 3 && (nat_lt 0 n && small n) then Some (line.Fall s n true) else None
line_of (Word word.Fall ∷ Number s ∷ Number n ∷ Word word.Before ∷ []) = if nat_lt s 3 && (nat_lt 0 n && small n) then Some (line.Fall s n false) else None
line_of (Word word.Falls ∷ Number s ∷ Number n ∷ []) = if small s && small n then Some (line.Falls s n) else None
line_of (Word word.New ∷ []) = Some line.New
line_of _ = None
