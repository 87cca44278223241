-- A ring of messages, as the list of them.
-- Assumes nothing.
use Rattle.std.specs.Prelude.{ℕ, ◌%◌, List, map, slice_index_or}
use Rattle.std.specs.List.{range_with_len}
use Rattle.heal.specs.declared.Msg.{Msg}
use Rattle.heal.specs.declared.Msg.TheVariants.{Asks}
use Rattle.heal.specs.declared.Call.TheVariants.{Spawn}

-- what lies at a position; positions count round the ring
unfoldable pub message_at : List Msg → ℕ → Msg
message_at ring i = slice_index_or ring (i % 512) (Asks 0 0 (Spawn 0))

-- the messages of a ring, the oldest first
unfoldable pub messages : List Msg → ℕ → ℕ → List Msg
messages ring first len = map (message_at ring) (range_with_len first len)
