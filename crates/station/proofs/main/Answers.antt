-- How long the arrays are.
use Rattle.std.proofs.Common.{ℕ, sym}
use lib.ListN.{length-replicate}
use Rattle.station.proofs.main.Goals as goal

pub slice_bounds-play_input-end : goal.slice_bounds-play_input-end
slice_bounds-play_input-end c = sym (length-replicate {0} {A = ℕ} 1048577 0)

pub slice_bounds-play_input-end-3 : goal.slice_bounds-play_input-end-3
slice_bounds-play_input-end-3 c = sym (length-replicate {0} {A = ℕ} 2097152 0)
