use Rattle.std.proofs.Common.{refl}
use Rattle.heal.specs.House.{some', first, living, dead, nobody, parent_of, missing, words, is_on, is_empty, name_of, writes_of, write_in, does}
use Rattle.heal.specs.Rows.{tells, leaves, told}
use Rattle.heal.proofs.rows_hold.Goals as goal

-- by computation
pub returns : goal.returns
unfolding told tells leaves does some' first living dead nobody parent_of missing words is_on is_empty name_of writes_of write_in
returns c = (refl, (refl, (refl, tt)))
