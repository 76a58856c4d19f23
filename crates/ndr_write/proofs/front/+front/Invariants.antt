use Rattle.std.proofs.Common.{◌+◌, ◌*◌}
use Rattle.ndr_write.proofs.front.+front.Given as goal

abbrev pub decreases-front_count : goal.decreases-front_count
decreases-front_count l = 4 * l.fuel

abbrev pub decreases-front_last : goal.decreases-front_last
decreases-front_last l = 4 * l.fuel + 1

abbrev pub decreases-front_struct : goal.decreases-front_struct
decreases-front_struct l = 4 * l.fuel + 2

abbrev pub decreases-front_one : goal.decreases-front_one
decreases-front_one l = 4 * l.fuel + 3
