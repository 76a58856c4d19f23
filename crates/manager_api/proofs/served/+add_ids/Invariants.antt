use Rattle.std.proofs.Common.{length}
use Rattle.manager_api.proofs.served.+add_ids.Given as goal

abbrev pub decreases-add_ids : goal.decreases-add_ids
decreases-add_ids l = length l.tables.now
