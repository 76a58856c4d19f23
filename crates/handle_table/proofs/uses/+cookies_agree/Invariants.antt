use Rattle.std.proofs.Common.{length}
use Rattle.handle_table.proofs.uses.+cookies_agree.Given as goal

abbrev pub decreases-cookies_agree : goal.decreases-cookies_agree
decreases-cookies_agree g l = length l.slots.now
