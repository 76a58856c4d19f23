use Rattle.std.proofs.Common.{length}
use Rattle.world_server.proofs.finishes.+add_cookies.Given as goal

abbrev pub decreases-add_cookies : goal.decreases-add_cookies
decreases-add_cookies l = length l.slots.now
