use Rattle.std.proofs.Common.{length}
use Rattle.manager_api.proofs.cookies.+has_cookies.Given as goal

abbrev pub decreases-has_cookies : goal.decreases-has_cookies
decreases-has_cookies l = length l.uses.now
