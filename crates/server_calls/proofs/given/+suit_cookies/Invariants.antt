use Rattle.std.proofs.Common.{length}
use Rattle.server_calls.proofs.given.+suit_cookies.Given as goal

abbrev pub decreases-suit_cookies : goal.decreases-suit_cookies
decreases-suit_cookies l = length l.slots.now
