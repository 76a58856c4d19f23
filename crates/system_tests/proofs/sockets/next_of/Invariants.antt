use Rattle.std.proofs.Common.{◌≡◌, ◌<◌, false, length}
use Rattle.system_tests.proofs.sockets.next_of.Given as goal

abbrev pub invariant-loop : goal.invariant-loop
invariant-loop g l = ((g.K.Link.shows l.link).closed ≡ false) × (0 < length l.into)
