use Rattle.std.proofs.Common.{◌≡◌, ◌<◌, false, length}
use Rattle.system_tests.proofs.sockets.hears.Given as goal

abbrev pub invariant-loop : goal.invariant-loop
invariant-loop g l = ((g.K.Link.shows l.listening).closed ≡ false) × (0 < length l.buffer)
