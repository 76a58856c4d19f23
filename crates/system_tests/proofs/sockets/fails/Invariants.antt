use Rattle.std.proofs.Common.{◌≡◌, false}
use Rattle.system_tests.proofs.sockets.fails.Given as goal

abbrev pub invariant-loop : goal.invariant-loop
invariant-loop g l = (g.K.Link.shows l.link).closed ≡ false
