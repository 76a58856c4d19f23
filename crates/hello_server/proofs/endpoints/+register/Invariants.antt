use Rattle.std.proofs.Common.{length}
use Rattle.hello_server.proofs.endpoints.+register.Given as goal

abbrev pub decreases-register : goal.decreases-register
decreases-register l = length l.ids.now
