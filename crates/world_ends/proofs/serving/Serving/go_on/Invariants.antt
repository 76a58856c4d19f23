use Rattle.world_server.specs.Servers.{seen, IsWhole}
use Rattle.world_ends.specs.Servings.{Leads}
use Rattle.world_ends.proofs.serving.Serving.go_on.Given as goal

abbrev pub invariant-loop : goal.invariant-loop
invariant-loop l = IsWhole (seen l.server) × Leads (seen l.fn.server) l.fn.self (seen l.server) l.self
