-- The passes of a server in memory.
use Rattle.std.specs.Arc.{arc_value}
use Rattle.group_hub.specs.Passes.{IsPassOf}
use Rattle.desk_locks.specs.Passes as services
use Rattle.cases_served.specs.declared.server.Passes.{Passes}
use Rattle.cases_served.specs.declared.server.Server.{Server}

-- one of its groups, and one of its services
pub record AreOf (s : Server) (p : Passes) : Type 0 where
  pub groups : IsPassOf (arc_value s.hub) p.groups
  pub desks : services.IsPassOf (arc_value s.service).desks p.desks
