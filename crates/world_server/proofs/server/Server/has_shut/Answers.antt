use Rattle.std.proofs.Common.{◌∙◌}
use Rattle.world_server.specs.Servers.{seen}
use Rattle.world_server.proofs.Going.{has_shut_is}
use Rattle.world_server.proofs.server.Server.has_shut.Goals as goal

pub returns : goal.returns
returns c = c.has_shut.ensures ∙ has_shut_is (seen c.args.self.now) c.requires
