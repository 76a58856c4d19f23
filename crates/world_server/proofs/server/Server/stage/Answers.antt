use Rattle.std.proofs.Common.{◌∙◌}
use Rattle.world_server.specs.Servers.{seen}
use Rattle.world_server.proofs.Going.{stage_is}
use Rattle.world_server.proofs.server.Server.stage.Goals as goal

pub returns : goal.returns
returns c = c.stage.ensures ∙ stage_is (seen c.args.self.now) c.args.call c.requires
