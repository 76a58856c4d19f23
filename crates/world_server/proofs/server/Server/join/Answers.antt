use Rattle.world_server.specs.Servers.{seen}
use Rattle.world_server.proofs.Going.{mine_unshut, joins_as, not_joined}
use Rattle.std.proofs.Common.{refl}
use Rattle.world_server.proofs.server.Server.join.Goals as goal

pub join_of-requires : goal.join_of-requires
join_of-requires c = mine_unshut (seen c.args.self.now) c.requires.is_whole c.requires.goes_on

pub returns-in_ok-push-in-Ok : goal.returns-in_ok-push-in-Ok
returns-in_ok-push-in-Ok c =
    joins_as (seen c.args.self.now) (seen c.push.new.self) c.join_of.new.group c.requires.is_whole c.join_of.ensures.sound c.requires.goes_on c.in-Ok.conn c.in-Ok.ensures.joins c.in_ok-push-in-Ok.ensures

pub returns-in-Err : goal.returns-in-Err
returns-in-Err c =
    not_joined (seen c.args.self.now) _ c.join_of.new.group c.requires.is_whole c.join_of.ensures.sound refl c.in-Err.refusal c.unjoined.result c.requires.goes_on c.in-Err.ensures.joins c.unjoined.ensures
