use Rattle.std.proofs.Common.{refl}
use Rattle.handle_model.specs.declared.entry.Entry.TheVariants.{Leave}
use Rattle.world_server.specs.Servers.{seen}
use Rattle.world_server.proofs.Going.{mine_open, settled}
use Rattle.world_server.proofs.server.Server.leave.Goals as goal

pub leave_of-rest-requires : goal.leave_of-rest-requires
leave_of-rest-requires c = mine_open (seen c.args.self.now) c.args.conn c.requires.is_whole c.requires.is_open

pub returns : goal.returns
returns c =
    settled (seen c.args.self.now) (seen c.settle.new.self) c.leave_of-rest.new.group c.requires.is_whole c.leave_of-rest.ensures.sound (Leave c.args.conn) c.leave_of-rest.result c.settle.result refl tt
    c.leave_of-rest.ensures.leaves c.settle.ensures
