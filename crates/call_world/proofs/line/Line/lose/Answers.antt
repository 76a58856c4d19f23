use Rattle.std.proofs.Common.{refl}
use Rattle.world_server.specs.Servers.{seen}
use Rattle.call_world.proofs.Lines.{lost}
use Rattle.call_world.proofs.line.Line.lose.Goals as goal

pub returns : goal.returns
returns c =
    lost (seen c.args.server.now) (seen c.lose-2.new.server) c.args.self.now _ c.in_ok-lose.ensures.left c.in_ok-lose.ensures.same c.in_ok-lose.ensures.gone c.lose.ensures c.clear.ensures.items refl refl
