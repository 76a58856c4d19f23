use Rattle.std.proofs.Common.{refl}
use Rattle.ndr_value.specs.Values.{msg}
use Rattle.world_server.specs.Servers.{seen}
use Rattle.call_world.proofs.Playing.{ready_after, ends_not_as, ends_as}
use Rattle.call_world.proofs.world.World.finish.Goals as goal

pub finish-requires : goal.finish-requires
finish-requires c = c.requires.is_whole

pub returns-then-not-done : goal.returns-then-not-done
returns-then-not-done c = ends_not_as c.args.self.now c.args.self.now c.args.call c.args.kepts (msg c.args.out) (seen c.finish.new.self) c.in_ok-done.done c.if-not-done.true c.in_ok-done.ensures

pub go_on_for-requires : goal.go_on_for-requires
go_on_for-requires c = ready_after c.args.self.now _ _ c.requires c.in_ok-done.ensures refl

pub returns : goal.returns
returns c = ends_as c.args.self.now c.go_on_for.new.self c.args.call c.args.kepts (msg c.args.out) _ c.in_ok-done.done c.if-not-done.false c.in_ok-done.ensures refl c.in_ok-go_on_for.ensures
