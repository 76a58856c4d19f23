use Rattle.std.proofs.Common.{refl}
use Rattle.replay_world.specs.Worlds.Printed.{Waits}
use Rattle.replay.proofs.Prints.{printed}
use Rattle.replay.proofs.say.say_waits.Goals as goal

pub returns : goal.returns
returns c = printed c.args.player.now (record c.args.player.now { out = c.put_waits.new.out }) c.args.played.now (Waits c.args.played.now.name c.args.call) c.put_waits.ensures.fits refl c.in_ok-put_waits.ensures.text
