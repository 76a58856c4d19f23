use Rattle.std.proofs.Common.{refl}
use Rattle.replay_world.specs.Worlds.Printed.{Idle}
use Rattle.replay.proofs.Prints.{printed}
use Rattle.replay.proofs.say.say_idle.Goals as goal

pub returns : goal.returns
returns c = printed c.args.player.now (record c.args.player.now { out = c.put_idle.new.out }) c.args.played.now (Idle c.args.played.now.name) c.put_idle.ensures.fits refl c.in_ok-put_idle.ensures.text
