use Rattle.replay.proofs.Each.{opened}
use Rattle.replay.proofs.lines.open.Goals as goal

pub returns : goal.returns
returns c = opened c.args.name c.in_ok-opened.opened c.args.player.now c.«open».new.self c.in_ok-opened.ensures
