use Rattle.handle_ways.proofs.Ways.{each_goes}
use Rattle.handle_ways.proofs.handles_go.Goals as goal

pub returns : goal.returns
returns c = each_goes c.args.checked.now c.tree.ensures.sound
