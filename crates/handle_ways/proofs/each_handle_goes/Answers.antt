use Rattle.handle_ways.proofs.Ways.{each_goes}
use Rattle.handle_ways.proofs.each_handle_goes.Goals as goal

pub returns : goal.returns
returns c = each_goes
