use Rattle.world_moves.proofs.leads.Ending.{ends_enter}
use Rattle.world_moves.proofs.leads.ends_enter.Goals as goal

pub returns : goal.returns
returns c = ends_enter
