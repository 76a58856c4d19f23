use Rattle.world_moves.proofs.one.Still.{still_moves_lead_to_one}
use Rattle.world_moves.proofs.one.still_moves_lead_to_one.Goals as goal

pub returns : goal.returns
returns c = still_moves_lead_to_one
