use Rattle.world_moves.proofs.one.Hearing.{callers_lead_to_one}
use Rattle.world_moves.proofs.one.callers_lead_to_one.Goals as goal

pub returns : goal.returns
returns c = callers_lead_to_one c.one_message.ensures c.stub_is_read.ensures
