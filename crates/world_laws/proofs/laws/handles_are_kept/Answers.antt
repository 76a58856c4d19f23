use Rattle.world_laws.proofs.KeptHandles.{handles_are_kept}
use Rattle.world_laws.proofs.laws.handles_are_kept.Goals as goal

pub returns : goal.returns
returns c = handles_are_kept c.one_message.ensures c.written_is_stub.ensures
