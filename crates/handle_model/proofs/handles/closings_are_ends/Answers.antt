use Rattle.handle_model.proofs.ClosingEnds.{closings_are_ends}
use Rattle.handle_model.proofs.handles.closings_are_ends.Goals as goal

pub returns : goal.returns
returns c = closings_are_ends
