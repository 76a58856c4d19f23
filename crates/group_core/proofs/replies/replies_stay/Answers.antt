use Rattle.group_core.proofs.Told.{replies_stay}
use Rattle.group_core.proofs.replies.replies_stay.Goals as goal

pub returns : goal.returns
returns c = replies_stay
