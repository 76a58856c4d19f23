use Rattle.group_core.proofs.Told.{drops_reply}
use Rattle.group_core.proofs.replies.drops_reply.Goals as goal

pub returns : goal.returns
returns c = drops_reply
