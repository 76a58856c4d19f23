use Rattle.group_core.proofs.Told.{leaves_reply}
use Rattle.group_core.proofs.replies.leaves_reply.Goals as goal

pub returns : goal.returns
returns c = leaves_reply
