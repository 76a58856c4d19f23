use Rattle.group_core.proofs.Told.{ends_reply}
use Rattle.group_core.proofs.replies.ends_reply.Goals as goal

pub returns : goal.returns
returns c = ends_reply
