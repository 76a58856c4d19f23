use Rattle.group_core.proofs.Told.{cancels_reply}
use Rattle.group_core.proofs.replies.cancels_reply.Goals as goal

pub returns : goal.returns
returns c = cancels_reply
