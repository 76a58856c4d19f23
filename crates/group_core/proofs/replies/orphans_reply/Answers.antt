use Rattle.group_core.proofs.Told.{orphans_reply}
use Rattle.group_core.proofs.replies.orphans_reply.Goals as goal

pub returns : goal.returns
returns c = orphans_reply
