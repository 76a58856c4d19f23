use Rattle.group_core.proofs.Told.{denies_reply}
use Rattle.group_core.proofs.replies.denies_reply.Goals as goal

pub returns : goal.returns
returns c = denies_reply
