use Rattle.handle_model.proofs.ReplyStays.{ended_reply}
use Rattle.handle_model.proofs.replies.end_replies.Goals as goal

pub returns : goal.returns
returns c = ended_reply
