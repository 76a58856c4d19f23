use Rattle.handle_model.proofs.ReplyStays.{denied_reply}
use Rattle.handle_model.proofs.replies.deny_replies.Goals as goal

pub returns : goal.returns
returns c = λ j k place l. denied_reply j k place
