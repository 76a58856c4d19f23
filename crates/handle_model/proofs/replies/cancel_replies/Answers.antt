use Rattle.handle_model.proofs.ReplyStays.{cancelled_reply}
use Rattle.handle_model.proofs.replies.cancel_replies.Goals as goal

pub returns : goal.returns
returns c = λ j k l w. cancelled_reply j k l.1 w
