use Rattle.handle_model.proofs.ReplyStays.{left_reply}
use Rattle.handle_model.proofs.replies.leave_replies.Goals as goal

pub returns : goal.returns
returns c = λ j c k a l e q n. left_reply j c k a e q n
