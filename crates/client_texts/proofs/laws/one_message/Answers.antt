use Rattle.client_texts.proofs.Once.{one_message}
use Rattle.client_texts.proofs.laws.one_message.Goals as goal

pub returns : goal.returns
returns c = one_message
