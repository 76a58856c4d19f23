use Rattle.client_texts.proofs.Once.{one_request}
use Rattle.client_texts.proofs.laws.one_request.Goals as goal

pub returns : goal.returns
returns c = one_request
