use Rattle.client_texts.proofs.Once.{one_answer}
use Rattle.client_texts.proofs.laws.one_answer.Goals as goal

pub returns : goal.returns
returns c = λ known wires vs s t few r q. one_answer known wires few vs s t r q
