use Rattle.client_texts.proofs.Texts.{has_line}
use Rattle.client_texts.proofs.answer_laws.has_line.Goals as goal

pub returns : goal.returns
returns c = has_line
