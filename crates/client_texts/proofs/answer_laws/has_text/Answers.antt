use Rattle.client_texts.proofs.Texts.{has_text}
use Rattle.client_texts.proofs.answer_laws.has_text.Goals as goal

pub returns : goal.returns
returns c = has_text
