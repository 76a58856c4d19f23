use Rattle.client_texts.proofs.AnswerLines.{one_line}
use Rattle.client_texts.proofs.answer_laws.one_line.Goals as goal

pub returns : goal.returns
returns c = one_line
