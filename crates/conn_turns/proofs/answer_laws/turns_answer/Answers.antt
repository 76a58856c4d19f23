use Rattle.conn_turns.proofs.Answering.{turns_answer}
use Rattle.conn_turns.proofs.answer_laws.turns_answer.Goals as goal

pub returns : goal.returns
returns c = turns_answer
