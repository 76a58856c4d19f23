use Rattle.conn_turns.proofs.Answering.{stories_answer}
use Rattle.conn_turns.proofs.answer_laws.stories_answer.Goals as goal

pub returns : goal.returns
returns c = stories_answer
