use Rattle.pdu_codec.proofs.AnswerLaws.{one_fault, no_fault}
use Rattle.pdu_codec.proofs.laws.one_answer.Goals as goal

pub returns-clause-fault : goal.returns-clause-fault
returns-clause-fault c = one_fault

pub returns-clause-pdu : goal.returns-clause-pdu
returns-clause-pdu c = no_fault
