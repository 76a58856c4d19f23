use Rattle.mpx_histories.proofs.Tracing.{few_stay_unanswered}
use Rattle.mpx_histories.proofs.laws.few_stay_unanswered.Goals as goal

pub returns : goal.returns
returns c = few_stay_unanswered
