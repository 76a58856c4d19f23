use Rattle.mpx_histories.proofs.Coming.{all_has_come}
use Rattle.mpx_histories.proofs.laws.all_has_come.Goals as goal

pub returns : goal.returns
returns c = all_has_come
