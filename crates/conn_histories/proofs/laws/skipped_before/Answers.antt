use Rattle.conn_histories.proofs.More.{skipped_before}
use Rattle.conn_histories.proofs.laws.skipped_before.Goals as goal

pub returns : goal.returns
returns c = skipped_before
