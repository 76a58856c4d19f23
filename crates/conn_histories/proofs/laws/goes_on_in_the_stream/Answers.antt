use Rattle.conn_histories.proofs.Comes.{goes_on}
use Rattle.conn_histories.proofs.laws.goes_on_in_the_stream.Goals as goal

pub returns : goal.returns
returns c = goes_on
