use Rattle.desk_locks.proofs.Tellings.{chains_gain}
use Rattle.desk_locks.proofs.laws.chains_gain.Goals as goal

pub returns : goal.returns
returns c = chains_gain
