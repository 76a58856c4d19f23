use Rattle.desk_locks.proofs.Tellings.{each_stands_once}
use Rattle.desk_locks.proofs.laws.each_stands_once.Goals as goal

pub returns : goal.returns
returns c = each_stands_once
