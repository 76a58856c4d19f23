use Rattle.idl_laws.proofs.Once.{departs_once}
use Rattle.idl_laws.proofs.texts_depart_once.Goals as goal

pub returns : goal.returns
returns c = departs_once
