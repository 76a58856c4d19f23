use Rattle.ndr_model.proofs.Stubs.{values_stand}
use Rattle.ndr_model.proofs.laws.read_values_stand.Goals as goal

pub returns : goal.returns
returns c = values_stand
