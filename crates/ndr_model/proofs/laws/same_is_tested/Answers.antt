use Rattle.ndr_model.proofs.Alike.{same_is, same_of}
use Rattle.ndr_model.proofs.laws.same_is_tested.Goals as goal

pub returns : goal.returns
returns c = λ s t. (same_is s t, same_of s t)
