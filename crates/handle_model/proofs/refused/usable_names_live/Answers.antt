use Rattle.handle_model.proofs.Usable.{usable_named, named_usable}
use Rattle.handle_model.proofs.refused.usable_names_live.Goals as goal

pub returns : goal.returns
returns c = λ j s. (usable_named j s, named_usable j s)
