use Rattle.value_text.proofs.Shallow.{fuel_suffices}
use Rattle.value_text.proofs.laws.fuel_suffices.Goals as goal

pub returns : goal.returns
returns c = fuel_suffices
