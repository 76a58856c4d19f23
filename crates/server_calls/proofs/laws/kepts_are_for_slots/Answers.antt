use Rattle.server_calls.proofs.Cookies.{kepts_are_for_slots}
use Rattle.server_calls.proofs.laws.kepts_are_for_slots.Goals as goal

pub returns : goal.returns
returns c = kepts_are_for_slots
