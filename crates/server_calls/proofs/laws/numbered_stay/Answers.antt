use Rattle.server_calls.proofs.Cookies.{numbered_stay}
use Rattle.server_calls.proofs.laws.numbered_stay.Goals as goal

pub returns : goal.returns
returns c = numbered_stay
