use Rattle.server_calls.proofs.Cookies.{results_suit}
use Rattle.server_calls.proofs.laws.results_suit.Goals as goal

pub returns : goal.returns
returns c = results_suit
