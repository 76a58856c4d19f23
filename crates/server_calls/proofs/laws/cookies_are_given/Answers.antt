use Rattle.server_calls.proofs.Cookies.{cookies_are_given}
use Rattle.server_calls.proofs.laws.cookies_are_given.Goals as goal

pub returns : goal.returns
returns c = cookies_are_given
