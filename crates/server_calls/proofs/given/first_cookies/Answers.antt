use Rattle.server_calls.proofs.Cookies.{first_cookies}
use Rattle.server_calls.proofs.given.first_cookies.Goals as goal

pub returns : goal.returns
returns c = λ cookies e f. first_cookies cookies c.args.row.now c.args.count c.requires e f
