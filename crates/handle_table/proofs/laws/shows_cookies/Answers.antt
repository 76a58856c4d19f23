use Rattle.handle_table.proofs.Named.{cookies_shown}
use Rattle.handle_table.proofs.laws.shows_cookies.Goals as goal

pub returns : goal.returns
returns c = cookies_shown
