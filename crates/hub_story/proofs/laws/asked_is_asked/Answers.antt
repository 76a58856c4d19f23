use Rattle.hub_story.proofs.AskedLemmas.{told_since}
use Rattle.hub_story.proofs.laws.asked_is_asked.Goals as goal

pub returns : goal.returns
returns g = told_since
