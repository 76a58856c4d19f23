use Rattle.hub_story.proofs.AskedLemmas.{running_since}
use Rattle.hub_story.proofs.laws.runs_as_asked.Goals as goal

pub returns : goal.returns
returns g = running_since
