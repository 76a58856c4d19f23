use Rattle.hub_story.proofs.OpenLemmas.{calls_stay}
use Rattle.hub_story.proofs.front_laws.calls_stay.Goals as goal

pub returns : goal.returns
returns g = calls_stay
