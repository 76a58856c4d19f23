use Rattle.hub_story.proofs.OpenLemmas.{joins_stay}
use Rattle.hub_story.proofs.front_laws.joins_stay.Goals as goal

pub returns : goal.returns
returns g = joins_stay
