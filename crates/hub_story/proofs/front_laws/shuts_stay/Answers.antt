use Rattle.hub_story.proofs.OpenLemmas.{shuts_stay}
use Rattle.hub_story.proofs.front_laws.shuts_stay.Goals as goal

pub returns : goal.returns
returns g = shuts_stay
