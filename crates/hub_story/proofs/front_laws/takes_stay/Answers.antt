use Rattle.hub_story.proofs.OpenLemmas.{takes_stay}
use Rattle.hub_story.proofs.front_laws.takes_stay.Goals as goal

pub returns : goal.returns
returns g = takes_stay
