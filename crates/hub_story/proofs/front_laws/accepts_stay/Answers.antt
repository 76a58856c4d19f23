use Rattle.hub_story.proofs.OpenLemmas.{accepts_stay}
use Rattle.hub_story.proofs.front_laws.accepts_stay.Goals as goal

pub returns : goal.returns
returns g = accepts_stay
