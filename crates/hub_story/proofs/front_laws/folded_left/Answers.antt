use Rattle.hub_story.proofs.OpenLemmas.{folded_left}
use Rattle.hub_story.proofs.front_laws.folded_left.Goals as goal

pub returns : goal.returns
returns g = folded_left
