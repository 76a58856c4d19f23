use Rattle.hub_story.proofs.OpenLemmas.{folded_ended}
use Rattle.hub_story.proofs.front_laws.folded_ended.Goals as goal

pub returns : goal.returns
returns g = folded_ended
