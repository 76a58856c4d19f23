use Rattle.hub_story.proofs.PrefixLemmas.{fronts_are}
use Rattle.hub_story.proofs.front_laws.fronts_compare.Goals as goal

pub returns : goal.returns
returns g = fronts_are
