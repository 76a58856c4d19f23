use Rattle.hub_story.proofs.PrefixLemmas.{kept_on}
use Rattle.hub_story.proofs.front_laws.kept_goes_on.Goals as goal

pub returns : goal.returns
returns g = kept_on
