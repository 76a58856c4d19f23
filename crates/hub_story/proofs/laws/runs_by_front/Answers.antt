use Rattle.hub_story.proofs.StillLemmas.{runs_by_front}
use Rattle.hub_story.proofs.laws.runs_by_front.Goals as goal

pub returns : goal.returns
returns g = runs_by_front
