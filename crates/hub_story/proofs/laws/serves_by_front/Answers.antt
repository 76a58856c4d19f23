use Rattle.hub_story.proofs.StillLemmas.{serves_by_front}
use Rattle.hub_story.proofs.laws.serves_by_front.Goals as goal

pub returns : goal.returns
returns g = serves_by_front
