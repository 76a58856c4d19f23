use Rattle.hub_story.proofs.StillLemmas.{still_has}
use Rattle.hub_story.proofs.laws.still_has_all.Goals as goal

pub returns : goal.returns
returns g = λ boot s v w between more within e. still_has boot s v w between more e within
