use Rattle.hub_story.proofs.FoldLemmas.{kept_folds}
use Rattle.hub_story.proofs.laws.keeps_whole.Goals as goal

pub returns : goal.returns
returns g = kept_folds
