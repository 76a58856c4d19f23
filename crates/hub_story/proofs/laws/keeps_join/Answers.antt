use Rattle.hub_story.specs.Histories.{past_in, home_of}
use Rattle.hub_story.proofs.FoldLemmas.{kept_join}
use Rattle.hub_story.proofs.laws.keeps_join.Goals as goal

pub returns : goal.returns
returns g = λ boot s h log story opened. kept_join (home_of boot h) (past_in h log) (story.joined h opened)
