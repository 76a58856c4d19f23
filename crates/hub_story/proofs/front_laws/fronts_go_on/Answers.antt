use Rattle.hub_story.proofs.PrefixLemmas.{front_on}
use Rattle.hub_story.proofs.front_laws.fronts_go_on.Goals as goal

pub returns : goal.returns
returns g = λ boot s g front later story starts. front_on boot g front starts.0 later starts.1 (story.sound g).legal
