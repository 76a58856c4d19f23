use Rattle.std.proofs.Common.{◌++◌, ◌∙◌}
use Rattle.std.proofs.lemmas.List.{append_assoc}
use Rattle.hub_story.proofs.PrefixLemmas.{front_on}
use Rattle.hub_story.proofs.front_laws.calls_go_on.Goals as goal

pub returns : goal.returns
returns g = λ boot s g v w between more enters. front_on boot g v.log (between ++ more) w.log (enters.log ∙ append_assoc v.log between more) (enters.story.sound g).legal
