use Rattle.hub_story.proofs.FrontOwn.{own_stays}
use Rattle.hub_story.proofs.front_laws.own_stays.Goals as goal

pub returns : goal.returns
returns g = own_stays
