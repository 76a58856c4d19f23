use Rattle.manager_api.proofs.Places.{at_place}
use Rattle.epm_manager.proofs.request_values.value_at.Goals as goal

pub returns : goal.returns
returns c = at_place c.args.values.now c.args.at c.item_at.result c.item_at.ensures
