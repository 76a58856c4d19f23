use Rattle.echo_manager.proofs.Anew.{at_nth}
use Rattle.echo_manager.proofs.walk.value_at.Goals as goal

pub returns : goal.returns
returns c = at_nth c.args.values.now c.args.index c.item_at.result c.item_at.ensures
