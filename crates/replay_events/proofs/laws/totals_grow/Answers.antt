use Rattle.replay_events.proofs.Totals.{totals_grow}
use Rattle.replay_events.proofs.laws.totals_grow.Goals as goal

pub returns : goal.returns
returns c = totals_grow
