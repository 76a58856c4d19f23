use Rattle.replay_events.proofs.Totals.{totals_open}
use Rattle.replay_events.proofs.laws.totals_open.Goals as goal

pub returns : goal.returns
returns c = totals_open
