use Rattle.replay_events.proofs.Totals.{totals_stay}
use Rattle.replay_events.proofs.laws.totals_stay.Goals as goal

pub returns : goal.returns
returns c = totals_stay
