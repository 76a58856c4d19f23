use Rattle.journal_audit.proofs.Departures.{one_departure}
use Rattle.journal_audit.proofs.text_laws.one_departure.Goals as goal

pub returns : goal.returns
returns c = one_departure
