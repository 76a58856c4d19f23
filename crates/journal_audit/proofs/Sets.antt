use Rattle.std.proofs.lemmas.Grind.{common_steps}
use Rattle.journal_audit.proofs.Orders.{at_number}

-- one number more
pub ruleset adding = (at_number, common_steps)
