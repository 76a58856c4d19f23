use Rattle.handle_model.proofs.Reversed.{list_any-reverse, reverse-cons}
use Rattle.cases_journal.proofs.Since.{any_since-reverse}

pub ruleset reversed = (list_any-reverse, reverse-cons, any_since-reverse)
