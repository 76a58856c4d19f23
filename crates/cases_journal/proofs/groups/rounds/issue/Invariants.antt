use Rattle.std.proofs.Common.{◌≡◌, true}
use Rattle.handle_model.specs.Journal.{is_open}
use Rattle.cases_journal.proofs.groups.rounds.issue.Given as goal

abbrev pub invariant-loop-before : goal.invariant-loop-before
invariant-loop-before l = is_open l.group 1 ≡ true
