use Rattle.std.proofs.Common.{◌≡◌, ◌++◌, drop}
use Rattle.journal_text.specs.Histories.{journals_text}
use Rattle.replay_groups.proofs.texts.log_all.Given as goal

-- with the texts of the groups that are left it is the whole text
abbrev pub invariant-loop-group : goal.invariant-loop-group
invariant-loop-group l = l.into.items ++ journals_text (drop l.group-index l.groups) ≡ l.initial.into.items ++ journals_text l.groups
