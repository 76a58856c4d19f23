use Rattle.std.proofs.Common.{◌≡◌, ◌++◌, drop}
use Rattle.journal_text.specs.Texts.{entries_text}
use Rattle.journal_text.proofs.line.put_entries.Given as goal

-- with the texts of the entries that are left it is the whole text
abbrev pub invariant-loop-entry : goal.invariant-loop-entry
invariant-loop-entry l = l.into.items ++ entries_text (drop l.entry-index l.entries) ≡ l.initial.into.items ++ entries_text l.entries
