use Rattle.cases_journal.proofs.groups.calls.make.Given as goal

abbrev pub ghosts-cancel : goal.ghosts-cancel
ghosts-cancel a = record { name = a.blank.name; parts = a.blank.parts }
