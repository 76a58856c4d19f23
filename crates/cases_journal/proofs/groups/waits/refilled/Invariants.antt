use Rattle.cases_journal.proofs.groups.waits.refilled.Given as goal

abbrev pub ghosts-take_first : goal.ghosts-take_first
ghosts-take_first a = record { name = a.blank.name; parts = a.blank.parts }
