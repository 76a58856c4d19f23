use Rattle.call_table.proofs.table.CallTable.end.Given as goal

abbrev pub ghosts-end_alone : goal.ghosts-end_alone
ghosts-end_alone a = record { name = a.blank.name; parts = a.blank.parts }
