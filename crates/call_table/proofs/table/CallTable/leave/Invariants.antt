use Rattle.call_table.proofs.table.CallTable.leave.Given as goal

abbrev pub ghosts-leave_all : goal.ghosts-leave_all
ghosts-leave_all a = record { name = a.blank.name; parts = a.blank.parts }
