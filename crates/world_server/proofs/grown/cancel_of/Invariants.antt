use Rattle.world_server.proofs.grown.cancel_of.Given as goal

abbrev pub ghosts-cancel_counted : goal.ghosts-cancel_counted
ghosts-cancel_counted a = record { name = a.blank.name; parts = a.blank.parts }
