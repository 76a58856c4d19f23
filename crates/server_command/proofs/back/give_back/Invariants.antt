use Rattle.std.proofs.Common.{◌≡◌, ◌++◌, length}
use Rattle.std.specs.Vec.Iter.{into_iter_items, into_iter_len}
use Rattle.server_command.specs.Doors.{links_in, IsAtLeast, TakesBack}
use Rattle.server_command.proofs.back.give_back.Given as goal

abbrev pub invariant-loop-settled : goal.invariant-loop-settled
invariant-loop-settled g l = (l.yielded ++ into_iter_items l.settled-iterator ≡ into_iter_items l.initial.settled-iterator)
    × TakesBack (g.D.Door.shows l.initial.door) (links_in l.yielded) (g.D.Door.shows l.door)
    × IsAtLeast (length (into_iter_items l.settled-iterator)) (g.D.Door.shows l.door).out
    × (into_iter_len l.settled-iterator ≡ length (into_iter_items l.settled-iterator))
