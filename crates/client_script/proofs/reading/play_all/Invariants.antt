use Rattle.std.specs.Prelude.{length}
use Rattle.ndr_table.specs.Shown.{shown}
use Rattle.client_script.proofs.ReadLemmas.{IsRead}
use Rattle.client_script.proofs.reading.play_all.Given as goal

abbrev pub invariant-loop-rest : goal.invariant-loop-rest
invariant-loop-rest g l = IsRead g.Q.Link.Link.shows (shown l.table) l.at l.text (g.Q.Dial.shows l.initial.dial) l.rest l.number l.player (g.Q.Dial.shows l.dial)

abbrev pub decreases-loop-rest : goal.decreases-loop-rest
decreases-loop-rest g l = length l.rest
