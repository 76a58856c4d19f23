-- Up to where a journal may be folded, by its tables.
use Rattle.std.specs.Prelude.{ℕ, Option, Some, None, List, map}
use Rattle.handle_model.specs.Journal.{least, lesser}
use Rattle.call_table.specs.Rows.{running_places}
use Rattle.journal_tables.specs.declared.conns.OpenConn.{OpenConn}
use Rattle.journal_tables.specs.Tables.{Tables}

-- where the Joins of the open connections stand
abbrev pub open_places : List OpenConn → List ℕ
open_places conns = map (λ (o : OpenConn). o.place) conns

abbrev pub lesser_of : Option ℕ → Option ℕ → Option ℕ
lesser_of None b = b
lesser_of (Some n) b = lesser n b

-- the least of these and of the places of the Accepts of the running calls
abbrev pub floor_of : Tables → Option ℕ
floor_of t = lesser_of (least (open_places t.conns)) (least (running_places t.rows))
