-- A connection's story in a longer journal.
use Rattle.std.specs.Prelude.{ℕ, Bool, List, ◌++◌}
use Rattle.handle_model.specs.declared.entry.Home.{Home}
use Rattle.handle_model.specs.declared.entry.Entry.{Entry}
use Rattle.handle_model.specs.Journal.{Legal}
use Rattle.conn_histories.specs.Histories.{Event}
use Rattle.conn_histories.specs.declared.turn.Turn.{Turn}
use Rattle.conn_histories.specs.Tales.{whole}
use Rattle.conn_histories.specs.Stories.{Server, AllDue, Finished, Story}
use Rattle.conn_turns.specs.Laws.{AreOfOthers}

-- each turn is due then too, whoever entered what is newer
abbrev pub DuesStay : Server → Type 0
DuesStay server =
    (home : Home) (c : ℕ) (newer past : List Entry) (turns : List Turn) → AllDue server home c past turns → AllDue server home c (newer ++ past) turns

-- the story stays behind what others entered, in a legal journal
abbrev pub StoriesStay : Server → Type 0
StoriesStay server =
    (home : Home) (c : ℕ) (gone : Bool) (newer past : List Entry) (turns : List Turn) (own : List Entry) (seen : List Event) (put : List ℕ)
    → Legal (whole home (newer ++ past)) → AreOfOthers c turns newer → Story server home c past gone turns own seen put
    → Story server home c (newer ++ past) gone turns own seen put

-- and so does that of a connection that is over
abbrev pub FinishedStay : Server → Type 0
FinishedStay server =
    (home : Home) (c : ℕ) (newer past : List Entry) (turns : List Turn) (own : List Entry)
    → Legal (whole home (newer ++ past)) → AreOfOthers c turns newer → Finished server home c past turns own
    → Finished server home c (newer ++ past) turns own
