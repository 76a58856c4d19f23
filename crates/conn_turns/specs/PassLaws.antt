-- What others entered between the calls of a pass, and a connection's turns.
use Rattle.std.specs.Prelude.{◌≡◌, ℕ, Bool, List, ◌++◌}
use Rattle.handle_model.specs.declared.entry.Entry.{Entry}
use Rattle.handle_model.specs.declared.entry.Entry.TheVariants.{Join}
use Rattle.conn_histories.specs.Histories.{Event}
use Rattle.conn_histories.specs.declared.turn.Turn.{Turn}
use Rattle.conn_histories.specs.Tales.{StandAll}
use Rattle.conn_histories.specs.Stories.{Server, Story}
use Rattle.conn_turns.specs.Laws.{AreOfOthers}
use Rattle.hub_story.specs.declared.item.Item.{Item}
use Rattle.hub_story.specs.declared.item.Item.TheVariants.{Of}
use Rattle.hub_story.specs.Histories.{home_of, past_in, items_of}
use Rattle.hub_story.specs.Passes.{Seen, HasOwn}
use Rattle.hub_story.specs.Calls.{Enters}

-- a call's entries of a group stand in its journal behind all that came before
abbrev pub CallsEnter : Type 0
CallsEnter =
    (boot s g : ℕ) (v w : Seen) (between : List Item) (es : List Entry) → Enters boot s v w between (items_of g es)
    → past_in g w.log ≡ es ++ past_in g (v.log ++ between)

-- a pass that has joined the connection has turns that stand in what it saw: what others entered is not of these
abbrev pub OthersEnter : Type 0
OthersEnter =
    (boot s g c : ℕ) (gone : Bool) (v w : Seen) (between more : List Item) (turns : List Turn)
    → Enters boot s v w between more → HasOwn v (Of g (Join c)) → StandAll c gone (past_in g v.log) turns
    → AreOfOthers c turns (past_in g between)

-- they stand behind it
abbrev pub TurnsAreKept : Type 0
TurnsAreKept =
    (boot s g c : ℕ) (gone : Bool) (v w : Seen) (between more : List Item) (turns : List Turn)
    → Enters boot s v w between more → HasOwn v (Of g (Join c)) → StandAll c gone (past_in g v.log) turns
    → StandAll c gone (past_in g (v.log ++ between)) turns

-- and so does the story
abbrev pub StoriesAreKept : Server → Type 0
StoriesAreKept server =
    (boot s g c : ℕ) (gone : Bool) (v w : Seen) (between more : List Item) (turns : List Turn) (own : List Entry) (seen : List Event) (put : List ℕ)
    → Enters boot s v w between more → HasOwn v (Of g (Join c))
    → Story server (home_of boot g) c (past_in g v.log) gone turns own seen put
    → Story server (home_of boot g) c (past_in g (v.log ++ between)) gone turns own seen put
