-- That what a connection came to holds by each longer journal of its group, and by what was kept of it; and what stands behind limits.
use Rattle.std.specs.Prelude.{◌≡◌, ◌≢◌, ℕ, ◌<◌, ◌≤◌, Bool, true, false, None, List, [], ◌∷◌, ◌++◌, filter}
use Rattle.std.specs.List.{list_any}
use Rattle.turn_lock.specs.Histories.{StartsWith}
use Rattle.rpc_base.specs.declared.identifiers.SyntaxId.{SyntaxId}
use Rattle.rpc_outside.specs.Links.{Shown}
use Rattle.handle_model.specs.declared.entry.Home.{Home}
use Rattle.handle_model.specs.declared.entry.Entry.{Entry}
use Rattle.handle_model.specs.declared.entry.Entry.TheVariants.{Join, Leave}
use Rattle.handle_model.specs.History.{History}
use Rattle.handle_model.specs.Journal.{Legal, joins, join_count}
use Rattle.handle_model.specs.Limits.{join_limit}
use Rattle.journal_tables.specs.FoldOf.{IsFoldOf}
use Rattle.ndr_table.specs.Tables.{TableForm}
use Rattle.manager_api.specs.Answers.{Ans}
use Rattle.manager_api.specs.Calls.{Call}
use Rattle.hub_story.specs.declared.item.Item.{Item}
use Rattle.hub_story.specs.Directories.{id_of, is_opened_id}
use Rattle.hub_story.specs.Histories.{marks_in, past_in, journal_in, IsStory}
use Rattle.group_hub.specs.declared.pass.Pass.{Pass}
use Rattle.group_hub.specs.Shards.{shard_of}
use Rattle.group_hub.specs.Passes.{at_shard}
use Rattle.server_ends.specs.Joins.{NoRoom}
use Rattle.conn_histories.specs.declared.turn.Turn.{Turn}
use Rattle.conn_histories.specs.Entries.{turn_runs}
use Rattle.conn_histories.specs.Tales.{whole, of_conn, StandAll}
use Rattle.conn_turns.specs.Laws.{AreOfOthers}
use Rattle.server_ends.specs.declared.ended.Ending.{Ending}
use Rattle.server_ends.specs.declared.ended.Finished.{Finished}
use Rattle.server_ends.specs.Endings.{AreAnswers}
use Rattle.server_ends.specs.Finishes.{AsMember}
use Rattle.server_command.specs.Holds.{HoldsBy, TellsOfTurns}

-- ---- longer journals

-- in a legal journal all that comes behind a connection that is over is of others
abbrev pub OthersFollow : Type 0
OthersFollow =
    (home : Home) (c : ℕ) (newer past : List Entry) (turns : List Turn) → Legal (whole home (newer ++ past)) → StandAll c true past turns
    → filter (of_conn c) past ≡ Leave c ∷ Join c ∷ [] → list_any turn_runs turns ≡ false → AreOfOthers c turns newer

-- answers by a journal are so by one in which others entered what is newer
abbrev pub AnswersStay : Type 0
AnswersStay =
    (ids : List SyntaxId) (home : Home) (c : ℕ) (gone : Bool) (newer past : List Entry) (turns : List Turn) (why : Ending) (came put : List ℕ)
    → AreOfOthers c turns newer → StandAll c gone past turns → AreAnswers ids home past turns why came put
    → AreAnswers ids home (newer ++ past) turns why came put

-- what a connection came to in its group holds by each journal of the group that goes on from the one that its pass had seen at its end
abbrev pub MembersLast : {K : Type 0} → (K → Shown) → (Call → Bool → Ans → Type 0) → List TableForm → Type 0
MembersLast {K} shows may tables =
    (boot : ℕ) (p : Pass) (a : Shown) (g c : ℕ) (r : Finished K) (log : List Item) → AsMember shows may tables boot p a g c r
    → StartsWith log (at_shard r.pass (shard_of g)).log → IsStory boot (shard_of g) log
    → HoldsBy shows may tables boot (past_in g log) p a g c r

-- ---- folds

-- a fold of a legal journal in which the connection's Join still stands tells of a connection that is over what its turns say
abbrev pub FoldsTell : Type 0
FoldsTell =
    (x : History) (home : Home) (c : ℕ) (past : List Entry) (turns : List Turn) → Legal (whole home past) → IsFoldOf x (whole home past)
    → list_any (joins c) x.past ≡ true → StandAll c true past turns → filter (of_conn c) past ≡ Leave c ∷ Join c ∷ [] → TellsOfTurns x c turns

-- ---- limits

-- where a shard had no room for a further group, its first 64 ids were opened, and stay so
abbrev pub RoomIsTaken : Type 0
RoomIsTaken =
    (boot s n : ℕ) (moment log : List Item) → s < 16 → n < 64 → IsStory boot s log → StartsWith log moment → NoRoom s moment
    → is_opened_id (marks_in log) (id_of s n) ≡ true

-- where a group took no further connection, at least 64 had joined it
abbrev pub JoinsAreTaken : Type 0
JoinsAreTaken =
    (boot g : ℕ) (moment log : List Item) → StartsWith log moment → join_limit (journal_in boot g moment) ≢ None
    → 64 ≤ join_count (journal_in boot g log)
