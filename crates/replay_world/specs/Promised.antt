-- What every replay keeps of what a server owes to its clients.
use Rattle.std.specs.Prelude.{◌≡◌, ◌≢◌, ℕ, ◌≤◌, ◌==◌, Option, Some, None, if◌then◌else◌, List, [], ◌∷◌, ◌++◌, length, ◌⊎◌}
use Rattle.handle_model.specs.declared.entry.Entry.{Entry}
use Rattle.handle_model.specs.History.{IsSound}
use Rattle.handle_model.specs.Limits.{join_limit}
use Rattle.desk_counts.specs.Numbers.{Numbers}
use Rattle.conn_asks.specs.declared.events.Ask.{Ask}
use Rattle.conn_asks.specs.Asks.{AreAsksOf}
use Rattle.conn_histories.specs.Histories.{stream, put}
use Rattle.conn_histories.specs.Plays.{negotiated_at_start}
use Rattle.conn_histories.specs.declared.turn.Turn.{Turn}
use Rattle.conn_histories.specs.Stories.{Server, AllDue, Finished}
use Rattle.conn_histories.specs.Tales.{whole}
use Rattle.conn_histories.specs.Answers.{Answers}
use Rattle.conn_histories.specs.Requests.{ids_of}
use Rattle.replay_script.specs.declared.line.Line.{Line}
use Rattle.replay_script.specs.declared.line.Line.TheVariants.{Send}
use Rattle.replay_world.specs.declared.peer.Member.{Member}
use Rattle.replay_world.specs.declared.peer.Standing.TheVariants.{Closed}
use Rattle.replay_world.specs.Services.{Service}
use Rattle.replay_world.specs.Worlds.{Peer, World, home_of, past_of, journal}
use Rattle.replay_world.specs.Printing.{answered_on}
use Rattle.replay_world.specs.Groups.{most_groups, at_limit, no_group}

-- WHY A BIND MAY BE REFUSED, where the replay ends so

-- so many groups were opened
abbrev pub WasFull : {S : Type 0} → World S → Type 0
WasFull end = most_groups ≤ length end.groups

-- at some moment the group took no further connection
pub record WasCrowded {S : Type 0} (end : World S) (group : ℕ) : Type 0 where
  pub newer : List Entry
  pub older : List Entry
  pub moment : past_of end group ≡ newer ++ older
  pub limited : join_limit (whole (home_of end group) older) ≢ None

-- Each id but 0 is that of no group before it is opened, and once it has ended.
abbrev pub MayRefuse : {S : Type 0} → World S → ℕ → ℕ → Type 0
MayRefuse end asked reason =
    ((asked ≡ 0) × (reason ≡ at_limit) × WasFull end)
    ⊎ (((asked ≢ 0) × (reason ≡ at_limit) × WasCrowded end asked) ⊎ ((asked ≢ 0) × (reason ≡ no_group)))

-- WHAT WAS SENT

abbrev pub sent_in : ℕ → Line → List ℕ
sent_in c (Send d octets) = if d == c then octets else []
sent_in c _ = []

-- the octets that the lines send on a connection
abbrev pub sent_to : ℕ → List Line → List ℕ
sent_to c [] = []
sent_to c (line ∷ more) = sent_in c line ++ sent_to c more

module _ (service : Service) where
  -- The replay as a server: what its desks may answer, in some state and after so many calls and packets; and why it may
  -- refuse a bind.
  abbrev pub as_server : World service.State → Server
  as_server end =
      record {
        tables = service.tables;
        may = λ call told answer. (before after : service.State) × (numbers : Numbers) × service.may before numbers call told answer after;
        naks = MayRefuse end;
      }

  -- What a connection was asked was answered by these turns: by the final journal of its group, which is legal and settled
  -- and in which its entries are made; or where it joined none by that of no group.
  abbrev pub IsAnsweredIn : World service.State → Peer → List Ask → List Turn → Option Member → Type 0
  IsAnsweredIn end p asked turns None =
      AllDue (as_server end) (home_of end 0) 0 [] turns
      × Answers (home_of end 0) [] (negotiated_at_start (ids_of service.tables)) asked turns (put p.events)
  IsAnsweredIn end p asked turns (Some m) =
      IsSound (journal end m.group)
      × ((own : List Entry) × Finished (as_server end) (home_of end m.group) m.number (past_of end m.group) turns own)
      × Answers (home_of end m.group) (past_of end m.group) (negotiated_at_start (ids_of service.tables)) asked turns (put p.events)

  -- What was printed for a connection are the answers to what its octets ask: those that the lines sent, but for those that
  -- came once the server had closed it.
  pub record IsServed (lines : List Line) (end : World service.State) (p : Peer) : Type 0 where
    pub late : List ℕ
    pub came : sent_to p.name lines ≡ stream p.events ++ late
    pub in_time : p.standing ≢ Closed → late ≡ []
    pub asked : List Ask
    pub asks : AreAsksOf (stream p.events) asked
    pub turns : List Turn
    pub answered : IsAnsweredIn end p asked turns p.member
    pub printed : answered_on p.name end.out ≡ put p.events
