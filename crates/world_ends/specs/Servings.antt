-- A server's end of a program, and the server's end of the world that it is.
use Rattle.std.specs.Prelude.{◌≡◌, ℕ, Bool, true, false, Option, Some, None, Result, Ok, Err, List, [], ◌∷◌, ◌++◌}
use Rattle.handle_model.specs.declared.entry.Entry.{Entry}
use Rattle.ndr_table.specs.Tables.{TableForm}
use Rattle.conn_asks.specs.declared.events.Act.{Act}
use Rattle.conn_asks.specs.States.{ConnState}
use Rattle.conn_core.specs.Fields.{IsAt}
use Rattle.conn_histories.specs.Histories.{Decision, Event, Happens, put}
use Rattle.conn_histories.specs.Histories.Event.{Came, Paused, Did, Decided}
use Rattle.world_laws.specs.Ends.{Waiting, ServerEnd, Line}
use Rattle.world_laws.specs.Ends.Waiting.{Nothing, Bind, Refused, Call}
use Rattle.world_laws.specs.Serving.{ServerDoes, ServerGoesOn, ActMeans, Decides, is_word_due}
use Rattle.world_laws.specs.Journals.{bind_refusal, next_conn, joined, Leaves}
use Rattle.world_server.specs.Servers.{ServerView, IsWhole, Goes}
use Rattle.world_ends.specs.declared.serving.Serving.{Serving}
use Rattle.world_ends.specs.declared.serving.Waiting.{Waiting as Waits}
use Rattle.world_ends.specs.declared.serving.Waiting.TheVariants as waits

abbrev pub waiting_of : Waits → Waiting
waiting_of waits.Nothing = Nothing
waiting_of (waits.Bind asked) = Bind asked
waiting_of (waits.Refused status) = Refused status
waiting_of (waits.Call k) = Call k

-- its place in the group, what waits, and the numbers of its calls
pub record HasPlace (s : Serving) (e : ServerEnd) : Type 0 where
  pub member_is : s.member ≡ e.member
  pub waiting_is : waiting_of s.waiting ≡ e.waiting
  pub numbers_are : s.numbers.items ≡ e.numbers

-- The connection is in its state and has its place, and these octets are on the way to the caller.
pub record IsServing (s : Serving) (l : Line) : Type 0 where
  pub at : IsAt s.conn l.server.state
  pub place : HasPlace s l.server
  pub down_is : s.down.items ≡ l.down

-- the connection with one event more, before that means anything to the group
abbrev pub living : Line → Event → ConnState → Line
living l event state =
    record l { server = record l.server { events = l.server.events ++ event ∷ []; state = state }; down = l.down ++ put (event ∷ []) }

-- it happens to the connection
pub record Lives (event : Event) (t : Serving) (l : Line) : Type 0 where
  pub state : ConnState
  pub happens : Happens l.server.state event state
  pub serves : IsServing t (living l event state)

abbrev pub Comes : List ℕ → Serving → Serving → Type 0
Comes octets s t = (l : Line) → IsServing s l → Lives (Came octets) t l

-- the next act, or none for now
abbrev pub event_of : Option Act → Event
event_of None = Paused
event_of (Some act) = Did act

-- The server decides so, and its word is put. Nothing waits then, and this is the connection's number in the group.
pub record PutsSo (decision : Decision) (member : Option ℕ) (s t : Serving) (l : Line) : Type 0 where
  pub octets : List ℕ
  pub state : ConnState
  pub happens : Happens l.server.state (Decided decision octets) state
  pub at : IsAt t.conn state
  pub down_is : t.down.items ≡ s.down.items ++ octets
  pub member_is : t.member ≡ member
  pub waiting_is : waiting_of t.waiting ≡ Nothing
  pub numbers_are : t.numbers ≡ s.numbers

abbrev pub Puts : Decision → Option ℕ → Serving → Serving → Type 0
Puts decision member s t = (l : Line) → IsServing s l → PutsSo decision member s t l

-- a connection that asks for the group joins it, with the next number; or it is refused for that reason
abbrev pub Joins : ℕ → Result ℕ ℕ → List Entry → List Entry → Type 0
Joins asked (Ok c) past new = (bind_refusal past asked ≡ None) × (c ≡ next_conn past) × (new ≡ joined past)
Joins asked (Err reason) past new = (bind_refusal past asked ≡ Some reason) × (new ≡ past)

-- a connection left, where it had joined
abbrev pub Left : Option ℕ → ServerView → ServerView → Type 0
Left member x y = Goes x (λ past new. Leaves member past new) y

-- what it means to the group: the connection's place changes so, and the journal goes on so
abbrev pub Means : (List Entry → ServerEnd → ServerEnd → List Entry → Type 0) → ServerView → Serving → ServerView → Serving → Type 0
Means Says x s y t =
    IsWhole y × (y.tables ≡ x.tables) × (t.conn ≡ s.conn) × (t.down ≡ s.down)
    × ((e : ServerEnd) → HasPlace s e → (f : ServerEnd) × Says x.past e f y.past × HasPlace t f)

-- One event of the world after the other leads there: where that leads on, this does.
abbrev pub Leads : ServerView → Serving → ServerView → Serving → Type 0
Leads x s y t =
    IsWhole y × (y.tables ≡ x.tables)
    × ((l : Line) → IsServing s l
    → (m : Line) × IsServing t m × ((n : Line) (new : List Entry) → ServerGoesOn x.tables m y.past n new → ServerGoesOn x.tables l x.past n new))

-- and then nothing is to be done for now
abbrev pub Rests : ServerView → Serving → ServerView → Serving → Type 0
Rests x s y t =
    IsWhole y × (y.tables ≡ x.tables) × ((l : Line) → IsServing s l → (m : Line) × IsServing t m × ServerGoesOn x.tables l x.past m y.past)

-- whether anything is to be done still
abbrev pub Steps : Bool → ServerView → Serving → ServerView → Serving → Type 0
Steps true x s y t = Leads x s y t
Steps false x s y t = Rests x s y t
