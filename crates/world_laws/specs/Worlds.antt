-- A caller, a server and the connections between them, and what each move does, from the empty world.
use Rattle.std.specs.Prelude.{◌≡◌, ◌≢◌, ℕ, ◌≤◌, Bool, true, false, Option, Some, Ok, List, [], ◌∷◌, ◌++◌, length, slice_get, slice_set, take}
use Rattle.handle_model.specs.declared.entry.Asked.{Asked}
use Rattle.handle_model.specs.declared.entry.Outcome.{Outcome}
use Rattle.handle_model.specs.declared.entry.Said.TheVariants.{Out}
use Rattle.handle_model.specs.declared.entry.Entry.{Entry}
use Rattle.handle_model.specs.declared.entry.Entry.TheVariants.{End}
use Rattle.handle_model.specs.Journal as journals
use Rattle.pdu_stream.specs.Fragments.{most_stub}
use Rattle.ndr_value.specs.Values.{Msg}
use Rattle.ndr_table.specs.Tables.{TableForm}
use Rattle.ndr_model.specs.declared.way.Way.TheVariants.{Response}
use Rattle.ndr_model.specs.Written.{stub}
use Rattle.manager_api.specs.declared.answer.Kept.{Kept}
use Rattle.manager_api.specs.Answers.Ans.{AOut}
use Rattle.manager_api.specs.Calls.{Owes}
use Rattle.group_core.specs.declared.answer.Taking.TheVariants as taking
use Rattle.group_core.specs.Calls.{Takes}
use Rattle.conn_histories.specs.Histories.Event.{Came}
use Rattle.conn_histories.specs.Requests.{IsAsked}
use Rattle.conn_histories.specs.Ends.{outcomes_of, with_wires, wires_at}
use Rattle.client_core.specs.States.{ClientState, at_start, is_bound, is_calling}
use Rattle.client_core.specs.Calls.{Binds, Calls, Cancels, IsMessage}
use Rattle.client_core.specs.Histories.ClientEvent.{DidBind, DidCall, DidCancel}
use Rattle.world_laws.specs.Moves.{Move}
use Rattle.world_laws.specs.Moves.{Move as moves}
use Rattle.world_laws.specs.Journals.{home, journal, Enters}
use Rattle.world_laws.specs.Ends.{CallerEnd, Line, new_row, new_server}
use Rattle.world_laws.specs.Ends.Waiting.{Call}
use Rattle.world_laws.specs.Serving.{ServerDoes, ServerGoesOn}
use Rattle.world_laws.specs.Calling.{HearsOctets, IfBroken, LosesLine}

-- A call that was started: its connection's place among the connections, and its own among those of the connection.
pub record Started : Type 0 where
  pub line : ℕ
  pub place : ℕ

-- The connections, in the order in which they were opened; the journal of the server's group, the newest entry first; and the
-- calls, in the order in which they were started.
pub record World : Type 0 where
  pub lines : List Line
  pub past : List Entry
  pub starts : List Started

abbrev pub empty : World
empty = record { lines = []; past = []; starts = [] }

-- ---- connections

-- P of the connection of that name, with its place, which stands
abbrev pub OfLine : World → ℕ → (ℕ → Line → Type 0) → Type 0
OfLine w c P = (i : ℕ) × (l : Line) × (slice_get w.lines i ≡ Some l) × (l.name ≡ c) × (l.standing ≡ true) × P i l

abbrev pub with_line : World → ℕ → Line → List Entry → World
with_line w i l past = record w { lines = slice_set w.lines i l; past = past }

abbrev pub IsNew : World → ℕ → Type 0
IsNew w c = (i : ℕ) (l : Line) → slice_get w.lines i ≡ Some l → l.name ≢ c

-- the first connection asks for a new group, and each other one for the first group
abbrev pub group_wanted : List Line → ℕ
group_wanted [] = 0
group_wanted (l ∷ lines) = 1

-- octets move from a way's front
abbrev pub Moves : ℕ → List ℕ → List ℕ → List ℕ → Type 0
Moves n way front left = (way ≡ front ++ left) × (length front ≡ n) × (1 ≤ n)

abbrev pub entered : World → List Entry → World
entered w past = record w { past = past }

-- ---- losses

-- where no connection stands
abbrev pub NoneStands : World → Type 0
NoneStands w = (i : ℕ) (l : Line) → slice_get w.lines i ≡ Some l → l.standing ≡ true → ⊥

-- the connection has the least name of those that stand
abbrev pub IsLeast : World → ℕ → Type 0
IsLeast w c = (i : ℕ) (l : Line) → slice_get w.lines i ≡ Some l → l.standing ≡ true → c ≤ l.name

abbrev pub LosesAt : World → ℕ → World → Type 0
LosesAt w c v = OfLine w c (λ i l. (m : Line) × (past : List Entry) × LosesLine l w.past m past × (v ≡ with_line w i m past))

-- Connections that stand are lost, by rising name, until none stands.
abbrev pub LosesAll : World → List ℕ → World → Type 0
LosesAll w [] v = (v ≡ w) × NoneStands w
LosesAll w (c ∷ cs) v = IsLeast w c × ((u : World) × LosesAt w c u × LosesAll u cs v)

module _ (table : TableForm) where
  abbrev pub tables : List TableForm
  tables = table ∷ []

  -- ---- the caller's moves

  -- a connection whose bind is on the way
  abbrev pub opened : ℕ → ℕ → List ℕ → ClientState → Line
  opened c group octets state = record {
    name = c;
    caller = record { events = DidBind group octets ∷ []; state = state; rest = []; rows = [] };
    up = octets;
    down = [];
    server = new_server (table.id ∷ []);
    standing = true;
  }

  pub record Opens (w : World) (c group : ℕ) (v : World) : Type 0 where
    pub fresh : IsNew w c
    pub wanted : group ≡ group_wanted w.lines
    pub octets : List ℕ
    pub state : ClientState
    pub binds : Binds (at_start table) group (Ok octets) state
    pub after : v ≡ record w { lines = w.lines ++ opened c group octets state ∷ [] }

  -- a call is started, and its request is on the way
  abbrev pub starting : Line → ℕ → Msg → List ℕ → ClientState → Line
  starting l op m octets state =
      record l {
        caller = record l.caller { events = l.caller.events ++ DidCall op m octets ∷ []; state = state; rows = l.caller.rows ++ new_row op m ∷ [] };
        up = l.up ++ octets;
      }

  pub record Starts (w : World) (op : ℕ) (m : Msg) (i : ℕ) (l : Line) (v : World) : Type 0 where
    pub bound : is_bound l.caller.state ≡ true
    pub free : is_calling l.caller.state ≡ false
    pub message : IsMessage l.caller.state.interface op m
    pub octets : List ℕ
    pub state : ClientState
    pub calls : Calls l.caller.state op m (Ok octets) state
    pub after : v ≡ record (with_line w i (starting l op m octets state) w.past) { starts = w.starts ++ record { line = i; place = length l.caller.rows } ∷ [] }

  abbrev pub cancelling : Line → List ℕ → ClientState → Line
  cancelling l octets state =
      record l { caller = record l.caller { events = l.caller.events ++ DidCancel octets ∷ []; state = state }; up = l.up ++ octets }

  pub record CallsOff (w : World) (i : ℕ) (l : Line) (v : World) : Type 0 where
    pub out : is_calling l.caller.state ≡ true
    pub octets : List ℕ
    pub state : ClientState
    pub cancels : Cancels l.caller.state (Ok octets) state
    pub after : v ≡ with_line w i (cancelling l octets state) w.past

  -- ---- octets arrive

  -- at the server, which does what they ask up to a call that has to wait
  pub record Arrives (w : World) (n i : ℕ) (l : Line) (v : World) : Type 0 where
    pub front : List ℕ
    pub left : List ℕ
    pub way : Moves n l.up front left
    pub came : Line
    pub then_ : List Entry
    pub comes : ServerDoes tables (record l { up = left }) w.past (Came front) came then_
    pub line : Line
    pub past : List Entry
    pub goes_on : ServerGoesOn tables came then_ line past
    pub after : v ≡ with_line w i line past

  -- at the caller, to whom the connection is lost where they break the protocol
  pub record Comes (w : World) (n i : ℕ) (l : Line) (v : World) : Type 0 where
    pub front : List ℕ
    pub left : List ℕ
    pub way : Moves n l.down front left
    pub caller : CallerEnd
    pub broken : Bool
    pub hears : HearsOctets l.caller front caller broken
    pub line : Line
    pub past : List Entry
    pub is_line : IfBroken broken (LosesLine (record l { caller = caller; down = left }) w.past line past) ((line ≡ record l { caller = caller; down = left }) × (past ≡ w.past))
    pub after : v ≡ with_line w i line past

  -- ---- the server's moves

  -- The connection on which the call waits for its answer, where it stands, goes on: with the answer, and what waited behind it.
  pub data GoesOnFor (k : ℕ) (w v : World) : Type 0 where
    answered : (i : ℕ) (l m : Line) (past : List Entry) → slice_get w.lines i ≡ Some l → l.standing ≡ true → l.server.waiting ≡ Call k
        → ServerGoesOn tables l w.past m past → v ≡ with_line w i m past → GoesOnFor k w v
    unheard : ((i : ℕ) (l : Line) → slice_get w.lines i ≡ Some l → l.standing ≡ true → l.server.waiting ≢ Call k) → v ≡ w → GoesOnFor k w v

  -- a call that waits is taken, or it is denied
  pub data Tries (w : World) (k : ℕ) (v : World) : Type 0 where
    taken : (row : List (Option ℕ)) (serial : ℕ) (past : List Entry) → Takes (journal w.past) k (taking.Run row serial) (journal past) → v ≡ entered w past → Tries w k v
    denied : (slot : ℕ) (past : List Entry) → Takes (journal w.past) k (taking.Denied slot) (journal past) → GoesOnFor k (entered w past) v → Tries w k v

  -- A call that runs ends with this: the handles become what is said of each, and their wires stand in the message that goes out.
  pub record Ends (past : List Entry) (k : ℕ) (kepts : List Kept) (m : Msg) (new : List Entry) : Type 0 where
    pub runs : journals.runs (journal past) k ≡ true
    pub asked : Asked
    pub asks : journals.asked (journal past) k ≡ Some asked
    pub message : Msg
    pub is : IsAsked tables asked.iface asked.op asked.order asked.stub message
    pub owes : Owes table asked.op message (AOut m kepts)
    pub results : List Outcome
    pub results_are : results ≡ outcomes_of asked.slots kepts
    pub octets : List ℕ
    pub octets_are : octets ≡ stub table.types is.operation Response asked.order (Some message) (with_wires m (wires_at home asked.slots results))
    pub short : length octets ≤ most_stub
    pub enters : Enters past (End k results (Out octets)) new

  abbrev pub Finishes : World → ℕ → List Kept → Msg → World → Type 0
  Finishes w k kepts m v = (past : List Entry) × Ends w.past k kepts m past × GoesOnFor k (entered w past) v

  -- ---- moves

  abbrev pub Plays : World → Move → World → Type 0
  Plays w (moves.Open c group) v = Opens w c group v
  Plays w (moves.Start c op m) v = OfLine w c (λ i l. Starts w op m i l v)
  Plays w (moves.ToServer c n) v = OfLine w c (λ i l. Arrives w n i l v)
  Plays w (moves.ToCaller c n) v = OfLine w c (λ i l. Comes w n i l v)
  Plays w (moves.Cancel c) v = OfLine w c (λ i l. CallsOff w i l v)
  Plays w (moves.Lose c) v = LosesAt w c v
  Plays w moves.Restart v = (names : List ℕ) × LosesAll w names v
  Plays w (moves.Take k) v = Tries w k v
  Plays w (moves.Finish k kepts m) v = Finishes w k kepts m v

  abbrev pub PlaysAll : World → List Move → World → Type 0
  PlaysAll w [] v = v ≡ w
  PlaysAll w (m ∷ more) v = (u : World) × Plays w m u × PlaysAll u more v

  -- from the empty world
  abbrev pub Played : List Move → World → Type 0
  Played played w = PlaysAll empty played w

  -- all moves before are played, and that one can't be
  pub record StopsAt (played : List Move) (i : ℕ) : Type 0 where
    pub before : World
    pub plays : Played (take i played) before
    pub move : Move
    pub there : slice_get played i ≡ Some move
    pub not_now : (v : World) → Plays before move v → ⊥
