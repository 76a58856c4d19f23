-- A program's connection, the connection of the world that it is, and what happens on one connection alone.
use Rattle.std.specs.Prelude.{◌≡◌, ℕ, Bool, true, false, Ok, List}
use Rattle.handle_model.specs.declared.entry.Entry.{Entry}
use Rattle.ndr_value.specs.Values.{Msg}
use Rattle.ndr_table.specs.Tables.{TableForm}
use Rattle.conn_histories.specs.Histories.Event.{Came}
use Rattle.client_core.specs.States.{ClientState, at_start, is_bound, is_calling}
use Rattle.client_core.specs.Calls.{Binds, Calls, Cancels, IsMessage}
use Rattle.world_laws.specs.Ends.{CallerEnd, Line}
use Rattle.world_laws.specs.Serving.{ServerDoes, ServerGoesOn}
use Rattle.world_laws.specs.Calling.{HearsOctets, IfBroken, LosesLine}
use Rattle.world_laws.specs.Leading.{MayStart, AreOnWay}
use Rattle.world_laws.specs.Worlds.{Moves, opened, starting, cancelling}
use Rattle.world_server.specs.Servers.{ServerView, IsWhole}
use Rattle.world_ends.specs.Callers.{IsCaller}
use Rattle.world_ends.specs.Servings.{IsServing}
use Rattle.call_world.specs.declared.line.Line.{Line as Wire}

pub record IsLine (t : Wire) (l : Line) : Type 0 where
  pub name : t.name ≡ l.name
  pub caller : IsCaller t.caller l.caller
  pub up : t.up.items ≡ l.up
  pub serves : IsServing t.serving l
  pub standing : t.standing ≡ l.standing

-- a connection whose bind is on the way
pub record IsOpened (table : TableForm) (c group : ℕ) (t : Wire) : Type 0 where
  pub octets : List ℕ
  pub state : ClientState
  pub binds : Binds (at_start table) group (Ok octets) state
  pub is : IsLine t (opened table c group octets state)

-- ---- what happens on it

pub record StartsOn (table : TableForm) (op : ℕ) (m : Msg) (l n : Line) : Type 0 where
  pub bound : is_bound l.caller.state ≡ true
  pub free : is_calling l.caller.state ≡ false
  pub message : IsMessage l.caller.state.interface op m
  pub octets : List ℕ
  pub state : ClientState
  pub calls : Calls l.caller.state op m (Ok octets) state
  pub after : n ≡ starting table l op m octets state

pub record CallsOffOn (table : TableForm) (l n : Line) : Type 0 where
  pub out : is_calling l.caller.state ≡ true
  pub octets : List ℕ
  pub state : ClientState
  pub cancels : Cancels l.caller.state (Ok octets) state
  pub after : n ≡ cancelling table l octets state

pub record ArrivesOn (tables : List TableForm) (count : ℕ) (l : Line) (past : List Entry) (n : Line) (new : List Entry) : Type 0 where
  pub front : List ℕ
  pub left : List ℕ
  pub way : Moves count l.up front left
  pub came : Line
  pub then_ : List Entry
  pub comes : ServerDoes tables (record l { up = left }) past (Came front) came then_
  pub goes_on : ServerGoesOn tables came then_ n new

pub record ComesOn (count : ℕ) (l : Line) (past : List Entry) (n : Line) (new : List Entry) : Type 0 where
  pub front : List ℕ
  pub left : List ℕ
  pub way : Moves count l.down front left
  pub caller : CallerEnd
  pub broken : Bool
  pub hears : HearsOctets l.caller front caller broken
  pub is_line : IfBroken broken (LosesLine (record l { caller = caller; down = left }) past n new) ((n ≡ record l { caller = caller; down = left }) × (new ≡ past))

-- ---- its condition

abbrev pub MayStartOn : ℕ → Msg → Line → Type 0
MayStartOn op m l = MayStart l op m

abbrev pub MayCallOffOn : Line → Type 0
MayCallOffOn l = is_calling l.caller.state ≡ true

abbrev pub MayArriveOn : ℕ → Line → Type 0
MayArriveOn count l = AreOnWay count l.up

abbrev pub MayComeOn : ℕ → Line → Type 0
MayComeOn count l = AreOnWay count l.down

-- ---- whether it can happen: it happened, or its condition doesn't hold

abbrev pub Happens : (Line → Line → Type 0) → Wire → Wire → Type 0
Happens Does s t = (l : Line) → IsLine s l → (n : Line) × Does l n × IsLine t n

abbrev pub Fails : (Line → Type 0) → Wire → Type 0
Fails May s = (l : Line) → IsLine s l → May l → ⊥

abbrev pub Tries : (Line → Type 0) → (Line → Line → Type 0) → Bool → Wire → Wire → Type 0
Tries May Does true s t = Happens Does s t
Tries May Does false s t = Fails May s

-- the same where the journal goes on
abbrev pub HappensWith : (Line → List Entry → Line → List Entry → Type 0) → ServerView → Wire → ServerView → Wire → Type 0
HappensWith Does x s y t =
    IsWhole y × (y.tables ≡ x.tables) × ((l : Line) → IsLine s l → (n : Line) × Does l x.past n y.past × IsLine t n)

abbrev pub TriesWith : (Line → Type 0) → (Line → List Entry → Line → List Entry → Type 0) → Bool → ServerView → Wire → ServerView → Wire → Type 0
TriesWith May Does true x s y t = HappensWith Does x s y t
TriesWith May Does false x s y t = Fails May s
