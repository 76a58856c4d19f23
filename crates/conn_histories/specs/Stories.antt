-- A connection's story in the journal of its group: what each turn has for its reason, and what the connection entered.
use Rattle.std.specs.Prelude.{◌≡◌, ◌≢◌, ℕ, ◌==◌, Bool, true, false, not, None, if◌then◌else◌, List, [], ◌∷◌, ◌++◌, filter, ⊤}
use Rattle.std.specs.List.{list_any}
use Rattle.handle_model.specs.declared.entry.Home.{Home}
use Rattle.handle_model.specs.declared.entry.Slot.{Slot}
use Rattle.handle_model.specs.declared.entry.Asked.{Asked}
use Rattle.handle_model.specs.declared.entry.Entry.{Entry}
use Rattle.handle_model.specs.declared.entry.Entry.TheVariants.{Join, End, Leave, Shut}
use Rattle.handle_model.specs.Entries.{is_shut}
use Rattle.handle_model.specs.Journal.{due}
use Rattle.handle_model.specs.Limits.{accept_limit}
use Rattle.ndr_table.specs.Tables.{TableForm}
use Rattle.manager_api.specs.Answers.{Ans}
use Rattle.manager_api.specs.Calls.{Call}
use Rattle.conn_histories.specs.Histories.{Event}
use Rattle.conn_histories.specs.Requests.{HasSlots, IsRefused}
use Rattle.conn_histories.specs.Ends.{Meets}
use Rattle.conn_histories.specs.declared.turn.Off.{Off}
use Rattle.conn_histories.specs.declared.turn.Off.TheVariants as off
use Rattle.conn_histories.specs.declared.turn.Run.{Run}
use Rattle.conn_histories.specs.declared.turn.Fate.{Fate}
use Rattle.conn_histories.specs.declared.turn.Fate.TheVariants.{Waiting, Denied, Cancelled, Orphaned, LeftWaiting, Ended, LeftEnded}
use Rattle.conn_histories.specs.declared.turn.Deed.{Deed}
use Rattle.conn_histories.specs.declared.turn.Deed.TheVariants.{Pending, Refused, Accepted}
use Rattle.conn_histories.specs.declared.turn.Request.{Request}
use Rattle.conn_histories.specs.declared.turn.Turn.{Turn}
use Rattle.conn_histories.specs.declared.turn.Turn.TheVariants.{Bound, NotBound, Called}
use Rattle.conn_histories.specs.Entries.{is_cancel, asked_as, turn_runs, leave_behind, story_entries, numbers_of}
use Rattle.conn_histories.specs.Events.{all_events, all_octets}
use Rattle.conn_histories.specs.Tales.{whole, of_conn, StandAll}

-- Which calls off a call has had, by its fate, where its request was marked to be cancelled or not. A marked call is
-- cancelled behind its Accept, and another one where it waits and a cancel comes.
abbrev pub HasOffs : Bool → List Off → Fate → Type 0
HasOffs marked offs Waiting = offs ≡ []
HasOffs marked offs Cancelled = offs ≡ (if marked then [] else off.Cancel ∷ [])
HasOffs marked offs Orphaned = (marked ≡ false) × (offs ≡ off.Orphan ∷ [])
HasOffs marked offs (Denied slot) = (marked ≡ false) × (offs ≡ [])
HasOffs marked offs LeftWaiting = (marked ≡ false) × (offs ≡ [])
HasOffs marked offs _ = marked ≡ false

-- The id of the group: the one that was asked for; and where a new one was, the connection is its first.
pub record IsItsGroup (asked group c : ℕ) : Type 0 where
  pub known : asked ≢ 0 → group ≡ asked
  pub new : asked ≡ 0 → c ≡ 1

-- the connection's Leave, or the End of one of its calls: what may make the group's Shut due
abbrev pub may_shut : ℕ → List ℕ → Entry → Bool
may_shut c calls (Leave d) = d == c
may_shut c calls (End k results said) = list_any (λ n. k == n) calls
may_shut c calls _ = false

-- no entry of the connection made a Shut due: neither the newest one, nor the one that the group's Shut stands behind
abbrev pub MadeNoneDue : Home → ℕ → List ℕ → List Entry → Type 0
MadeNoneDue home c calls [] = ⊤
MadeNoneDue home c calls (Shut items ∷ []) = ⊤
MadeNoneDue home c calls (Shut items ∷ e ∷ older) = may_shut c calls e ≡ false
MadeNoneDue home c calls (e ∷ older) = may_shut c calls e ≡ true → due (whole home (e ∷ older)) ≡ false

-- A Shut is the connection's own exactly where its newest other entry made it due: it stands behind that one.
abbrev pub HasOwnShut : Home → ℕ → List ℕ → List Entry → List Entry → Type 0
HasOwnShut home c calls past (Shut items ∷ e ∷ own) = (list_any is_shut (e ∷ own) ≡ false) × ((older : List Entry) × (past ≡ Shut items ∷ e ∷ older))
HasOwnShut home c calls past own = (list_any is_shut own ≡ false) × MadeNoneDue home c calls past

-- A server: the interfaces that it serves, by number; what their managers may answer; and for which reasons it may refuse
-- a bind to the group of an id.
pub record Server : Type 1 where
  pub tables : List TableForm
  pub may : Call → Bool → Ans → Type 0
  pub naks : ℕ → ℕ → Type 0

module _ (server : Server) (home : Home) (c : ℕ) (past : List Entry) where
  -- the group took no call with these slots when the connection had just these turns behind it
  pub record WasFull (turns : List Turn) (slots : List Slot) : Type 0 where
    pub newer : List Entry
    pub older : List Entry
    pub moment : past ≡ newer ++ older
    pub before : StandAll c false older turns
    pub there : filter (of_conn c) older ≡ Join c ∷ []
    pub limited : accept_limit (whole home older) slots ≢ None

  -- the end of a call meets its manager's relation
  abbrev pub EndMeets : Asked → List Off → Run → Type 0
  EndMeets a offs run = Meets home server.tables server.may a run.cookies (list_any is_cancel offs) run.results run.said

  abbrev pub FateIsDue : Asked → List Off → Fate → Type 0
  FateIsDue a offs (Ended run) = EndMeets a offs run
  FateIsDue a offs (LeftEnded run) = EndMeets a offs run
  FateIsDue a offs _ = ⊤

  -- Why a request came to that, behind other turns: it was refused; or it was accepted with the slots of its message, and
  -- its end meets the manager's relation.
  abbrev pub DeedIsDue : List Turn → Request → Deed → Type 0
  DeedIsDue turns r Pending = r.offs ≡ []
  DeedIsDue turns r (Refused status) =
      (r.offs ≡ []) × IsRefused server.tables r.iface r.joined.op r.joined.order r.joined.stub (WasFull turns) status
  DeedIsDue turns r (Accepted k slots fate) =
      HasSlots server.tables r.iface r.joined.op r.joined.order r.joined.stub slots
      × HasOffs r.joined.cancel r.offs fate × FateIsDue (asked_as c r slots) r.offs fate

  abbrev pub IsDue : List Turn → Turn → Type 0
  IsDue turns (Bound asked group octets) = (group ≡ home.group) × IsItsGroup asked group c
  IsDue turns (NotBound asked reason octets) = server.naks asked reason
  IsDue turns (Called r) = DeedIsDue turns r r.deed
  IsDue turns _ = ⊤

  -- each turn behind those before it
  abbrev pub AllDue : List Turn → Type 0
  AllDue [] = ⊤
  AllDue (t ∷ ts) = IsDue ts t × AllDue ts

  -- The connection's entries are these, each once: its Join, what each of its calls came to, and its Leave where it is
  -- gone. Each turn has its reason, and the journal says nothing else of the connection and its calls.
  pub record Made (gone : Bool) (turns : List Turn) (own : List Entry) : Type 0 where
    pub entries : filter (λ e. not (is_shut e)) own ≡ story_entries c gone turns
    pub shut : HasOwnShut home c (numbers_of turns) past own
    pub due : AllDue turns
    pub stand : StandAll c gone past turns
    pub conns : filter (of_conn c) past ≡ leave_behind c gone false ++ Join c ∷ []

  -- The same of a connection that is over: it is gone, and no call of it waits or runs.
  pub record Finished (turns : List Turn) (own : List Entry) : Type 0 where
    pub made : Made true turns own
    pub none_runs : list_any turn_runs turns ≡ false

  -- what was done and answered so far, too
  pub record Story (gone : Bool) (turns : List Turn) (own : List Entry) (seen : List Event) (put : List ℕ) : Type 0 where
    pub made : Made gone turns own
    pub events : seen ≡ all_events turns
    pub octets : put ≡ all_octets turns
