-- What a connection enters into its group's journal, turn by turn. Turns, entries and what calls off are listed with the
-- newest first.
use Rattle.std.specs.Prelude.{ℕ, Bool, true, false, ◌&&◌, not, Option, Some, None, if◌then◌else◌, List, [], ◌∷◌, ◌++◌}
use Rattle.std.specs.List.{list_any, filter_map}
use Rattle.handle_model.specs.declared.entry.Slot.{Slot}
use Rattle.handle_model.specs.declared.entry.Asked.{Asked}
use Rattle.handle_model.specs.declared.entry.Entry.{Entry}
use Rattle.handle_model.specs.declared.entry.Entry.TheVariants.{Join, Accept, Take, Deny, Cancel, Orphan, End, Leave}
use Rattle.conn_histories.specs.declared.turn.Off.{Off}
use Rattle.conn_histories.specs.declared.turn.Off.TheVariants as off
use Rattle.conn_histories.specs.declared.turn.Fate.{Fate}
use Rattle.conn_histories.specs.declared.turn.Fate.TheVariants.{Waiting, Denied, Cancelled, Orphaned, LeftWaiting, Running, LeftRunning, Ended, LeftEnded}
use Rattle.conn_histories.specs.declared.turn.Deed.{Deed}
use Rattle.conn_histories.specs.declared.turn.Deed.TheVariants.{Pending, Refused, Accepted}
use Rattle.conn_histories.specs.declared.turn.Request.{Request}
use Rattle.conn_histories.specs.declared.turn.Turn.{Turn}
use Rattle.conn_histories.specs.declared.turn.Turn.TheVariants.{Bound, Called}

-- ---- what calls off

abbrev pub is_cancel : Off → Bool
is_cancel off.Cancel = true
is_cancel off.Orphan = false

abbrev pub is_orphan : Off → Bool
is_orphan off.Cancel = false
is_orphan off.Orphan = true

abbrev pub is_like : Off → Off → Bool
is_like off.Cancel o = is_cancel o
is_like off.Orphan o = is_orphan o

abbrev pub entry_off : ℕ → Off → Entry
entry_off k off.Cancel = Cancel k
entry_off k off.Orphan = Orphan k

-- of a running call the first cancel and the first orphaning are entered
abbrev pub marks : ℕ → List Off → List Entry
marks k [] = []
marks k (o ∷ offs) = if list_any (is_like o) offs then marks k offs else entry_off k o ∷ marks k offs

-- ---- a call

-- a request as it is accepted of a connection
abbrev pub asked_as : ℕ → Request → List Slot → Asked
asked_as c r slots =
    record {
      conn = c;
      iface = r.iface;
      op = r.joined.op;
      order = r.joined.order;
      reply = not r.joined.maybe;
      slots = slots;
      stub = r.joined.stub;
    }

-- a call that was taken, and called off
abbrev pub taken : ℕ → Asked → List Off → List (Option ℕ) → List Entry
taken k a offs cookies = marks k offs ++ Take k cookies ∷ Accept k a ∷ []

-- the entries of a call, and its connection's Leave where the call waited or ran then
abbrev pub fate_entries : ℕ → Asked → List Off → Fate → List Entry
fate_entries k a offs Waiting = Accept k a ∷ []
fate_entries k a offs (Denied slot) = Deny k slot ∷ Accept k a ∷ []
fate_entries k a offs Cancelled = Cancel k ∷ Accept k a ∷ []
fate_entries k a offs Orphaned = Orphan k ∷ Accept k a ∷ []
fate_entries k a offs LeftWaiting = Leave a.conn ∷ Accept k a ∷ []
fate_entries k a offs (Running cookies) = taken k a offs cookies
fate_entries k a offs (LeftRunning cookies) = Leave a.conn ∷ taken k a offs cookies
fate_entries k a offs (Ended run) = End k run.results run.said ∷ taken k a offs run.cookies
fate_entries k a offs (LeftEnded run) = End k run.results run.said ∷ Leave a.conn ∷ taken k a offs run.cookies

abbrev pub deed_entries : ℕ → Request → Deed → List Entry
deed_entries c r Pending = []
deed_entries c r (Refused status) = []
deed_entries c r (Accepted k slots fate) = fate_entries k (asked_as c r slots) r.offs fate

-- ---- a connection

abbrev pub entries_of : ℕ → Turn → List Entry
entries_of c (Bound asked group octets) = Join c ∷ []
entries_of c (Called r) = deed_entries c r r.deed
entries_of c _ = []

abbrev pub all_entries : ℕ → List Turn → List Entry
all_entries c [] = []
all_entries c (t ∷ ts) = entries_of c t ++ all_entries c ts

-- the connection left while the call waited or ran
abbrev pub has_left : Fate → Bool
has_left LeftWaiting = true
has_left (LeftRunning cookies) = true
has_left (LeftEnded run) = true
has_left _ = false

abbrev pub deed_left : Deed → Bool
deed_left (Accepted k slots fate) = has_left fate
deed_left _ = false

abbrev pub turn_left : Turn → Bool
turn_left (Called r) = deed_left r.deed
turn_left _ = false

-- the call waits or runs, and the connection is there
abbrev pub is_open : Fate → Bool
is_open Waiting = true
is_open (Running cookies) = true
is_open _ = false

abbrev pub deed_open : Deed → Bool
deed_open (Accepted k slots fate) = is_open fate
deed_open _ = false

abbrev pub turn_open : Turn → Bool
turn_open (Called r) = deed_open r.deed
turn_open _ = false

-- the call runs, and the connection is there or not
abbrev pub is_running : Fate → Bool
is_running (Running cookies) = true
is_running (LeftRunning cookies) = true
is_running _ = false

abbrev pub deed_runs : Deed → Bool
deed_runs (Accepted k slots fate) = is_running fate
deed_runs _ = false

abbrev pub turn_runs : Turn → Bool
turn_runs (Called r) = deed_runs r.deed
turn_runs _ = false

-- the Leave of a connection that is gone, unless it stands among the entries of the call that it left
abbrev pub leave_behind : ℕ → Bool → Bool → List Entry
leave_behind c gone left = if gone && not left then Leave c ∷ [] else []

-- all entries of the connection; the newest turn alone may be one that it left
abbrev pub story_entries : ℕ → Bool → List Turn → List Entry
story_entries c gone turns = leave_behind c gone (list_any turn_left turns) ++ all_entries c turns

-- ---- the numbers of its calls

abbrev pub deed_number : Deed → Option ℕ
deed_number (Accepted k slots fate) = Some k
deed_number _ = None

abbrev pub number_of : Turn → Option ℕ
number_of (Called r) = deed_number r.deed
number_of _ = None

abbrev pub numbers_of : List Turn → List ℕ
numbers_of turns = filter_map number_of turns
