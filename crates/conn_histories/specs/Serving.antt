-- What a server over a connection rests on: what may come next, what is put, and how histories and asks go on.
use Rattle.std.specs.Prelude.{◌≡◌, ◌≢◌, ℕ, ◌≤◌, Bool, Option, Some, Ok, List, [], ◌∷◌, ◌++◌, ◌⊎◌}
use Rattle.rpc_base.specs.declared.identifiers.SyntaxId.{SyntaxId}
use Rattle.pdu_codec.specs.Constants.{least_fragment}
use Rattle.pdu_codec.specs.Pdus.{pdu_octets}
use Rattle.handle_model.specs.declared.entry.Said.{Said}
use Rattle.conn_asks.specs.declared.events.Caller.{Caller}
use Rattle.conn_asks.specs.declared.events.ConnFault.{ConnFault}
use Rattle.conn_asks.specs.declared.events.Ask.{Ask}
use Rattle.conn_asks.specs.declared.events.Ask.TheVariants.{Broken}
use Rattle.conn_asks.specs.declared.events.Act.{Act}
use Rattle.conn_asks.specs.declared.events.Act.TheVariants.{Cancel, Orphan, Close}
use Rattle.conn_asks.specs.declared.events.Waits.TheVariants.{Nothing, Call}
use Rattle.conn_asks.specs.Asks.{AreAsksOf}
use Rattle.conn_asks.specs.Answers.{closing, FitsStub, Replies}
use Rattle.conn_asks.specs.States.{ConnState, at_start, IsCalling, Goes, WaitsBehind}
use Rattle.conn_histories.specs.Histories.{Event, AnswersDecision, Happens, Lives, stream, decisions, seen, put}
use Rattle.conn_histories.specs.Histories.Event.{Did}
use Rattle.conn_histories.specs.Histories.Decision.{Reply}

-- ---- what may come next

-- the act calls off the call with that id
abbrev pub IsCallOff : ℕ → Act → Type 0
IsCallOff id act = (act ≡ Cancel id) ⊎ (act ≡ Orphan id)

-- While a call is unanswered the next act calls it off, and it stays unanswered.
abbrev pub CallsStayUnanswered : Type 0
CallsStayUnanswered =
    (ids : List SyntaxId) (events : List Event) (m n : ConnState) (act : Act) (c : Caller) (maybe : Bool)
    → Lives (at_start ids) events m → m.waits ≡ Call c maybe → Goes m (Ok (Some act)) n → IsCallOff c.call_id act × (n.waits ≡ Call c maybe)

-- While nothing is waited for the next act is another, and it says what is waited for then.
abbrev pub OthersWhileFree : Type 0
OthersWhileFree =
    (m n : ConnState) (act : Act) → m.waits ≡ Nothing → Goes m (Ok (Some act)) n
    → ((id : ℕ) → (act ≢ Cancel id) × (act ≢ Orphan id)) × WaitsBehind act n.waits

-- ---- histories

-- A history goes on with another.
abbrev pub HistoriesGoOn : Type 0
HistoriesGoOn = (m n k : ConnState) (a b : List Event) → Lives m a n → Lives n b k → Lives m (a ++ b) k

-- One event more happens at the end.
abbrev pub OneEventMore : Type 0
OneEventMore = (m n k : ConnState) (events : List Event) (event : Event) → Lives m events n → Happens n event k → Lives m (events ++ event ∷ []) k

-- What came, what was seen, decided and put in one history and then in another.
pub record IsInBoth (a b : List Event) : Type 0 where
  pub came : stream (a ++ b) ≡ stream a ++ stream b
  pub decided : decisions (a ++ b) ≡ decisions a ++ decisions b
  pub saw : seen (a ++ b) ≡ seen a ++ seen b
  pub puts : put (a ++ b) ≡ put a ++ put b

-- What is put is put where acts and decisions are seen.
abbrev pub PutInOrder : Type 0
PutInOrder = (a b : List Event) → IsInBoth a b × (put (seen a) ≡ put a)

-- ---- asks

-- A close by a fault is the last that is asked, and it is put so.
abbrev pub CloseIsLast : Type 0
CloseIsLast =
    (ids : List SyntaxId) (before later : List Event) (m : ConnState) (asked : List Ask) (octets : List ℕ) (f : ConnFault)
    → Lives (at_start ids) (before ++ Did (Close octets f) ∷ later) m → AreAsksOf (stream (before ++ Did (Close octets f) ∷ later)) asked
    → (early : List Ask) × (c : Caller) × (asked ≡ early ++ Broken c f ∷ []) × (octets ≡ pdu_octets (closing c f))

-- What a longer stream asks goes on from what its front asks.
abbrev pub AsksGoOn : Type 0
AsksGoOn = (front more : List ℕ) (a b : List Ask) → AreAsksOf front a → AreAsksOf (front ++ more) b → (later : List Ask) × (b ≡ a ++ later)

-- Whatever a call's end says within the limit of a stub, there are octets for it.
abbrev pub EachReply : Type 0
EachReply =
    (c : Caller) (most : ℕ) (maybe executed : Bool) (said : Option Said) → least_fragment ≤ most → FitsStub said
    → (octets : List ℕ) × Replies c most maybe executed said octets

-- While a call is unanswered, whatever its end says within that limit is answered.
abbrev pub EachCallAnswered : Type 0
EachCallAnswered =
    (ids : List SyntaxId) (events : List Event) (m : ConnState) (said : Option Said) (executed : Bool) → Lives (at_start ids) events m → IsCalling m.waits → FitsStub said
    → (octets : List ℕ) × (n : ConnState) × AnswersDecision m (Reply said executed) octets n
