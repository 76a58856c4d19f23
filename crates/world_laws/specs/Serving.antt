-- What happens at the server's end of a connection: each event of its history, with what that is to the group.
use Rattle.std.specs.Prelude.{◌≡◌, ◌≢◌, ℕ, Bool, true, false, Option, Some, None, List, [], ◌∷◌, ◌++◌, ◌⊎◌}
use Rattle.rpc_base.specs.declared.identifiers.Status.{Status}
use Rattle.handle_model.specs.declared.entry.Slot.{Slot}
use Rattle.handle_model.specs.declared.entry.Entry.{Entry}
use Rattle.handle_model.specs.declared.reply.Reply.{Reply}
use Rattle.handle_model.specs.declared.reply.Reply.TheVariants.{Never}
use Rattle.handle_model.specs.Limits.{accept_limit}
use Rattle.handle_model.specs.Replies.{replies}
use Rattle.pdu_stream.specs.declared.joined.Joined.{Joined}
use Rattle.ndr_table.specs.Tables.{TableForm}
use Rattle.conn_asks.specs.declared.events.Act.{Act}
use Rattle.conn_asks.specs.declared.events.Act.TheVariants as acts
use Rattle.conn_asks.specs.States.{ConnState}
use Rattle.conn_histories.specs.Histories.{Decision, Event, Happens, put}
use Rattle.conn_histories.specs.Histories.Event.{Came, Paused, Did, Decided}
use Rattle.conn_histories.specs.Histories.Decision.{ToGroup, RefuseGroup, Reply as Answer}
use Rattle.conn_histories.specs.Requests.{HasSlots, IsRefused, no_memory}
use Rattle.conn_histories.specs.declared.turn.Request.{Request}
use Rattle.conn_histories.specs.declared.turn.Deed.TheVariants as deeds
use Rattle.conn_histories.specs.Entries.{asked_as}
use Rattle.conn_histories.specs.Events.{word_of, has_run}
use Rattle.world_laws.specs.Journals.{home, journal, bind_refusal, next_conn, joined, is_over, Leaves, IsAccepted, IsCancelled, IsOrphaned}
use Rattle.world_laws.specs.Ends.{Waiting, ServerEnd, Line}
use Rattle.world_laws.specs.Ends.Waiting.{Nothing, Bind, Refused, Call}

-- WHEN THE SERVER'S WORD IS DUE

-- A bind and a request that is refused are answered at once, and a call once it is over.
abbrev pub is_word_due : List Entry → Waiting → Bool
is_word_due past Nothing = false
is_word_due past (Bind asked) = true
is_word_due past (Refused status) = true
is_word_due past (Call k) = is_over past k

abbrev pub awaiting : ServerEnd → Waiting → ServerEnd
awaiting s what = record s { waiting = what }

-- a call came, and was accepted with a number or not
abbrev pub numbered : ServerEnd → Option ℕ → Waiting → ServerEnd
numbered s number what = record s { waiting = what; numbers = s.numbers ++ number ∷ [] }

-- P of the connection's number, and of its call
abbrev pub OfMember : Option ℕ → (ℕ → Type 0) → Type 0
OfMember None P = ⊥
OfMember (Some c) P = P c

abbrev pub OfCall : Waiting → (ℕ → Type 0) → Type 0
OfCall (Call k) P = P k
OfCall _ P = ⊥

-- A REQUEST

-- a request, to which nothing has come yet
abbrev pub request : Joined → ℕ → Request
request j iface = record { joined = j; iface = iface; offs = []; deed = deeds.Pending; answer = None }

abbrev pub CancelsMarked : Bool → List Entry → ℕ → List Entry → Type 0
CancelsMarked true past k new = IsCancelled past k new
CancelsMarked false past k new = new ≡ past

module _ (tables : List TableForm) where
  -- It is refused with that status: there is no such operation, its octets are no stub, or the group takes no further call.
  -- There is memory.
  pub record RefusesRequest (past : List Entry) (j : Joined) (iface : ℕ) (status : Status) : Type 0 where
    pub cause : IsRefused tables iface j.op j.order j.stub (λ (slots : List Slot). accept_limit (journal past) slots ≢ None) status
    pub memory : status ≢ no_memory

  -- Or it is accepted, with the slots of its message; and where it was marked to be cancelled, it is.
  pub record AcceptsRequest (past : List Entry) (c : ℕ) (j : Joined) (iface k : ℕ) (new : List Entry) : Type 0 where
    pub slots : List Slot
    pub has : HasSlots tables iface j.op j.order j.stub slots
    pub accepted : List Entry
    pub accepts : IsAccepted past (asked_as c (request j iface) slots) k accepted
    pub marked : CancelsMarked j.cancel accepted k new

  abbrev pub Requests : List Entry → ServerEnd → Joined → ℕ → ℕ → ServerEnd → List Entry → Type 0
  Requests past s j iface c t new =
      ((status : Status) × RefusesRequest past j iface status × (t ≡ numbered s None (Refused status)) × (new ≡ past))
      ⊎ ((k : ℕ) × AcceptsRequest past c j iface k new × (t ≡ numbered s (Some k) (Call k)))

  -- WHAT AN EVENT IS TO THE GROUP

  -- what the connection does next
  abbrev pub ActMeans : List Entry → ServerEnd → Act → ServerEnd → List Entry → Type 0
  ActMeans past s (acts.Answer octets) t new = (t ≡ numbered s None s.waiting) × (new ≡ past)
  ActMeans past s (acts.Group asked) t new = (t ≡ awaiting s (Bind asked)) × (new ≡ past)
  ActMeans past s (acts.Call j iface) t new = OfMember s.member (λ c. Requests past s j iface c t new)
  ActMeans past s (acts.Cancel id) t new = (t ≡ s) × OfCall s.waiting (λ k. IsCancelled past k new)
  ActMeans past s (acts.Orphan id) t new = (t ≡ s) × OfCall s.waiting (λ k. IsOrphaned past k new)
  ActMeans past s (acts.Close octets why) t new = (t ≡ record s { waiting = Nothing; member = None }) × Leaves s.member past new

  -- a reply is said to the client
  abbrev pub Says : Reply → ServerEnd → ServerEnd → Decision → Type 0
  Says reply s t decision = (t ≡ awaiting s Nothing) × (decision ≡ Answer (word_of reply) (has_run reply))

  -- What the server decides: the group for a bind, or why it is refused; the fault of a request that is refused; what the
  -- journal replies to a call that is over.
  abbrev pub Decides : List Entry → ServerEnd → Waiting → Decision → ServerEnd → List Entry → Type 0
  Decides past s (Bind asked) (ToGroup group) t new =
      (bind_refusal past asked ≡ None) × (group ≡ home.group) × (t ≡ record s { waiting = Nothing; member = Some (next_conn past) }) × (new ≡ joined past)
  Decides past s (Bind asked) (RefuseGroup reason) t new = (bind_refusal past asked ≡ Some reason) × (t ≡ awaiting s Nothing) × (new ≡ past)
  Decides past s (Refused status) decision t new = Says (Never status) s t decision × (new ≡ past)
  Decides past s (Call k) decision t new = Says (replies (journal past) k) s t decision × (new ≡ past)
  Decides past s _ _ t new = ⊥

  -- The server's word comes where it is due, before anything else.
  abbrev pub Means : List Entry → ServerEnd → Event → ServerEnd → List Entry → Type 0
  Means past s (Came octets) t new = (t ≡ s) × (new ≡ past)
  Means past s Paused t new = (is_word_due past s.waiting ≡ false) × (t ≡ s) × (new ≡ past)
  Means past s (Did act) t new = (is_word_due past s.waiting ≡ false) × ActMeans past s act t new
  Means past s (Decided decision octets) t new = (is_word_due past s.waiting ≡ true) × Decides past s s.waiting decision t new

  -- AN EVENT OF A CONNECTION

  -- It happens to the connection, it means something to the group, and what is answered is on the way to the caller.
  pub record ServerDoes (l : Line) (past : List Entry) (event : Event) (m : Line) (new : List Entry) : Type 0 where
    pub state : ConnState
    pub happens : Happens l.server.state event state
    pub after : ServerEnd
    pub means : Means past l.server event after new
    pub then_ : m ≡ record l { server = record after { events = l.server.events ++ event ∷ []; state = state }; down = l.down ++ put (event ∷ []) }

  -- Acts of the connection and words of the server, one after the other, until nothing is to be done for now.
  abbrev pub ServerGoesBy : Line → List Entry → List Event → Line → List Entry → Type 0
  ServerGoesBy l past [] m new = ServerDoes l past Paused m new
  ServerGoesBy l past (Did act ∷ more) m new =
      (between : Line) × (next : List Entry) × ServerDoes l past (Did act) between next × ServerGoesBy between next more m new
  ServerGoesBy l past (Decided decision octets ∷ more) m new =
      (between : Line) × (next : List Entry) × ServerDoes l past (Decided decision octets) between next × ServerGoesBy between next more m new
  ServerGoesBy l past _ m new = ⊥

  abbrev pub ServerGoesOn : Line → List Entry → Line → List Entry → Type 0
  ServerGoesOn l past m new = (events : List Event) × ServerGoesBy l past events m new
