-- What happens on a connection of a script: each event of its history, with what that is to its group and what is
-- printed.
use Rattle.std.specs.Prelude.{◌≡◌, ◌≢◌, ℕ, Bool, true, false, not, ◌||◌, Option, Some, None, List, [], ◌∷◌, ◌++◌, ◌⊎◌}
use Rattle.rpc_base.specs.declared.identifiers.Status.{Status}
use Rattle.handle_model.specs.declared.entry.Slot.{Slot}
use Rattle.handle_model.specs.declared.entry.Entry.TheVariants.{Leave}
use Rattle.handle_model.specs.declared.reply.Reply.{Reply}
use Rattle.handle_model.specs.declared.reply.Reply.TheVariants.{Never}
use Rattle.handle_model.specs.Journal.{waits, runs}
use Rattle.handle_model.specs.Limits.{accept_limit}
use Rattle.handle_model.specs.Replies.{replies}
use Rattle.pdu_stream.specs.declared.joined.Joined.{Joined}
use Rattle.conn_asks.specs.declared.events.Act.{Act}
use Rattle.conn_asks.specs.declared.events.Act.TheVariants as acts
use Rattle.conn_asks.specs.States.{ConnState}
use Rattle.conn_histories.specs.Histories.{Decision, Event, Happens, put}
use Rattle.conn_histories.specs.Histories.Event.{Came, Paused, Did, Decided}
use Rattle.conn_histories.specs.Histories.Decision.{ToGroup, RefuseGroup, Reply as Answer}
use Rattle.conn_histories.specs.Requests.{HasSlots, IsRefused, no_memory}
use Rattle.conn_histories.specs.declared.turn.Request.{Request}
use Rattle.conn_histories.specs.declared.turn.Deed.TheVariants as deeds
use Rattle.conn_histories.specs.Entries.{asked_as}
use Rattle.conn_histories.specs.Events.{word_of, has_run}
use Rattle.replay_world.specs.declared.peer.Member.{Member}
use Rattle.replay_world.specs.declared.peer.Unanswered.{Unanswered}
use Rattle.replay_world.specs.declared.peer.Unanswered.TheVariants.{Nothing, Bind, Refused, Call}
use Rattle.replay_world.specs.declared.peer.Standing.{Standing}
use Rattle.replay_world.specs.declared.peer.Standing.TheVariants.{Open, Closed}
use Rattle.replay_world.specs.Services.{Service}
use Rattle.replay_world.specs.Worlds.{Peer, Printed, World, peer_at, with_peer, journal, printing}
use Rattle.replay_world.specs.Printing.{ArePrinted}
use Rattle.replay_world.specs.Groups.{bind_refusal, group_for, joined, member_for, AcceptsIn, CancelsIn, OrphansIn, CancelsMarked, SettlesIn}

-- WHEN THE SERVER'S WORD IS DUE

-- a call is over once it neither waits nor runs
abbrev pub is_over : {S : Type 0} → World S → Member → ℕ → Bool
is_over w m k = not (waits (journal w m.group) k || runs (journal w m.group) k)

abbrev pub is_call_over : {S : Type 0} → World S → Option Member → ℕ → Bool
is_call_over w None k = false
is_call_over w (Some m) k = is_over w m k

-- A bind and a request that is refused are answered at once, and a call once it is over.
abbrev pub is_word_due : {S : Type 0} → World S → Option Member → Unanswered → Bool
is_word_due w member Nothing = false
is_word_due w member (Bind asked) = true
is_word_due w member (Refused status) = true
is_word_due w member (Call k) = is_call_over w member k

-- PEERS

abbrev pub awaiting : Peer → Unanswered → Peer
awaiting p what = record p { unanswered = what }

abbrev pub closed : Peer → Peer
closed p = record p { unanswered = Nothing; standing = Closed }

-- the connection became a member of its group
abbrev pub bound : Peer → Member → Peer
bound p m = record p { member = Some m; unanswered = Nothing }

-- P of the connection's group and number there, and of its call
abbrev pub OfMember : Option Member → (Member → Type 0) → Type 0
OfMember None P = ⊥
OfMember (Some m) P = P m

abbrev pub OfCall : Option Member → Unanswered → (ℕ → ℕ → Type 0) → Type 0
OfCall (Some m) (Call k) P = P m.group k
OfCall _ _ P = ⊥

-- the connection is of no group yet, or it leaves its group
abbrev pub LeavesIts : (service : Service) → Option Member → World service.State → World service.State → Type 0
LeavesIts service None w v = v ≡ w
LeavesIts service (Some m) w v = SettlesIn service w m.group (Leave m.number) v

-- A REQUEST

-- a request of an interface, to which nothing has come yet
abbrev pub request : Joined → ℕ → Request
request j iface = record { joined = j; iface = iface; offs = []; deed = deeds.Pending; answer = None }

module _ (service : Service) where
  -- It is refused with that status: there is no such operation, its octets are no stub, or the group takes no further
  -- call. In a replay there is memory.
  pub record RefusesRequest (w : World service.State) (m : Member) (j : Joined) (iface : ℕ) (status : Status) : Type 0 where
    pub cause : IsRefused service.tables iface j.op j.order j.stub (λ (slots : List Slot). accept_limit (journal w m.group) slots ≢ None) status
    pub memory : status ≢ no_memory

  -- Or it is accepted, with the slots of its message; and where it was marked to be cancelled, it is.
  pub record AcceptsRequest (w : World service.State) (m : Member) (j : Joined) (iface k : ℕ) (v : World service.State) : Type 0 where
    pub slots : List Slot
    pub has : HasSlots service.tables iface j.op j.order j.stub slots
    pub accepted : World service.State
    pub accepts : AcceptsIn w m.group (asked_as m.number (request j iface) slots) k accepted
    pub marked : CancelsMarked j.cancel accepted m.group k v

  abbrev pub Requests : World service.State → Peer → Joined → ℕ → Member → Peer → World service.State → Type 0
  Requests w p j iface m q v =
      ((status : Status) × RefusesRequest w m j iface status × (q ≡ awaiting p (Refused status)) × (v ≡ w))
      ⊎ ((k : ℕ) × AcceptsRequest w m j iface k v × (q ≡ awaiting p (Call k)))

  -- WHAT AN EVENT IS TO THE GROUP

  -- what the connection does next
  abbrev pub ActMeans : World service.State → Peer → Act → Peer → World service.State → Type 0
  ActMeans w p (acts.Answer octets) q v = (q ≡ p) × (v ≡ w)
  ActMeans w p (acts.Group asked) q v = (q ≡ awaiting p (Bind asked)) × (v ≡ w)
  ActMeans w p (acts.Call j iface) q v = OfMember p.member (λ m. Requests w p j iface m q v)
  ActMeans w p (acts.Cancel id) q v = (q ≡ p) × OfCall p.member p.unanswered (λ g k. CancelsIn w g k v)
  ActMeans w p (acts.Orphan id) q v = (q ≡ p) × OfCall p.member p.unanswered (λ g k. OrphansIn w g k v)
  ActMeans w p (acts.Close octets why) q v = (q ≡ closed p) × LeavesIts service p.member w v

  -- a reply is said to the client
  abbrev pub Says : Reply → Peer → Peer → Decision → Type 0
  Says reply p q decision = (q ≡ awaiting p Nothing) × (decision ≡ Answer (word_of reply) (has_run reply))

  -- What the server decides: a group for a bind, or why it is refused; the fault of a request that is refused; what the
  -- group's journal replies to a call that is over.
  abbrev pub Decides : World service.State → Peer → Unanswered → Decision → Peer → World service.State → Type 0
  Decides w p (Bind asked) (ToGroup group) q v =
      (bind_refusal w asked ≡ None) × (group ≡ group_for w asked) × (q ≡ bound p (member_for w asked)) × (v ≡ joined w asked)
  Decides w p (Bind asked) (RefuseGroup reason) q v = (bind_refusal w asked ≡ Some reason) × (q ≡ closed p) × (v ≡ w)
  Decides w p (Refused status) decision q v = Says (Never status) p q decision × (v ≡ w)
  Decides w p (Call k) decision q v = OfMember p.member (λ m. Says (replies (journal w m.group) k) p q decision) × (v ≡ w)
  Decides w p _ _ q v = ⊥

  -- The server's word comes where it is due, before anything else.
  abbrev pub Means : World service.State → Peer → Event → Peer → World service.State → Type 0
  Means w p (Came octets) q v = (q ≡ p) × (v ≡ w)
  Means w p Paused q v = (is_word_due w p.member p.unanswered ≡ false) × (q ≡ p) × (v ≡ w)
  Means w p (Did act) q v = (is_word_due w p.member p.unanswered ≡ false) × ActMeans w p act q v
  Means w p (Decided decision octets) q v = (is_word_due w p.member p.unanswered ≡ true) × Decides w p p.unanswered decision q v

  -- WHAT HAPPENS ON A CONNECTION

  -- with the event behind those before it
  abbrev pub lived : Peer → Event → ConnState → Peer
  lived p event state = record p { events = p.events ++ event ∷ []; state = state }

  -- An event of a connection that is there: it happens to the connection, it means something to its group, and what is
  -- answered is printed.
  pub record HappensOn (c : ℕ) (w : World service.State) (event : Event) (v : World service.State) : Type 0 where
    pub peer : Peer
    pub there : peer_at w c ≡ Some peer
    pub is_open : peer.standing ≡ Open
    pub state : ConnState
    pub happens : Happens peer.state event state
    pub after : Peer
    pub between : World service.State
    pub means : Means w peer event after between
    pub lines : List Printed
    pub printed : ArePrinted c (put (event ∷ [])) lines
    pub then_ : v ≡ printing (with_peer between (lived after event state)) lines

  -- Nothing more happens on it for now: nothing is to be done before further octets or words come, or it isn't there.
  abbrev pub RestsAt : ℕ → World service.State → Standing → World service.State → Type 0
  RestsAt c w Open v = HappensOn c w Paused v
  RestsAt c w _ v = v ≡ w

  abbrev pub Rests : ℕ → World service.State → World service.State → Type 0
  Rests c w v = (p : Peer) × (peer_at w c ≡ Some p) × RestsAt c w p.standing v

  -- Acts of the connection and words of the server, one after the other, until it rests.
  abbrev pub HappenOn : ℕ → World service.State → List Event → World service.State → Type 0
  HappenOn c w [] v = Rests c w v
  HappenOn c w (Did act ∷ more) v = (u : World service.State) × HappensOn c w (Did act) u × HappenOn c u more v
  HappenOn c w (Decided decision octets ∷ more) v = (u : World service.State) × HappensOn c w (Decided decision octets) u × HappenOn c u more v
  HappenOn c w _ v = ⊥

  abbrev pub GoesOnAt : ℕ → World service.State → World service.State → Type 0
  GoesOnAt c w v = (events : List Event) × HappenOn c w events v
