-- What happens on a connection is one thing after the other, and it leads to one world.
use Rattle.std.proofs.Common.{◌≡◌, ◌≢◌, ℕ, inl, inr, Option, Some, None, Ok, List, [], ◌∷◌, sym, ap, subst, ◌∙◌}
use Rattle.rpc_base.specs.declared.identifiers.Status.{Status}
use Rattle.handle_model.specs.declared.entry.Slot.{Slot}
use Rattle.handle_model.specs.declared.entry.Entry.TheVariants.{Leave}
use Rattle.handle_model.specs.History.{History}
use Rattle.handle_model.specs.Limits.{accept_limit}
use Rattle.handle_model.specs.Replies.{replies}
use Rattle.pdu_stream.specs.declared.joined.Joined.{Joined}
use Rattle.conn_asks.specs.declared.events.Act.{Act}
use Rattle.conn_asks.specs.declared.events.Act.TheVariants as acts
use Rattle.conn_asks.specs.States.{ConnState}
use Rattle.conn_histories.specs.Histories.{Decision, Event, Happens, put}
use Rattle.conn_histories.specs.Histories.Event.{Came, Paused, Did, Decided}
use Rattle.conn_histories.specs.Histories.Decision.{ToGroup, RefuseGroup, Reply}
use Rattle.conn_histories.proofs.OneAct.{one_act}
use Rattle.conn_histories.proofs.Decided.{one_answer}
use Rattle.conn_histories.specs.Entries.{asked_as}
use Rattle.group_core.specs.Calls.{Accepts}
use Rattle.replay_world.specs.declared.peer.Member.{Member}
use Rattle.replay_world.specs.declared.peer.Unanswered.{Unanswered}
use Rattle.replay_world.specs.declared.peer.Unanswered.TheVariants.{Nothing, Bind, Refused, Call}
use Rattle.replay_world.specs.declared.peer.Standing.{Standing}
use Rattle.replay_world.specs.declared.peer.Standing.TheVariants.{Open, Closed, Lost}
use Rattle.replay_world.specs.Services.{Service, IsDetermined}
use Rattle.replay_world.specs.Worlds.{Peer, Printed, World, peer_at, with_peer, journal, printing}
use Rattle.replay_world.specs.Printing.{ArePrinted}
use Rattle.replay_world.specs.Groups.{CancelsIn, OrphansIn, CancelsMarked}
use Rattle.replay_world.specs.Events.{is_word_due, awaiting, OfMember, OfCall, LeavesIts, request, Requests, ActMeans, Says, Decides, Means, lived, HappensOn, RestsAt, Rests, HappenOn, GoesOnAt}
use Rattle.replay_world.proofs.Basics.{some_is, true_false}
use Rattle.replay_world.proofs.Requests.{slots_alike, one_refusal, refused_full, same_limit}
use Rattle.replay_world.proofs.Groups.{one_accept, one_going, one_cancelled, one_orphaned, one_marked, one_settled}
use Rattle.replay_world.proofs.Printed.{one_printing}

-- ---- of a member, and of its call

one_member : (o : Option Member) (P Q : Member → Type 0) (R : Type 0) → ((m : Member) → P m → Q m → R) → OfMember o P → OfMember o Q → R
one_member None P Q R both h l = absurd h
one_member (Some m) P Q R both h l = both m h l

one_call : (o : Option Member) (x : Unanswered) (P Q : ℕ → ℕ → Type 0) (R : Type 0) → ((g k : ℕ) → P g k → Q g k → R) → OfCall o x P → OfCall o x Q → R
one_call None x P Q R both h l = absurd h
one_call (Some m) Nothing P Q R both h l = absurd h
one_call (Some m) (Bind asked) P Q R both h l = absurd h
one_call (Some m) (Refused status) P Q R both h l = absurd h
one_call (Some m) (Call k) P Q R both h l = both m.group k h l

abbrev refused : Peer → Status → Peer
refused p status = awaiting p (Refused status)

abbrev calling : Peer → ℕ → Peer
calling p k = awaiting p (Call k)

abbrev to_group : ℕ → Decision
to_group group = ToGroup group

abbrev refuse_group : ℕ → Decision
refuse_group reason = RefuseGroup reason

module _ (service : Service) (determined : IsDetermined service) where
  -- ---- a request

  module _ (w : World service.State) (p : Peer) (j : Joined) (iface : ℕ) (m : Member) where
    one_request : (q r : Peer) (v u : World service.State) → Requests service w p j iface m q v → Requests service w p j iface m r u → (q ≡ r) × (v ≡ u)
    one_request q r v u (inl h) (inl l) =
        let one : h.0 ≡ l.0 =
        one_refusal service.tables determined.tables iface j.op j.order j.stub (λ (slots : List Slot). accept_limit (journal w m.group) slots ≢ None)
        (λ (slots : List Slot). accept_limit (journal w m.group) slots ≢ None) h.0 l.0 h.1.cause l.1.cause h.1.memory l.1.memory in
        (h.2 ∙ ap (refused p) one ∙ sym l.2, h.3 ∙ sym l.3)
    one_request q r v u (inl h) (inr l) =
        let found = refused_full service.tables determined.tables iface j.op j.order j.stub (λ (slots : List Slot). accept_limit (journal w m.group) slots ≢ None) h.0 l.1.slots h.1.cause h.1.memory l.1.has in
        let alike = slots_alike service.tables determined.tables iface j.op j.order j.stub found.0 l.1.slots found.1 l.1.has in
        absurd (found.2 (same_limit (journal w m.group) found.0 l.1.slots alike ∙ l.1.accepts.1.0))
    one_request q r v u (inr h) (inl l) =
        let found = refused_full service.tables determined.tables iface j.op j.order j.stub (λ (slots : List Slot). accept_limit (journal w m.group) slots ≢ None) l.0 h.1.slots l.1.cause l.1.memory h.1.has in
        let alike = slots_alike service.tables determined.tables iface j.op j.order j.stub found.0 h.1.slots found.1 h.1.has in
        absurd (found.2 (same_limit (journal w m.group) found.0 h.1.slots alike ∙ h.1.accepts.1.0))
    one_request q r v u (inr h) (inr l) =
        let alike = slots_alike service.tables determined.tables iface j.op j.order j.stub h.1.slots l.1.slots h.1.has l.1.has in
        let both : (x y : History) → Accepts (journal w m.group) (asked_as m.number (request j iface) h.1.slots) (Ok h.0) x → Accepts (journal w m.group) (asked_as m.number (request j iface) l.1.slots) (Ok l.0) y → (h.0 ≡ l.0) × (x ≡ y) =
        λ x y a b. one_accept (journal w m.group) x y m.number (request j iface) h.1.slots l.1.slots h.0 l.0 alike a b in
        let world : h.1.accepted ≡ l.1.accepted =
        one_going (λ (old new : History). Accepts old (asked_as m.number (request j iface) h.1.slots) (Ok h.0) new)
        (λ (old new : History). Accepts old (asked_as m.number (request j iface) l.1.slots) (Ok l.0) new) w h.1.accepted l.1.accepted m.group (λ x y a b. (both x y a b).1) h.1.accepts l.1.accepts in
        let number : h.0 ≡ l.0 = h.1.accepts.1.1 ∙ sym l.1.accepts.1.1 in (
          h.2 ∙ ap (calling p) number ∙ sym l.2,
          one_marked j.cancel l.1.accepted v u m.group l.0
              (subst (λ (k : ℕ). CancelsMarked j.cancel l.1.accepted m.group k v) number (subst (λ (x : World service.State). CancelsMarked j.cancel x m.group h.0 v) world h.1.marked)) l.1.marked,
        )

  -- ---- acts

  pub one_leaving : (o : Option Member) (w v u : World service.State) → LeavesIts service o w v → LeavesIts service o w u → v ≡ u
  one_leaving None w v u h l = h ∙ sym l
  one_leaving (Some m) w v u h l = one_settled service determined w v u m.group (Leave m.number) h l

  one_meaning : (w : World service.State) (p : Peer) (act : Act) (q r : Peer) (v u : World service.State) → ActMeans service w p act q v → ActMeans service w p act r u → (q ≡ r) × (v ≡ u)
  one_meaning w p (acts.Answer octets) q r v u h l = (h.0 ∙ sym l.0, h.1 ∙ sym l.1)
  one_meaning w p (acts.Group asked) q r v u h l = (h.0 ∙ sym l.0, h.1 ∙ sym l.1)
  one_meaning w p (acts.Call j iface) q r v u h l =
      one_member p.member (λ (m : Member). Requests service w p j iface m q v) (λ (m : Member). Requests service w p j iface m r u) ((q ≡ r) × (v ≡ u))
      (λ m a b. one_request w p j iface m q r v u a b) h l
  one_meaning w p (acts.Cancel id) q r v u h l =
      (h.0 ∙ sym l.0, one_call p.member p.unanswered (λ g k. CancelsIn w g k v) (λ g k. CancelsIn w g k u) (v ≡ u) (λ g k a b. one_cancelled w v u g k a b) h.1 l.1)
  one_meaning w p (acts.Orphan id) q r v u h l =
      (h.0 ∙ sym l.0, one_call p.member p.unanswered (λ g k. OrphansIn w g k v) (λ g k. OrphansIn w g k u) (v ≡ u) (λ g k a b. one_orphaned w v u g k a b) h.1 l.1)
  one_meaning w p (acts.Close octets why) q r v u h l = (h.0 ∙ sym l.0, one_leaving p.member w v u h.1 l.1)

  -- ---- the server's words

  one_decision : (w : World service.State) (p : Peer) (x : Unanswered) (d e : Decision) (q r : Peer) (v u : World service.State)
      → Decides service w p x d q v → Decides service w p x e r u → (d ≡ e) × (q ≡ r) × (v ≡ u)
  one_decision w p Nothing d e q r v u h l = absurd h
  one_decision w p (Bind asked) (ToGroup group) (ToGroup group') q r v u h l = (ap to_group (h.1 ∙ sym l.1), h.2 ∙ sym l.2, h.3 ∙ sym l.3)
  one_decision w p (Bind asked) (ToGroup group) (RefuseGroup reason) q r v u h l = absurd (cc (h.0, l.0))
  one_decision w p (Bind asked) (ToGroup group) (Reply said executed) q r v u h l = absurd l
  one_decision w p (Bind asked) (RefuseGroup reason) (ToGroup group) q r v u h l = absurd (cc (h.0, l.0))
  one_decision w p (Bind asked) (RefuseGroup reason) (RefuseGroup reason') q r v u h l =
      (ap refuse_group (some_is reason reason' (sym h.0 ∙ l.0)), h.1 ∙ sym l.1, h.2 ∙ sym l.2)
  one_decision w p (Bind asked) (RefuseGroup reason) (Reply said executed) q r v u h l = absurd l
  one_decision w p (Bind asked) (Reply said executed) e q r v u h l = absurd h
  one_decision w p (Refused status) d e q r v u h l = (h.0.1 ∙ sym l.0.1, h.0.0 ∙ sym l.0.0, h.1 ∙ sym l.1)
  one_decision w p (Call k) d e q r v u h l =
      let said = one_member p.member (λ (m : Member). Says service (replies (journal w m.group) k) p q d) (λ (m : Member). Says service (replies (journal w m.group) k) p r e) ((d ≡ e) × (q ≡ r))
      (λ m a b. (a.1 ∙ sym b.1, a.0 ∙ sym b.0)) h.0 l.0 in
      (said.0, said.1, h.1 ∙ sym l.1)

  -- ---- what happens on a connection

  -- on that one
  record At (c : ℕ) (w : World service.State) (p : Peer) (event : Event) (v : World service.State) : Type 0 where
    state : ConnState
    happens : Happens p.state event state
    after : Peer
    between : World service.State
    means : Means service w p event after between
    lines : List Printed
    printed : ArePrinted c (put (event ∷ [])) lines
    then_ : v ≡ printing (with_peer between (lived service after event state)) lines

  at : (c : ℕ) (w : World service.State) (p : Peer) (event : Event) (v : World service.State) → peer_at w c ≡ Some p → HappensOn service c w event v → At c w p event v
  at c w p event v there h =
      let same : h.peer ≡ p = some_is h.peer p (sym h.there ∙ there) in
      record {
        state = h.state;
        happens = subst (λ (x : Peer). Happens x.state event h.state) same h.happens;
        after = h.after;
        between = h.between;
        means = subst (λ (x : Peer). Means service w x event h.after h.between) same h.means;
        lines = h.lines;
        printed = h.printed;
        then_ = h.then_;
      }

  module _ (c : ℕ) (w : World service.State) (p : Peer) where
    same_event : (event : Event) (v u : World service.State) (h : At c w p event v) (l : At c w p event u) → h.state ≡ l.state → h.after ≡ l.after → h.between ≡ l.between → v ≡ u
    same_event event v u h l state after between =
        let lines : h.lines ≡ l.lines = one_printing c (put (event ∷ [])) h.lines l.lines h.printed l.printed in
        h.then_ ∙ (λ i. printing (with_peer (between i) (lived service (after i) event (state i))) (lines i)) ∙ sym l.then_

    came_once : (octets : List ℕ) (v u : World service.State) → At c w p (Came octets) v → At c w p (Came octets) u → v ≡ u
    came_once octets v u h l = same_event (Came octets) v u h l (h.happens ∙ sym l.happens) (h.means.0 ∙ sym l.means.0) (h.means.1 ∙ sym l.means.1)

    paused_once : (v u : World service.State) → At c w p Paused v → At c w p Paused u → v ≡ u
    paused_once v u h l =
        same_event Paused v u h l (one_act p.state h.state l.state None None h.happens l.happens).1 (h.means.1 ∙ sym l.means.1) (h.means.2 ∙ sym l.means.2)

    did_same : (act : Act) (v u : World service.State) → At c w p (Did act) v → At c w p (Did act) u → v ≡ u
    did_same act v u h l =
        let one = one_meaning w p act h.after l.after h.between l.between h.means.1 l.means.1 in
        same_event (Did act) v u h l (one_act p.state h.state l.state (Some act) (Some act) h.happens l.happens).1 one.0 one.1

    did_once : (a b : Act) (v u : World service.State) → At c w p (Did a) v → At c w p (Did b) u → v ≡ u
    did_once a b v u h l =
        let one : a ≡ b = some_is a b (one_act p.state h.state l.state (Some a) (Some b) h.happens l.happens).0 in
        did_same b v u (subst (λ (x : Act). At c w p (Did x) v) one h) l

    did_paused : (act : Act) (v u : World service.State) → At c w p (Did act) v → At c w p Paused u → ⊥
    did_paused act v u h l =
        let wrong : Some act ≡ None = (one_act p.state h.state l.state (Some act) None h.happens l.happens).0 in
        absurd (cc (wrong))

    did_decided : (act : Act) (d : Decision) (octets : List ℕ) (v u : World service.State) → At c w p (Did act) v → At c w p (Decided d octets) u → ⊥
    did_decided act d octets v u h l = true_false (is_word_due w p.member p.unanswered) l.means.0 h.means.0

    paused_decided : (d : Decision) (octets : List ℕ) (v u : World service.State) → At c w p Paused v → At c w p (Decided d octets) u → ⊥
    paused_decided d octets v u h l = true_false (is_word_due w p.member p.unanswered) l.means.0 h.means.0

    decided_same : (d : Decision) (octets : List ℕ) (v u : World service.State) → At c w p (Decided d octets) v → At c w p (Decided d octets) u → v ≡ u
    decided_same d octets v u h l =
        let one = one_decision w p p.unanswered d d h.after l.after h.between l.between h.means.1 l.means.1 in
        same_event (Decided d octets) v u h l (one_answer p.state h.state l.state d octets octets h.happens l.happens).1 one.1 one.2

    decided_once : (d e : Decision) (a b : List ℕ) (v u : World service.State) → At c w p (Decided d a) v → At c w p (Decided e b) u → v ≡ u
    decided_once d e a b v u h l =
        let decision : d ≡ e = (one_decision w p p.unanswered d e h.after l.after h.between l.between h.means.1 l.means.1).0 in
        let by_decision : At c w p (Decided e a) v = subst (λ (x : Decision). At c w p (Decided x a) v) decision h in
        let octets : a ≡ b = (one_answer p.state by_decision.state l.state e a b by_decision.happens l.happens).0 in
        decided_same e b v u (subst (λ (x : List ℕ). At c w p (Decided e x) v) octets by_decision) l

  -- ---- one thing after the other

  module _ (c : ℕ) (w v u : World service.State) where
    pub on_came : (octets : List ℕ) → HappensOn service c w (Came octets) v → HappensOn service c w (Came octets) u → v ≡ u
    on_came octets h l = came_once c w h.peer octets v u (at c w h.peer (Came octets) v h.there h) (at c w h.peer (Came octets) u h.there l)

    on_paused : HappensOn service c w Paused v → HappensOn service c w Paused u → v ≡ u
    on_paused h l = paused_once c w h.peer v u (at c w h.peer Paused v h.there h) (at c w h.peer Paused u h.there l)

    on_did : (a b : Act) → HappensOn service c w (Did a) v → HappensOn service c w (Did b) u → v ≡ u
    on_did a b h l = did_once c w h.peer a b v u (at c w h.peer (Did a) v h.there h) (at c w h.peer (Did b) u h.there l)

    on_decided : (d e : Decision) (a b : List ℕ) → HappensOn service c w (Decided d a) v → HappensOn service c w (Decided e b) u → v ≡ u
    on_decided d e a b h l = decided_once c w h.peer d e a b v u (at c w h.peer (Decided d a) v h.there h) (at c w h.peer (Decided e b) u h.there l)

    not_both : (act : Act) (d : Decision) (octets : List ℕ) → HappensOn service c w (Did act) v → HappensOn service c w (Decided d octets) u → ⊥
    not_both act d octets h l = did_decided c w h.peer act d octets v u (at c w h.peer (Did act) v h.there h) (at c w h.peer (Decided d octets) u h.there l)

    -- a connection that rests and is there has paused
    rests_there : (p : Peer) → peer_at w c ≡ Some p → p.standing ≡ Open → Rests service c w v → HappensOn service c w Paused v
    rests_there p there is_open h =
        let same : h.0 ≡ p = some_is h.0 p (sym h.1 ∙ there) in
        subst (λ (s : Standing). RestsAt service c w s v) is_open (subst (λ (x : Peer). RestsAt service c w x.standing v) same h.2)

    rest_acts : (act : Act) → Rests service c w v → HappensOn service c w (Did act) u → ⊥
    rest_acts act h l =
        did_paused c w l.peer act u v (at c w l.peer (Did act) u l.there l) (at c w l.peer Paused v l.there (rests_there l.peer l.there l.is_open h))

    rest_decides : (d : Decision) (octets : List ℕ) → Rests service c w v → HappensOn service c w (Decided d octets) u → ⊥
    rest_decides d octets h l =
        paused_decided c w l.peer d octets v u (at c w l.peer Paused v l.there (rests_there l.peer l.there l.is_open h)) (at c w l.peer (Decided d octets) u l.there l)

    rest_at : (s : Standing) → RestsAt service c w s v → RestsAt service c w s u → v ≡ u
    rest_at Open h l = on_paused h l
    rest_at Closed h l = h ∙ sym l
    rest_at Lost h l = h ∙ sym l

    rest_once : Rests service c w v → Rests service c w u → v ≡ u
    rest_once h l =
        let same : h.0 ≡ l.0 = some_is h.0 l.0 (sym h.1 ∙ l.1) in
        rest_at l.0.standing (subst (λ (x : Peer). RestsAt service c w x.standing v) same h.2) l.2

  pub one_run : (c : ℕ) (us vs : List Event) (w v u : World service.State) → HappenOn service c w us v → HappenOn service c w vs u → v ≡ u
  one_run c [] [] w v u h l = rest_once c w v u h l
  one_run c [] (Did b ∷ vs) w v u h l = absurd (rest_acts c w v l.0 b h l.1)
  one_run c [] (Decided e b ∷ vs) w v u h l = absurd (rest_decides c w v l.0 e b h l.1)
  one_run c [] (Came octets ∷ vs) w v u h l = absurd l
  one_run c [] (Paused ∷ vs) w v u h l = absurd l
  one_run c (Did a ∷ us) [] w v u h l = absurd (rest_acts c w u h.0 a l h.1)
  one_run c (Did a ∷ us) (Did b ∷ vs) w v u h l =
      one_run c us vs l.0 v u (subst (λ (x : World service.State). HappenOn service c x us v) (on_did c w h.0 l.0 a b h.1 l.1) h.2) l.2
  one_run c (Did a ∷ us) (Decided e b ∷ vs) w v u h l = absurd (not_both c w h.0 l.0 a e b h.1 l.1)
  one_run c (Did a ∷ us) (Came octets ∷ vs) w v u h l = absurd l
  one_run c (Did a ∷ us) (Paused ∷ vs) w v u h l = absurd l
  one_run c (Decided d a ∷ us) [] w v u h l = absurd (rest_decides c w u h.0 d a l h.1)
  one_run c (Decided d a ∷ us) (Did b ∷ vs) w v u h l = absurd (not_both c w l.0 h.0 b d a l.1 h.1)
  one_run c (Decided d a ∷ us) (Decided e b ∷ vs) w v u h l =
      one_run c us vs l.0 v u (subst (λ (x : World service.State). HappenOn service c x us v) (on_decided c w h.0 l.0 d e a b h.1 l.1) h.2) l.2
  one_run c (Decided d a ∷ us) (Came octets ∷ vs) w v u h l = absurd l
  one_run c (Decided d a ∷ us) (Paused ∷ vs) w v u h l = absurd l
  one_run c (Came octets ∷ us) vs w v u h l = absurd h
  one_run c (Paused ∷ us) vs w v u h l = absurd h

  pub one_course : (c : ℕ) (w v u : World service.State) → GoesOnAt service c w v → GoesOnAt service c w u → v ≡ u
  one_course c w v u h l = one_run c h.0 l.0 w v u h.1 l.1
