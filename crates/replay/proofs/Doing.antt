-- What an act of a connection is to its turns, and to those of others.
use Rattle.std.proofs.Common.{◌≡◌, ◌≢◌, ℕ, ◌-◌, ◌≤◌, Bool, true, false, Option, Some, None, Ok, List, [], ◌∷◌, ◌++◌, get_or, slice_set, refl, sym, ap, subst, ◌∙◌, inl, inr}
use Rattle.std.specs.List.{AllByRecursion}
use Rattle.handle_model.specs.declared.entry.Home.{Home}
use Rattle.handle_model.specs.declared.entry.Slot.{Slot}
use Rattle.handle_model.specs.declared.entry.Entry.{Entry}
use Rattle.handle_model.specs.declared.entry.Entry.TheVariants.{Leave}
use Rattle.handle_model.specs.History.{History}
use Rattle.pdu_stream.specs.declared.joined.Joined.{Joined}
use Rattle.conn_histories.specs.declared.turn.Off.{Off}
use Rattle.conn_histories.specs.declared.turn.Off.TheVariants as off
use Rattle.conn_histories.specs.declared.turn.Fate.{Fate}
use Rattle.conn_histories.specs.declared.turn.Deed.{Deed}
use Rattle.conn_histories.specs.declared.turn.Turn.{Turn}
use Rattle.conn_histories.specs.Stories.{Server}
use Rattle.conn_histories.specs.Tales.{whole}
use Rattle.conn_histories.specs.declared.turn.Fate.TheVariants.{Waiting, Denied, Cancelled, Orphaned, LeftWaiting, Running, LeftRunning, Ended, LeftEnded}
use Rattle.conn_histories.specs.declared.turn.Deed.TheVariants as deeds
use Rattle.conn_histories.specs.declared.turn.Turn.TheVariants.{Binding, Bound, NotBound, Answered, Called, Closed as ClosedTurn}
use Rattle.conn_asks.specs.declared.events.ConnFault.{ConnFault}
use Rattle.conn_asks.specs.declared.events.Act.TheVariants as acts
use Rattle.conn_asks.specs.declared.events.Waits.TheVariants as waiting
use Rattle.conn_asks.specs.Asks.{is_bound}
use Rattle.conn_asks.specs.States.{ConnState, caller_of}
use Rattle.conn_histories.specs.Histories.{Event, Happens, seen}
use Rattle.conn_histories.specs.Histories.Event.{Did}
use Rattle.conn_histories.specs.Requests.{ids_of}
use Rattle.group_core.specs.declared.answer.Cancelled.{Cancelled as CancelAnswer}
use Rattle.group_core.specs.declared.answer.Orphaned.{Orphaned as OrphanAnswer}
use Rattle.group_core.specs.declared.answer.Rest.{Rest}
use Rattle.group_core.specs.Calls.{Accepts, Cancels, Orphans}
use Rattle.group_core.specs.Conns.{Settles}
use Rattle.replay_world.specs.declared.peer.Member.{Member}
use Rattle.replay_world.specs.declared.peer.Unanswered.{Unanswered}
use Rattle.replay_world.specs.declared.peer.Unanswered.TheVariants.{Nothing, Bind, Refused, Call}
use Rattle.replay_world.specs.declared.peer.Standing.TheVariants.{Open, Closed}
use Rattle.replay_world.specs.Services.{Service}
use Rattle.replay_world.specs.Worlds.{Peer, World, peer_at, home_of, past_of, journal}
use Rattle.replay_world.specs.Moments.{AreSound, Coheres}
use Rattle.replay_world.specs.Groups.{GoesOn, AcceptsIn, CancelsIn, OrphansIn, CancelsMarked, SettlesIn}
use Rattle.replay_world.specs.Events.{is_over, bound, request, RefusesRequest, AcceptsRequest, Says, lived}
use Rattle.replay_world.specs.Promised.{as_server}
use Rattle.rpc_base.specs.declared.identifiers.Status.{Status}
use Rattle.handle_model.specs.Journal.{has_joined}
use Rattle.handle_model.specs.Limits.{accept_limit}
use Rattle.conn_histories.specs.Serving.{IsCallOff}
use Rattle.conn_histories.proofs.Called.{calls_stay, others_free}
use Rattle.conn_histories.specs.Entries.{asked_as, is_open, has_left, deed_open}
use Rattle.conn_histories.specs.Events.{act_off, acts_off, all_events}
use Rattle.conn_histories.specs.Stories.{WasFull, Made}
use Rattle.conn_turns.specs.Steps.{left_turns, left_fate, left_deed, OnlyNewestOpen}
use Rattle.conn_turns.proofs.TaleFacts.{asked_in}
use Rattle.replay_world.proofs.Pasts.{joined_grows}
use Rattle.conn_turns.proofs.Making.{called, MayLeave, made_plain}
use Rattle.conn_turns.proofs.Whose.{AskedOf, fresh_none}
use Rattle.conn_turns.proofs.Stepping.{Onward, off_fate, cancelled_so, orphaned_so}
use Rattle.conn_turns.proofs.StepEnding.{Accepting, accepted_plain, accepted_marked, Leaving, left_so}
use Rattle.conn_turns.proofs.Hearing.{calls_wait, bound_stays, bind_once, bind_binds}
use Rattle.replay.proofs.Reaching.{Reaches, reaches_twice, accepts_reach, marked_reach, Below, below}
use Rattle.conn_turns.specs.Done.{IsDone}
use Rattle.conn_turns.proofs.Done.{done_may, done_closed, done_stay}
use Rattle.replay.proofs.Telling.{Asking, Front, BoundBy, IsTold, TellsTurns, Enters, others_told, none_apart, call_apart, new_apart, set_there, set_elsewhere}
use Rattle.replay.proofs.Acting.{bound_by, bound_in, built, free_at, plain_told, stage_here, not_left, open_is}
use Rattle.conn_turns.proofs.Plain.{refused_so, plain_refused, plain_closed, plain_answer, one_more_off}

-- ---- what an event comes to

pub record Acted (service : Service) (end w b : World service.State) (c : ℕ) (q : Peer) : Type 0 where
  pub own : TellsTurns service end b q false
  pub others : (d : ℕ) (x : Peer) → d ≢ c → peer_at w d ≡ Some x → (gone : Bool) (turns : List Turn) → IsTold service end w x.member gone turns → IsTold service end b x.member gone turns

module _ (service : Service) (end w b : World service.State) (c : ℕ) (p : Peer) (h : Coheres w) (was : peer_at w c ≡ Some p) where
  pub others_same : b ≡ w → (d : ℕ) (x : Peer) → d ≢ c → peer_at w d ≡ Some x → (gone : Bool) (turns : List Turn) → IsTold service end w x.member gone turns → IsTold service end b x.member gone turns
  others_same e d x other at gone turns told = subst (λ (z : World service.State). IsTold service end z x.member gone turns) (sym e) told

  pub others_by : (m : Member) → p.member ≡ Some m → Enters service end w b m.group m.number → Below end b → (d : ℕ) (x : Peer) → d ≢ c → peer_at w d ≡ Some x → (gone : Bool) (turns : List Turn)
      → IsTold service end w x.member gone turns → IsTold service end b x.member gone turns
  others_by m is enters low d x other at gone turns told =
      others_told service end w b m.group m.number x.member enters low
      (λ n e. (h.grouped d x n (record { there = at; member = e }), λ same. other (h.apart d c x p m (record { there = at; member = e ∙ ap (λ (y : Member). Some y) same }) (record { there = was; member = is }))))
      gone turns told

-- ---- a journal that is set

pub on_set : {S : Type 0} (Says : History → History → Type 0) (w v : World S) (g n : ℕ) → has_joined (journal w g) n ≡ true → GoesOn Says w g v → Says (journal w g) (whole (home_of w g) (past_of v g))
on_set Says w v g n there t =
    let groups : v.groups ≡ slice_set w.groups (g - 1) t.0 = ap (λ (z : World _). z.groups) t.2 in
    let now : past_of v g ≡ t.0 = ap (λ (l : List (List Entry)). get_or l (g - 1) []) groups ∙ set_there (home_of w g) w.groups (g - 1) n t.0 there in
    subst (λ (past : List Entry). Says (journal w g) (whole (home_of w g) past)) (sym now) t.1

pub off_set : {S : Type 0} (w v : World S) (g h : ℕ) (past : List Entry) → v.groups ≡ slice_set w.groups (g - 1) past → 1 ≤ g → 1 ≤ h → h ≢ g → past_of v h ≡ past_of w h
off_set w v g h past groups low up d = ap (λ (l : List (List Entry)). get_or l (h - 1) []) groups ∙ set_elsewhere w.groups g h past low up d

module _ (service : Service) (end w b : World service.State) (c : ℕ) (p : Peer) (state : ConnState) (h : Coheres w) (ends : AreSound end) (from : Reaches w end) (reach : Reaches b end) (was : peer_at w c ≡ Some p)
    (t : TellsTurns service end w p false) (front : Front p.unanswered t.turns p.state.waits) (told : IsTold service end w p.member false t.turns) where
  abbrev server : Server
  server = as_server service end

  abbrev after : Event → Peer → Peer
  after event a = lived service a event state

  -- an answer at once
  pub answers : (octets : List ℕ) → Happens p.state (Did (acts.Answer octets)) state → b ≡ w → Acted service end w b c (after (Did (acts.Answer octets)) (record p { member = p.member; unanswered = p.unanswered; standing = Open }))
  answers octets happens same =
      let free = free_at (ids_of service.tables) p.events p.state state (acts.Answer octets) t.lives happens t.turns p.unanswered front (λ id o. elim o [ inl e ↦ absurd cc | inr e ↦ absurd cc ]) in
      let waits = (others_free p.state state (acts.Answer octets) free.2 happens).1 in
      record {
        own =
            built service end w b p (Did (acts.Answer octets)) state happens t p.member p.unanswered Open (Answered octets ∷ t.turns) refl
            (subst (λ (x : Unanswered). Front x (Answered octets ∷ t.turns) state.waits) (sym free.0) ((tt, free.1), waits))
            (bound_by p.member p.unanswered p.state state (bound_stays p.state state (Did (acts.Answer octets)) happens) t.bound)
            (subst (λ (z : World service.State). IsTold service end z p.member false (Answered octets ∷ t.turns)) (sym same)
            (plain_told service end w p.member false (Answered octets) t.turns (λ n. plain_answer n octets) tt (λ s hm n past. tt) told));
        others = others_same service end w b c p h was same;
      }

  -- a bind asks for a group
  not_bound : (mem : Option Member) (x : Unanswered) → x ≡ Nothing → BoundBy mem x p.state → (is_bound p.state.past ≡ true → ⊥) → mem ≡ None
  not_bound None x e bound unbound = refl
  not_bound (Some g) Nothing e bound unbound = absurd (unbound bound)
  not_bound (Some g) (Bind asked) e bound unbound = absurd bound
  not_bound (Some g) (Refused status) e bound unbound = absurd (unbound bound)
  not_bound (Some g) (Call k) e bound unbound = absurd (unbound bound)

  pub groups : (asked : ℕ) → Happens p.state (Did (acts.Group asked)) state → b ≡ w → Acted service end w b c (after (Did (acts.Group asked)) (record p { member = p.member; unanswered = Bind asked; standing = Open }))
  groups asked happens same =
      let free = free_at (ids_of service.tables) p.events p.state state (acts.Group asked) t.lives happens t.turns p.unanswered front (λ id o. elim o [ inl e ↦ absurd cc | inr e ↦ absurd cc ]) in
      let waits = (others_free p.state state (acts.Group asked) free.2 happens).1 in
      let alone : p.member ≡ None = not_bound p.member p.unanswered free.0 t.bound (λ bound. bind_once p.state state asked bound happens) in
      record {
        own =
            built service end w b p (Did (acts.Group asked)) state happens t p.member (Bind asked) Open (Binding asked ∷ t.turns) refl
            (record { older = t.turns; is = refl; done = free.1 }, waits)
            (subst (λ (mem : Option Member). BoundBy mem (Bind asked) state) (sym alone) (bind_binds p.state state asked happens))
            (subst (λ (z : World service.State). IsTold service end z p.member false (Binding asked ∷ t.turns)) (sym same)
            (plain_told service end w p.member false (Binding asked) t.turns (λ n. record { entries = refl; number = refl; open_ = refl; left = refl; stands = λ gone past. tt }) tt (λ s hm n past. tt) told));
        others = others_same service end w b c p h was same;
      }

  -- ---- of a member

  module _ (m : Member) (is : p.member ≡ Some m) where
    abbrev story : (World service.State) → List Turn → Type 0
    story z turns = IsTold service end z (Some m) false turns

    pub mine : story w t.turns
    mine = subst (λ (mem : Option Member). IsTold service end w mem false t.turns) is told

    abbrev pub own_before : List Entry
    own_before = mine.0

    back : (z : World service.State) (gone : Bool) (turns : List Turn) → IsTold service end z (Some m) gone turns → IsTold service end z p.member gone turns
    back z gone turns s = subst (λ (mem : Option Member). IsTold service end z mem gone turns) (sym is) s

    low : 1 ≤ m.group
    low = h.grouped c p m (record { there = was; member = is })

    there : has_joined (journal w m.group) m.number ≡ true
    there = h.joined c p m (record { there = was; member = is })

    homes : home_of w m.group ≡ home_of end m.group
    homes = ap (λ (boot : ℕ). record { boot = boot; group = m.group }) (sym from.boot)

    low_w : Below end w
    low_w = below end w ends from

    low_b : Below end b
    low_b = below end b ends reach

    -- a request is refused
    pub refused : (j : Joined) (iface : ℕ) (status : Status) → Happens p.state (Did (acts.Call j iface)) state → RefusesRequest service w m j iface status → b ≡ w
        → Acted service end w b c (after (Did (acts.Call j iface)) (record p { member = p.member; unanswered = Refused status; standing = Open }))
    refused j iface status happens r same =
        let free = free_at (ids_of service.tables) p.events p.state state (acts.Call j iface) t.lives happens t.turns p.unanswered front (λ id o. elim o [ inl e ↦ absurd cc | inr e ↦ absurd cc ]) in
        let turns : List Turn = called j iface [] (deeds.Refused status) None ∷ t.turns in
        let made = mine.1 in
        let due = refused_so service.tables iface j.op j.order j.stub (λ (slots : List Slot). accept_limit (journal w m.group) slots ≢ None) (WasFull server (home_of end m.group) m.number (past_of w m.group) t.turns) status
        (λ slots limited. record {
          newer = [];
          older = past_of w m.group;
          moment = refl;
          before = made.stand;
          there = made.conns;
          limited = subst (λ (home : Home). accept_limit (whole home (past_of w m.group)) slots ≢ None) homes limited;
        }) r.cause in
        let story' : story w turns =
        (mine.0, made_plain server (home_of end m.group) m.number (past_of w m.group) false (called j iface [] (deeds.Refused status) None) t.turns mine.0 (plain_refused m.number j iface status) (refl, due) made) in
        record {
          own =
              built service end w b p (Did (acts.Call j iface)) state happens t p.member (Refused status) Open turns refl
              (record { joined = j; iface = iface; older = t.turns; is = refl; done = free.1 }, calls_wait p.state state j iface happens)
              (bound_in p.member p.unanswered (Refused status) state (λ asked e. absurd cc) (λ asked e. let x = free.0 in absurd (cc (e, x)))
              (bound_by p.member p.unanswered p.state state (bound_stays p.state state (Did (acts.Call j iface)) happens) t.bound))
              (subst (λ (z : World service.State). IsTold service end z p.member false turns) (sym same) (back w false turns story'));
          others = others_same service end w b c p h was same;
        }

    -- or accepted
    accepts_by : (j : Joined) (iface k : ℕ) (u : World service.State) (slots : List Slot) → AcceptsIn w m.group (asked_as m.number (request j iface) slots) k u
        → Accepts (whole (home_of w m.group) (past_of w m.group)) (asked_as m.number (request j iface) slots) (Ok k) (whole (home_of w m.group) (past_of u m.group))
    accepts_by j iface k u slots says = on_set (λ old new. Accepts old (asked_as m.number (request j iface) slots) (Ok k) new) w u m.group m.number there says

    accepting : (j : Joined) (iface k : ℕ) (a : AcceptsRequest service w m j iface k b) (marked : Bool) → j.cancel ≡ marked → CancelsMarked marked a.accepted m.group k b
        → Accepting server (home_of end m.group) m.number j iface k t.turns (past_of w m.group) (past_of b m.group) mine.0
    accepting j iface k a false unmarked t' =
        let says : AcceptsIn w m.group (asked_as m.number (request j iface) a.slots) k b = subst (λ (z : World service.State). AcceptsIn w m.group (asked_as m.number (request j iface) a.slots) k z) (sym t') a.accepts in
        accepted_plain server (home_of end m.group) (home_of w m.group) m.number j iface k t.turns a.slots (past_of w m.group) (past_of b m.group) mine.0 (low_b.legal m.group low) unmarked a.has
        (accepts_by j iface k b a.slots says) mine.1
    accepting j iface k a true marked t' =
        let u : World service.State = a.accepted in
        let to_u = accepts_reach w u m.group k (asked_as m.number (request j iface) a.slots) a.accepts in
        let from_u : Reaches u end = reaches_twice u b end (marked_reach true u b m.group k t') reach in
        let there_u : has_joined (journal u m.group) m.number ≡ true =
        joined_grows (home_of w m.group) (home_of u m.group) m.number (past_of w m.group) (past_of u m.group) (to_u.pasts m.group).grows there in
        let says = on_set (λ old new. (answer : CancelAnswer) × Cancels old k answer new) u b m.group m.number there_u t' in
        let cancels : Cancels (whole (home_of w m.group) (past_of u m.group)) k says.0 (whole (home_of w m.group) (past_of b m.group)) =
        subst (λ (boot : ℕ). Cancels (whole (record { boot = boot; group = m.group }) (past_of u m.group)) k says.0 (whole (record { boot = boot; group = m.group }) (past_of b m.group))) to_u.boot says.1 in
        accepted_marked server (home_of end m.group) (home_of w m.group) m.number j iface k t.turns a.slots (past_of w m.group) (past_of u m.group) (past_of b m.group) mine.0 says.0
        ((below end u ends from_u).legal m.group low) (low_b.legal m.group low) marked a.has (accepts_by j iface k u a.slots a.accepts) cancels mine.1

    elsewhere_marked : (u : World service.State) (k : ℕ) (marked : Bool) → CancelsMarked marked u m.group k b → (g : ℕ) → 1 ≤ g → g ≢ m.group → past_of b g ≡ past_of u g
    elsewhere_marked u k false t' g up d = ap (λ (z : World service.State). past_of z g) t'
    elsewhere_marked u k true t' g up d = off_set u b m.group g t'.0 (ap (λ (z : World service.State). z.groups) t'.2) low up d

    pub accepted : (j : Joined) (iface k : ℕ) → Happens p.state (Did (acts.Call j iface)) state → AcceptsRequest service w m j iface k b
        → Acted service end w b c (after (Did (acts.Call j iface)) (record p { member = p.member; unanswered = Call k; standing = Open }))
    accepted j iface k happens a =
        let free = free_at (ids_of service.tables) p.events p.state state (acts.Call j iface) t.lives happens t.turns p.unanswered front (λ id o. elim o [ inl e ↦ absurd cc | inr e ↦ absurd cc ]) in
        let g = accepting j iface k a j.cancel refl a.marked in
        let turns : List Turn = called j iface [] (deeds.Accepted k g.slots g.fate) None ∷ t.turns in
        let says = accepts_by j iface k a.accepted a.slots a.accepts in
        let unasked : asked_in k (past_of w m.group) ≡ None = fresh_none (home_of end m.group) (past_of w m.group) k (low_w.legal m.group low) says.1 in
        record {
          own =
              built service end w b p (Did (acts.Call j iface)) state happens t p.member (Call k) Open turns refl
              (record { joined = j; iface = iface; offs = []; slots = g.slots; fate = g.fate; older = t.turns; is = refl; done = free.1; may = g.may; apart = g.apart }, calls_wait p.state state j iface happens)
              (bound_in p.member p.unanswered (Call k) state (λ asked e. absurd cc) (λ asked e. let x = free.0 in absurd (cc (e, x)))
              (bound_by p.member p.unanswered p.state state (bound_stays p.state state (Did (acts.Call j iface)) happens) t.bound))
              (back b false turns (g.own, g.made));
          others =
              others_by service end w b c p h was m is
              (record {
                call = Some k;
                es = g.es;
                at = g.is;
                by = g.by;
                elsewhere = λ o up d. elsewhere_marked a.accepted k j.cancel a.marked o up d ∙ off_set w a.accepted m.group o a.accepts.0 (ap (λ (z : World service.State). z.groups) a.accepts.2) low up d;
                apart = new_apart w m.group m.number k unasked;
              }) low_b;
        }

    -- ---- its call is called off

    module _ (k : ℕ) (at : Asking k t.turns) (waits : p.state.waits ≡ waiting.Call (caller_of at.joined) at.joined.maybe) (due : is_over w m k ≡ false) where
      abbrev newest : Turn
      newest = called at.joined at.iface at.offs (deeds.Accepted k at.slots at.fate) None

      made_here : Made server (home_of end m.group) m.number (past_of w m.group) false (newest ∷ at.older) mine.0
      made_here = subst (λ (l : List Turn). Made server (home_of end m.group) m.number (past_of w m.group) false l mine.0) at.is mine.1

      opened : is_open at.fate ≡ true
      opened = open_is server (home_of end m.group) w m at.joined at.iface k at.offs at.slots at.fate at.older mine.0 made_here due

      asked_here : AskedOf m.number (past_of w m.group) k
      asked_here = record { what = _; asks = (stage_here server (home_of end m.group) w m at.joined at.iface k at.offs at.slots at.fate at.older mine.0 made_here).asks; theirs = refl }

      abbrev So : Off → List Off → List Slot → Fate → Type 0
      So o offs slots fate = (offs ≡ o ∷ at.offs) × (has_left fate ≡ false) × (slots ≡ at.slots) × (fate ≡ off_fate o at.fate)

      off_call : (o : Off) (id : ℕ) → act_off id o ≡ act_off (at.joined.call_id) o → (event : Event) → event ≡ Did (act_off id o) → Happens p.state event state → state.waits ≡ p.state.waits
          → Onward server (home_of end m.group) m.number false at.joined at.iface k at.older (past_of w m.group) (past_of b m.group) mine.0 (So o) → ((g : ℕ) → 1 ≤ g → g ≢ m.group → past_of b g ≡ past_of w g)
          → p.unanswered ≡ Call k → seen (event ∷ []) ≡ event ∷ []
          → Acted service end w b c (after event (record p { member = p.member; unanswered = p.unanswered; standing = Open }))
      off_call o id same_id event event_is happens still on elsewhere x_is saw =
          let turns : List Turn = called at.joined at.iface on.offs (deeds.Accepted k on.slots on.fate) None ∷ at.older in
          let offs_is = on.so.0 in
          let told_events : all_events t.turns ++ event ∷ [] ≡ all_events turns =
          (λ i. all_events (at.is i) ++ (event_is ∙ ap Did same_id) i ∷ [])
          ∙ (one_more_off (all_events at.older) (Did (acts.Call at.joined at.iface)) (acts_off at.joined.call_id at.offs) (Did (act_off at.joined.call_id o))
          ∙ sym (λ i. all_events (called at.joined at.iface (offs_is i) (deeds.Accepted k on.slots on.fate) None ∷ at.older))) in
          record {
            own =
                built service end w b p event state happens t p.member p.unanswered Open turns (ap (λ (l : List Event). all_events t.turns ++ l) saw ∙ told_events)
                (subst (λ (x : Unanswered). Front x turns state.waits) (sym x_is) (
                  record {
                    joined = at.joined;
                    iface = at.iface;
                    offs = on.offs;
                    slots = on.slots;
                    fate = on.fate;
                    older = at.older;
                    is = refl;
                    done = at.done;
                    may = λ u. at.may opened;
                    apart = at.apart;
                  },
                  still ∙ waits,
                ))
                (bound_by p.member p.unanswered p.state state (bound_stays p.state state event happens) t.bound) (back b false turns (on.own, on.made));
            others =
                others_by service end w b c p h was m is
                (record { call = Some k; es = on.es; at = on.is; by = on.by; elsewhere = elsewhere; apart = call_apart w m.group m.number k asked_here }) low_b;
          }

      cancel_id : (id : ℕ) → IsCallOff at.joined.call_id (acts.Cancel id) → acts.Cancel id ≡ acts.Cancel at.joined.call_id
      cancel_id id (inl e) = e
      cancel_id id (inr e) = absurd cc

      orphan_id : (id : ℕ) → IsCallOff at.joined.call_id (acts.Orphan id) → acts.Orphan id ≡ acts.Orphan at.joined.call_id
      orphan_id id (inl e) = absurd cc
      orphan_id id (inr e) = e

      pub cancelled : (id : ℕ) → Happens p.state (Did (acts.Cancel id)) state → CancelsIn w m.group k b → p.unanswered ≡ Call k
          → Acted service end w b c (after (Did (acts.Cancel id)) (record p { member = p.member; unanswered = p.unanswered; standing = Open }))
      cancelled id happens says x_is =
          let stays = calls_stay (ids_of service.tables) p.events p.state state (acts.Cancel id) (caller_of at.joined) at.joined.maybe t.lives waits happens in
          let now = on_set (λ old new. (answer : CancelAnswer) × Cancels old k answer new) w b m.group m.number there says in
          let on = cancelled_so server (home_of end m.group) (home_of w m.group) m.number false at.joined at.iface k at.older at.apart (past_of w m.group) (past_of b m.group) at.offs at.slots at.fate mine.0 now.0 refl (low_b.legal m.group low)
          (not_left server (home_of end m.group) w m at.joined at.iface k at.offs at.slots at.fate at.older mine.0 made_here) opened (at.may opened) now.1 made_here in
          off_call off.Cancel id (cancel_id id stays.0) (Did (acts.Cancel id)) refl happens (stays.1 ∙ sym waits) on
          (λ g up d. off_set w b m.group g says.0 (ap (λ (z : World service.State). z.groups) says.2) low up d) x_is refl

      pub orphaned : (id : ℕ) → Happens p.state (Did (acts.Orphan id)) state → OrphansIn w m.group k b → p.unanswered ≡ Call k
          → Acted service end w b c (after (Did (acts.Orphan id)) (record p { member = p.member; unanswered = p.unanswered; standing = Open }))
      orphaned id happens says x_is =
          let stays = calls_stay (ids_of service.tables) p.events p.state state (acts.Orphan id) (caller_of at.joined) at.joined.maybe t.lives waits happens in
          let now = on_set (λ old new. (answer : OrphanAnswer) × Orphans old k answer new) w b m.group m.number there says in
          let on = orphaned_so server (home_of end m.group) (home_of w m.group) m.number false at.joined at.iface k at.older at.apart (past_of w m.group) (past_of b m.group) at.offs at.slots at.fate mine.0 now.0 refl (low_b.legal m.group low)
          (not_left server (home_of end m.group) w m at.joined at.iface k at.offs at.slots at.fate at.older mine.0 made_here) opened (at.may opened) now.1 made_here in
          off_call off.Orphan id (orphan_id id stays.0) (Did (acts.Orphan id)) refl happens (stays.1 ∙ sym waits) on
          (λ g up d. off_set w b m.group g says.0 (ap (λ (z : World service.State). z.groups) says.2) low up d) x_is refl

    -- ---- it is closed

    settled : SettlesIn service w m.group (Leave m.number) b → (r : Rest) × Settles (whole (home_of w m.group) (past_of w m.group)) (Leave m.number) r (whole (home_of w m.group) (past_of b m.group))
    settled s =
        let groups' : b.groups ≡ slice_set w.groups (m.group - 1) s.past = ap (λ (z : World service.State). z.groups) s.after in
        let now : past_of b m.group ≡ s.past = ap (λ (l : List (List Entry)). get_or l (m.group - 1) []) groups' ∙ set_there (home_of w m.group) w.groups (m.group - 1) m.number s.past there in
        (s.rest, subst (λ (past : List Entry). Settles (whole (home_of w m.group) (past_of w m.group)) (Leave m.number) s.rest (whole (home_of w m.group) past)) (sym now) s.settles)

    pub leaving : (turns : List Turn) → OnlyNewestOpen turns → MayLeave server (home_of end m.group) m.number turns → turns ≡ t.turns → SettlesIn service w m.group (Leave m.number) b
        → Leaving server (home_of end m.group) m.number turns (past_of w m.group) (past_of b m.group) mine.0
    leaving turns newest may same s =
        let now = settled s in
        left_so server (home_of end m.group) (home_of w m.group) m.number turns (past_of w m.group) (past_of b m.group) mine.0 now.0 (low_b.legal m.group low) newest may now.1
        (subst (λ (l : List Turn). Made server (home_of end m.group) m.number (past_of w m.group) false l mine.0) (sym same) mine.1)

    pub left_others : (turns : List Turn) → Leaving server (home_of end m.group) m.number turns (past_of w m.group) (past_of b m.group) mine.0 → SettlesIn service w m.group (Leave m.number) b
        → (d : ℕ) (x : Peer) → d ≢ c → peer_at w d ≡ Some x → (gone : Bool) (ts : List Turn) → IsTold service end w x.member gone ts → IsTold service end b x.member gone ts
    left_others turns l s =
        others_by service end w b c p h was m is
        (record {
          call = None;
          es = l.es;
          at = l.is;
          by = l.by;
          elsewhere = λ g up d. off_set w b m.group g s.past (ap (λ (z : World service.State). z.groups) s.after) low up d;
          apart = none_apart w m.group m.number;
        }) low_b

    pub shuts : (octets : List ℕ) (why : ConnFault) → Happens p.state (Did (acts.Close octets why)) state → SettlesIn service w m.group (Leave m.number) b
        → Acted service end w b c (after (Did (acts.Close octets why)) (record p { member = p.member; unanswered = Nothing; standing = Closed }))
    shuts octets why happens s =
        let free = free_at (ids_of service.tables) p.events p.state state (acts.Close octets why) t.lives happens t.turns p.unanswered front (λ id o. elim o [ inl e ↦ absurd cc | inr e ↦ absurd cc ]) in
        let waits = (others_free p.state state (acts.Close octets why) free.2 happens).1 in
        let l = leaving t.turns (done_closed t.turns free.1) (done_may server (home_of end m.group) m.number t.turns free.1) refl s in
        let made : Made server (home_of end m.group) m.number (past_of b m.group) true t.turns l.own =
        subst (λ (ts : List Turn). Made server (home_of end m.group) m.number (past_of b m.group) true ts l.own) (done_stay t.turns free.1) l.made in
        record {
          own =
              built service end w b p (Did (acts.Close octets why)) state happens t p.member Nothing Closed (ClosedTurn octets why ∷ t.turns) refl
              (refl, waits, (tt, free.1))
              (bound_in p.member p.unanswered Nothing state (λ asked e. absurd cc) (λ asked e. let x = free.0 in absurd (cc (e, x)))
              (bound_by p.member p.unanswered p.state state (bound_stays p.state state (Did (acts.Close octets why)) happens) t.bound))
              (back b true (ClosedTurn octets why ∷ t.turns)
              (l.own, made_plain server (home_of end m.group) m.number (past_of b m.group) true (ClosedTurn octets why) t.turns l.own (plain_closed m.number octets why) tt made));
          others = left_others t.turns l s;
        }

  -- and one that is in no group
  pub shuts_alone : (octets : List ℕ) (why : ConnFault) → p.member ≡ None → Happens p.state (Did (acts.Close octets why)) state → b ≡ w
      → Acted service end w b c (after (Did (acts.Close octets why)) (record p { member = p.member; unanswered = Nothing; standing = Closed }))
  shuts_alone octets why alone happens same =
      let free = free_at (ids_of service.tables) p.events p.state state (acts.Close octets why) t.lives happens t.turns p.unanswered front (λ id o. elim o [ inl e ↦ absurd cc | inr e ↦ absurd cc ]) in
      let waits = (others_free p.state state (acts.Close octets why) free.2 happens).1 in
      let told' : IsTold service end w None false t.turns = subst (λ (mem : Option Member). IsTold service end w mem false t.turns) alone told in
      let after' : IsTold service end w None true (ClosedTurn octets why ∷ t.turns) = ((tt, told'.0), (tt, told'.1)) in
      record {
        own =
            built service end w b p (Did (acts.Close octets why)) state happens t p.member Nothing Closed (ClosedTurn octets why ∷ t.turns) refl
            (refl, waits, (tt, free.1))
            (subst (λ (mem : Option Member). BoundBy mem Nothing state) (sym alone) tt)
            (subst (λ (z : World service.State). IsTold service end z p.member true (ClosedTurn octets why ∷ t.turns)) (sym same)
            (subst (λ (mem : Option Member). IsTold service end w mem true (ClosedTurn octets why ∷ t.turns)) (sym alone) after'));
        others = others_same service end w b c p h was same;
      }
