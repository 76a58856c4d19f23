-- What an act of the connection in hand means to its group.
use Rattle.std.proofs.Common.{◌≡◌, ◌≢◌, ℕ, ◌≤◌, Bool, true, false, ◌||◌, Option, Some, None, List, [], ◌∷◌, refl, sym, ap, subst, ◌∙◌, inl, inr}
use Rattle.std.specs.Prelude.{⊤}
use Rattle.rpc_base.specs.declared.identifiers.Status.{Status}
use Rattle.handle_model.specs.declared.entry.Asked.{Asked}
use Rattle.handle_model.specs.declared.reply.Reply.{Reply}
use Rattle.handle_model.specs.Journal.{is_open, is_orphaned}
use Rattle.handle_model.specs.Replies.{replies}
use Rattle.ndr_table.specs.Tables.{TableForm}
use Rattle.pdu_stream.specs.declared.joined.Joined.{Joined}
use Rattle.conn_asks.specs.declared.events.Act.{Act}
use Rattle.conn_asks.specs.declared.events.Act.TheVariants as acts
use Rattle.conn_asks.specs.declared.events.ConnFault.{ConnFault}
use Rattle.conn_histories.specs.Histories.{Event}
use Rattle.conn_histories.specs.Histories.Event.{Did}
use Rattle.conn_histories.specs.Entries.{asked_as}
use Rattle.desk_service.specs.State.{Services}
use Rattle.replay_world.specs.declared.peer.Member.{Member}
use Rattle.replay_world.specs.declared.peer.Unanswered.{Unanswered}
use Rattle.replay_world.specs.declared.peer.Unanswered.TheVariants.{Nothing, Bind, Refused, Call}
use Rattle.replay_world.specs.declared.peer.Standing.TheVariants.{Open, Closed}
use Rattle.replay_world.specs.Worlds.{Peer, World, peer_at, past_of, home_of, journal}
use Rattle.replay_world.specs.Groups.{CancelsIn, OrphansIn}
use Rattle.replay_world.specs.Events.{is_word_due, awaiting, closed, OfMember, OfCall, LeavesIts, request, Requests, ActMeans, Means, HappensOn}
use Rattle.replay_groups.specs.Service.{service_of}
use Rattle.replay_world.specs.Moments.{IsAs}
use Rattle.replay_world.proofs.Pasts.{asked_grows}
use Rattle.replay_world.proofs.Keep.{some_is}
use Rattle.replay_events.specs.declared.played.Kept.{Kept}
use Rattle.replay_events.specs.declared.played.Played.{Played}
use Rattle.replay_events.specs.Showing.{Shows}
use Rattle.replay_events.specs.Living.{LivesOn, living}
use Rattle.replay_groups.specs.declared.realm.Realm.{Realm}
use Rattle.replay_groups.specs.declared.request.Requested.TheVariants as requested
use Rattle.replay_groups.specs.Holding.{Holds, Frames, Moves, Known}
use Rattle.replay_groups.specs.Requests.{RequestsIn}
use Rattle.replay_events.specs.declared.player.Player.{Player}
use Rattle.replay_events.specs.Standing.{KeepsCall, Minds, IsTold, Handles}
use Rattle.replay_events.specs.Marked.{TellsReply, CancelsAs, MarksAs, OrphansAs, IsHere, with_orphan}
use Rattle.replay_events.specs.Lived.{moment_of, Lived, Midway, IsMidway}
use Rattle.replay_events.specs.Lived as lived
use Rattle.replay_events.proofs.Sparing.{grown, same_taken, same_orphaned}
use Rattle.replay_events.proofs.Spared.{no_call, one_call, all_same, accepting, cancelling, marking, orphaning, leaving, both_spare}
use Rattle.replay_events.proofs.Minding.{sound_of, call_kept, minds_kept, none_of_none, KeepsOthers, others_spared, others_unorphaned}
use Rattle.replay_events.proofs.Happening.{Happened, happened}
use Rattle.replay_events.proofs.Living.{shown_as}
use Rattle.replay_events.proofs.Marking.{fresh_unorphaned}

-- ---- an event that means nothing to the group

module _ (echo : Option TableForm) (x y : Player) (t u : Played) (w : World Services) (h : Handles echo x t w) (event : Event) (l : Lived x t event y u) where
  pub held : Holds echo y.realm w
  held = subst (λ (z : Player). Holds echo z.realm w) (sym l.player) h.holds

  pub lives : LivesOn (moment_of x t) h.peer event (moment_of y u)
  lives = l.lives h.peer h.shows

  pub stays : t.standing ≡ Open → Means (service_of echo) w h.peer event h.peer w → (v : World Services) × HappensOn (service_of echo) t.name w event v × Handles echo y u v
  stays open_ means =
      happened echo x t w h event (moment_of y u) y u w h.peer
      (record {
        is_open = open_;
        lives = lives;
        holds = held;
        frames = record { peers = refl; out = refl };
        peers = ap (λ (z : Player). z.peers) l.player;
        totals = refl;
        out = refl;
        name = refl;
        events = refl;
        means = means;
        shows = lives.shows;
        minds = subst (λ (call : Option Kept). Minds echo w h.peer call) (sym l.call) h.minds;
        others = λ d p call other there minds. minds;
        told = subst (λ (o : Option Reply). IsTold w h.peer o) (sym (ap (λ (z : Player). z.told) l.player)) h.told;
      })

pub quiet_of : (echo : Option TableForm) (x : Player) (t : Played) (w : World Services) (h : Handles echo x t w) (b : Bool) → is_word_due w t.member t.unanswered ≡ b
    → is_word_due w h.peer.member h.peer.unanswered ≡ b
quiet_of echo x t w h b q =
    subst (λ (m : Option Member). is_word_due w m h.peer.unanswered ≡ b) h.shows.member (subst (λ (a : Unanswered). is_word_due w t.member a ≡ b) h.shows.unanswered q)

-- ---- an act

-- the group knows of the act: the connection is that behind it, and the realm's world is b
pub record Acted (echo : Option TableForm) (act : Act) (y : Player) (u : Played) (w : World Services) (i : Midway echo (Did act) y u w) (z : Player) (s : Played) (b : World Services) (a : Peer) : Type 0 where
  pub holds : Holds echo z.realm b
  pub frames : Frames w b
  pub peers : z.peers ≡ y.peers
  pub totals : z.totals ≡ y.totals
  pub out : z.out ≡ y.out
  pub name : a.name ≡ i.hand.peer.name
  pub events : a.events ≡ i.hand.peer.events
  pub means : ActMeans (service_of echo) w i.hand.peer act a b
  pub called : s.name ≡ u.name
  pub conn : s.conn ≡ u.conn
  pub packets : s.packets ≡ u.packets
  pub member : s.member ≡ a.member
  pub unanswered : s.unanswered ≡ a.unanswered
  pub standing : s.standing ≡ a.standing
  pub minds : Minds echo b a s.call
  pub others : KeepsOthers echo i.was.name w b
  pub told : IsTold b a z.told

module _ (echo : Option TableForm) (act : Act) (y : Player) (u : Played) (w : World Services) (i : Midway echo (Did act) y u w) where
  pub holds_now : Holds echo y.realm w
  holds_now = held echo i.before y i.was u w i.hand (Did act) i.lived

  pub lives_now : LivesOn (moment_of i.before i.was) i.hand.peer (Did act) (moment_of y u)
  lives_now = lives echo i.before y i.was u w i.hand (Did act) i.lived

  pub shows_now : Shows u (living i.hand.peer (Did act) lives_now.state)
  shows_now = lives_now.shows

  pub minds_now : Minds echo w i.hand.peer u.call
  minds_now = subst (λ (call : Option Kept). Minds echo w i.hand.peer call) (sym i.lived.call) i.hand.minds

  pub told_now : IsTold w i.hand.peer y.told
  told_now = subst (λ (o : Option Reply). IsTold w i.hand.peer o) (sym (ap (λ (z : Player). z.told) i.lived.player)) i.hand.told

  -- the connection is that member, and is open there
  pub as_now : (m : Member) → u.member ≡ Some m → IsAs w i.was.name i.hand.peer m
  as_now m is = record { there = i.hand.there; member = sym shows_now.member ∙ is }

  pub open_now : (m : Member) → u.member ≡ Some m → is_open (journal w m.group) m.number ≡ true
  open_now m is = i.hand.coheres.here i.was.name i.hand.peer m (as_now m is) (sym i.hand.shows.standing ∙ i.is_open)

  pub low_now : (m : Member) → u.member ≡ Some m → 1 ≤ m.group
  low_now m is = i.hand.coheres.grouped i.was.name i.hand.peer m (as_now m is)

  pub acted : (z : Player) (s : Played) (b : World Services) (a : Peer) → Acted echo act y u w i z s b a
      → (v : World Services) × HappensOn (service_of echo) u.name w (Did act) v × Handles echo z s v
  acted z s b a e =
      let r = happened echo i.before i.was w i.hand (Did act) (moment_of y u) z s b a
      (record {
        is_open = i.is_open;
        lives = lives_now;
        holds = e.holds;
        frames = e.frames;
        peers = e.peers ∙ ap (λ (q : Player). q.peers) i.lived.player;
        totals = e.totals;
        out = ap (λ o. o.items) e.out;
        name = e.name;
        events = e.events;
        means = (quiet_of echo i.before i.was w i.hand false i.quiet, e.means);
        shows = shown_as u s i.hand.peer a (Did act) lives_now.state shows_now e.called e.conn e.packets e.name e.events e.member e.unanswered e.standing;
        minds = e.minds;
        others = e.others;
        told = e.told;
      }) in
      (r.0, subst (λ (n : ℕ). HappensOn (service_of echo) n w (Did act) r.0) (sym i.lived.name) r.1, r.2)

-- ---- an answer

pub answered : (octets : List ℕ) (y : Player) (u : Played) → lived.Means (acts.Answer octets) y u y u
answered octets y u = (
  refl,
  λ echo w i.
      let p = i.hand.peer in
      acted echo (acts.Answer octets) y u w i y u w p
      (record {
        holds = holds_now echo (acts.Answer octets) y u w i;
        frames = record { peers = refl; out = refl };
        peers = refl;
        totals = refl;
        out = refl;
        name = refl;
        events = refl;
        means = (refl, refl);
        called = refl;
        conn = refl;
        packets = refl;
        member = (shows_now echo (acts.Answer octets) y u w i).member;
        unanswered = (shows_now echo (acts.Answer octets) y u w i).unanswered;
        standing = (shows_now echo (acts.Answer octets) y u w i).standing;
        minds = minds_now echo (acts.Answer octets) y u w i;
        others = λ d q call other there minds. minds;
        told = told_now echo (acts.Answer octets) y u w i;
      }),
)

-- ---- a bind

pub grouped : (asked : ℕ) (y : Player) (u : Played) → lived.Means (acts.Group asked) y u y (record u { unanswered = Bind asked })
grouped asked y u = (
  refl,
  λ echo w i.
      let p = i.hand.peer in
      acted echo (acts.Group asked) y u w i y (record u { unanswered = Bind asked }) w (awaiting p (Bind asked))
      (record {
        holds = holds_now echo (acts.Group asked) y u w i;
        frames = record { peers = refl; out = refl };
        peers = refl;
        totals = refl;
        out = refl;
        name = refl;
        events = refl;
        means = (refl, refl);
        called = refl;
        conn = refl;
        packets = refl;
        member = (shows_now echo (acts.Group asked) y u w i).member;
        unanswered = refl;
        standing = (shows_now echo (acts.Group asked) y u w i).standing;
        minds = λ m k kept member unanswered is. absurd (cc);
        others = λ d q call other there minds. minds;
        told = λ reply m k told member unanswered. absurd (cc);
      }),
)

-- ---- a request

pub of_member_is : (o : Option Member) (m : Member) (P : Member → Type 0) → o ≡ Some m → P m → OfMember o P
of_member_is o m P e p = subst (λ (z : Option Member). OfMember z P) (sym e) p

pub of_call_is : (o : Option Member) (x : Unanswered) (m : Member) (k : ℕ) (P : ℕ → ℕ → Type 0) → o ≡ Some m → x ≡ Call k → P m.group k → OfCall o x P
of_call_is o x m k P e f p = subst (λ (z : Option Member). OfCall z x P) (sym e) (subst (λ (z : Unanswered). OfCall (Some m) z P) (sym f) p)

module _ (j : Joined) (iface : ℕ) (y : Player) (u : Played) (m : Member) (is : u.member ≡ Some m) where
  pub known_here : IsMidway (Did (acts.Call j iface)) y u → Known y.realm (λ w. is_open (journal w m.group) m.number ≡ true)
  known_here k = (k.0, k.1, holds_now k.0 (acts.Call j iface) y u k.1 k.2, open_now k.0 (acts.Call j iface) y u k.1 k.2 m is)

  pub low_here : IsMidway (Did (acts.Call j iface)) y u → 1 ≤ m.group
  low_here k = low_now k.0 (acts.Call j iface) y u k.1 k.2 m is

  pub refused : (realm : Realm) (status : Status) → Moves y.realm (RequestsIn m j iface (requested.Refused status)) realm
      → lived.Means (acts.Call j iface) y u (record y { realm = realm }) (record u { unanswered = Refused status })
  refused realm status moves = (
    refl,
    λ echo w i.
        let p = i.hand.peer in
        let r = moves echo w (holds_now echo (acts.Call j iface) y u w i) in
        let as_ = as_now echo (acts.Call j iface) y u w i m is in
        acted echo (acts.Call j iface) y u w i (record y { realm = realm }) (record u { unanswered = Refused status }) r.0 (awaiting p (Refused status))
        (record {
          holds = r.3;
          frames = r.2;
          peers = refl;
          totals = refl;
          out = refl;
          name = refl;
          events = refl;
          means = of_member_is p.member m (λ (n : Member). Requests (service_of echo) w p j iface n (awaiting p (Refused status)) r.0) as_.member (inl (status, r.1.0, refl, r.1.1));
          called = refl;
          conn = refl;
          packets = refl;
          member = (shows_now echo (acts.Call j iface) y u w i).member;
          unanswered = refl;
          standing = (shows_now echo (acts.Call j iface) y u w i).standing;
          minds = λ n k kept member unanswered e. absurd (cc);
          others =
              others_spared echo w r.0 i.was.name i.hand.coheres (sound_of echo realm r.0 r.3) (all_same no_call no_call w r.0 (ap (λ (z : World Services). z.groups) r.1.1));
          told = λ reply n k told member unanswered. absurd (cc);
        }),
  )

  -- it is accepted, and cancelled where it was marked
  pub known_between : (between : Realm) (k : ℕ) (a : Asked) → Moves y.realm (RequestsIn m j iface (requested.Accepted k a)) between → IsMidway (Did (acts.Call j iface)) y u → Known between (λ w. ⊤)
  known_between between k a accepts q = let r = accepts q.0 q.1 (holds_now q.0 (acts.Call j iface) y u q.1 q.2) in (q.0, r.0, r.3, tt)

  module _ (between realm : Realm) (k : ℕ) (a : Asked) (told : Option Reply) (accepts : Moves y.realm (RequestsIn m j iface (requested.Accepted k a)) between)
      (marks : Moves between (MarksAs j.cancel m k told) realm) where
    abbrev kept : Kept
    kept = record { asked = a; cookies = None; orphaned = false }

    pub accepted : lived.Means (acts.Call j iface) y u (record y { realm = realm; told = told }) (record u { unanswered = Call k; call = Some kept })
    accepted = (
      refl,
      λ echo w i.
          let p = i.hand.peer in
          let r = accepts echo w (holds_now echo (acts.Call j iface) y u w i) in
          let v = r.0 in
          let q = marks echo v r.3 in
          let b = q.0 in
          let g = m.group in
          let as_ = as_now echo (acts.Call j iface) y u w i m is in
          let low = low_now echo (acts.Call j iface) y u w i m is in
          let sound_w = sound_of echo y.realm w (holds_now echo (acts.Call j iface) y u w i) in
          let sound = sound_of echo realm b q.3 in
          let to_v = accepting w v g k (asked_as m.number (request j iface) r.1.slots) r.1.accepts in
          let to_b = marking j.cancel v b g k q.1.0 in
          let fresh : is_orphaned (journal w g) k ≡ false = fresh_unorphaned (journal w g) k ((sound_w g low).legal) r.1.accepts.1.1 in
          let orphaned : false ≡ is_orphaned (journal b g) k =
          sym (same_orphaned (no_call g) (no_call g) (past_of v g) (past_of b g) (home_of b g) (home_of v g) k (to_b g) (λ o. o)
          ∙ same_orphaned (no_call g) (no_call g) (past_of w g) (past_of v g) (home_of v g) (home_of w g) k (to_v g) (λ o. o) ∙ fresh) in
          let call : KeepsCall echo (journal b g) k kept =
          record {
            asked = asked_grows (home_of v g) (home_of b g) k a (past_of v g) (past_of b g) (grown (no_call g) (no_call g) (past_of v g) (past_of b g) (to_b g)) ((sound g low).legal) r.1.asked;
            is_request = r.1.is_request;
            cookies = tt;
            orphaned = orphaned;
          } in
          acted echo (acts.Call j iface) y u w i (record y { realm = realm; told = told }) (record u { unanswered = Call k; call = Some kept }) b (awaiting p (Call k))
          (record {
            holds = q.3;
            frames = record { peers = q.2.peers ∙ r.2.peers; out = q.2.out ∙ r.2.out };
            peers = refl;
            totals = refl;
            out = refl;
            name = refl;
            events = refl;
            means =
                of_member_is p.member m (λ (n : Member). Requests (service_of echo) w p j iface n (awaiting p (Call k)) b) as_.member
                (inr (k, record { slots = r.1.slots; has = r.1.has; accepted = v; accepts = r.1.accepts; marked = q.1.0 }, refl));
            called = refl;
            conn = refl;
            packets = refl;
            member = (shows_now echo (acts.Call j iface) y u w i).member;
            unanswered = refl;
            standing = (shows_now echo (acts.Call j iface) y u w i).standing;
            minds = λ n l other member unanswered e.
                let same : m ≡ n = some_is m n (sym as_.member ∙ member) in
                let number : k ≡ l = (let f : Call k ≡ Call l = unanswered in cc) in
                let own : kept ≡ other = some_is kept other e in
                subst (λ (z : Member). KeepsCall echo (journal b z.group) l other) same (subst (λ (x : ℕ). KeepsCall echo (journal b g) x other) number (subst (λ (x : Kept). KeepsCall echo (journal b g) k x) own call));
            others = others_spared echo w b i.was.name i.hand.coheres sound (both_spare no_call no_call w v b to_v to_b);
            told = λ reply n l e member unanswered.
                let same : m ≡ n = some_is m n (sym as_.member ∙ member) in
                let number : k ≡ l = (let f : Call k ≡ Call l = unanswered in cc) in
                subst (λ (z : Member). replies (journal b z.group) l ≡ reply) same (subst (λ (x : ℕ). replies (journal b g) x ≡ reply) number (q.1.1 reply e));
          }),
    )
