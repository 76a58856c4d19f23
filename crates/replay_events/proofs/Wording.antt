-- What a word of the server is to the connection in hand.
use Rattle.std.proofs.Common.{◌≡◌, ℕ, Bool, true, false, Option, Some, None, List, refl, sym, ap, subst, ◌∙◌}
use Rattle.ndr_table.specs.Tables.{TableForm}
use Rattle.rpc_base.specs.declared.identifiers.Status.{Status}
use Rattle.handle_model.specs.declared.reply.Reply.{Reply}
use Rattle.handle_model.specs.declared.reply.Reply.TheVariants.{Never}
use Rattle.handle_model.specs.Replies.{replies}
use Rattle.conn_histories.specs.Histories.{Decision, Event}
use Rattle.conn_histories.specs.Histories.Event.{Decided}
use Rattle.conn_histories.specs.Histories.Decision.{ToGroup, RefuseGroup, Reply as Answer}
use Rattle.conn_histories.specs.Events.{word_of, has_run}
use Rattle.desk_service.specs.State.{Services}
use Rattle.replay_world.specs.declared.peer.Member.{Member}
use Rattle.replay_world.specs.declared.peer.Unanswered.{Unanswered}
use Rattle.replay_world.specs.declared.peer.Unanswered.TheVariants.{Nothing, Bind, Refused, Call}
use Rattle.replay_world.specs.declared.peer.Standing.TheVariants.{Open, Closed}
use Rattle.replay_world.specs.Worlds.{Peer, World, journal}
use Rattle.replay_world.specs.Groups.{member_for, joined}
use Rattle.replay_world.specs.Events.{is_word_due, is_call_over, awaiting, closed, bound, Says, Decides, HappensOn}
use Rattle.replay_groups.specs.Service.{service_of}
use Rattle.replay_groups.specs.declared.binding.BindRefusal.TheVariants as binding
use Rattle.replay_events.specs.declared.played.Played.{Played}
use Rattle.replay_events.specs.Living.{IsPlayed}
use Rattle.replay_groups.specs.declared.realm.Realm.{Realm}
use Rattle.replay_groups.specs.Holding.{Holds, Frames, Moves, BindsIn, Known}
use Rattle.replay_events.specs.declared.player.Player.{Player}
use Rattle.replay_events.specs.Standing.{Minds, IsTold, Handles}
use Rattle.replay_events.specs.Hands.{IsInHand, Leads}
use Rattle.replay_events.specs.Lived.{moment_of, LivedWord, DecidesIn, IsDue}
use Rattle.replay_events.proofs.Spared.{SparesAll, no_call, joining}
use Rattle.replay_events.proofs.Minding.{sound_of, KeepsOthers, others_spared}
use Rattle.replay_events.proofs.Happening.{happened}
use Rattle.replay_events.proofs.Living.{shown_as}
use Rattle.replay_events.proofs.Acting.{quiet_of, of_member_is}
use Rattle.std.proofs.Common.{Ok, Err}
use Rattle.std.specs.Prelude.{⊤}

pub is_played : (x : Player) (t : Played) → IsInHand x t → IsPlayed t
is_played x t q = (q.2.peer, q.2.shows)

pub known_hand : (x : Player) (t : Played) → IsInHand x t → Known x.realm (λ w. ⊤)
known_hand x t q = (q.0, q.1, q.2.holds, tt)

-- a decision: the realm and what is told come first, then the answer, and then the connection is as it says
abbrev pub turned : Player → Realm → Option Reply → Player
turned x realm told = record x { realm = realm; told = told }

record Worded (echo : Option TableForm) (x : Player) (t : Played) (w : World Services) (h : Handles echo x t w) (realm : Realm) (told : Option Reply) (decision : Decision) (u s : Played) (b : World Services)
    (a : Peer) : Type 0 where
  pub holds : Holds echo realm b
  pub frames : Frames w b
  pub name : a.name ≡ h.peer.name
  pub events : a.events ≡ h.peer.events
  pub means : Decides (service_of echo) w h.peer h.peer.unanswered decision a b
  pub called : s.name ≡ u.name
  pub conn : s.conn ≡ u.conn
  pub packets : s.packets ≡ u.packets
  pub member : s.member ≡ a.member
  pub unanswered : s.unanswered ≡ a.unanswered
  pub standing : s.standing ≡ a.standing
  pub minds : Minds echo b a s.call
  pub others : KeepsOthers echo t.name w b
  pub tells : IsTold b a told

module _ (echo : Option TableForm) (x y : Player) (t u : Played) (w : World Services) (h : Handles echo x t w) (realm : Realm) (told : Option Reply) (decision : Decision)
    (l : LivedWord (turned x realm told) t decision y u) where
  worded : (s : Played) (b : World Services) (a : Peer) → t.standing ≡ Open → is_word_due w t.member t.unanswered ≡ true → Worded echo x t w h realm told decision u s b a
      → (v : World Services) × DecidesIn t.name echo w v × Handles echo y s v
  worded s b a open_ due e =
      let d = l.decides h.peer h.shows in
      let event : Event = Decided decision d.0 in
      let r = happened echo x t w h event (moment_of y u) y s b a
      (record {
        is_open = open_;
        lives = d.1;
        holds = subst (λ (z : Player). Holds echo z.realm b) (sym l.player) e.holds;
        frames = e.frames;
        peers = ap (λ (z : Player). z.peers) l.player;
        totals = refl;
        out = refl;
        name = e.name;
        events = e.events;
        means = (quiet_of echo x t w h true due, e.means);
        shows = shown_as u s h.peer a event d.1.state d.1.shows e.called e.conn e.packets e.name e.events e.member e.unanswered e.standing;
        minds = e.minds;
        others = e.others;
        told = subst (λ (o : Option Reply). IsTold b a o) (sym (ap (λ (z : Player). z.told) l.player)) e.tells;
      }) in
      (r.0, (decision, d.0, r.1), r.2)

-- ---- whether a word is due

pub not_due : (x : Player) (t : Played) → t.unanswered ≡ Nothing → IsDue x t false
not_due x t e echo w h = subst (λ (z : Unanswered). is_word_due w t.member z ≡ false) (sym e) refl

pub bind_due : (x : Player) (t : Played) (asked : ℕ) → t.unanswered ≡ Bind asked → IsDue x t true
bind_due x t asked e echo w h = subst (λ (z : Unanswered). is_word_due w t.member z ≡ true) (sym e) refl

pub refused_due : (x : Player) (t : Played) (status : Status) → t.unanswered ≡ Refused status → IsDue x t true
refused_due x t status e echo w h = subst (λ (z : Unanswered). is_word_due w t.member z ≡ true) (sym e) refl

pub over_due : (x : Player) (t : Played) (k : ℕ) (over : Bool) → t.unanswered ≡ Call k → ((echo : Option TableForm) (w : World Services) → Holds echo x.realm w → is_call_over w t.member k ≡ over) → IsDue x t over
over_due x t k over e is echo w h = subst (λ (z : Unanswered). is_word_due w t.member z ≡ over) (sym e) (is echo w h.holds)

pub due_as : (x : Player) (t : Played) (a b : Bool) → a ≡ b → IsDue x t a → IsDue x t b
due_as x t a b e due = subst (λ (z : Bool). IsDue x t z) e due

-- ---- a bind

decides_at : (service : Option TableForm) (w b : World Services) (p a : Peer) (x y : Unanswered) (decision : Decision) → x ≡ y → Decides (service_of service) w p y decision a b
    → Decides (service_of service) w p x decision a b
decides_at service w b p a x y decision e d = subst (λ (z : Unanswered). Decides (service_of service) w p z decision a b) (sym e) d

due_bind : (w : World Services) (m : Option Member) (x : Unanswered) (asked : ℕ) → x ≡ Bind asked → is_word_due w m x ≡ true
due_bind w m x asked e = subst (λ (z : Unanswered). is_word_due w m z ≡ true) (sym e) refl

due_refused : (w : World Services) (m : Option Member) (x : Unanswered) (status : Status) → x ≡ Refused status → is_word_due w m x ≡ true
due_refused w m x status e = subst (λ (z : Unanswered). is_word_due w m z ≡ true) (sym e) refl

module _ (x y : Player) (t u : Played) (realm : Realm) (asked : ℕ) (open_ : t.standing ≡ Open) (is : t.unanswered ≡ Bind asked) where
  pub bound_to : (m : Member) → Moves x.realm (BindsIn asked (Ok m)) realm → LivedWord (record x { realm = realm }) t (ToGroup m.group) y u
      → Leads (DecidesIn t.name) x t y (record u { member = Some m; unanswered = Nothing })
  bound_to m moves l = (
    l.name,
    λ echo w h.
        let p = h.peer in
        let r = moves echo w h.holds in
        let spares : SparesAll no_call no_call w r.0 = subst (λ (z : World Services). SparesAll no_call no_call w z) (sym r.1.2) (joining w asked r.1.0) in
        worded echo x y t u w h realm x.told (ToGroup m.group) l (record u { member = Some m; unanswered = Nothing }) r.0 (bound p m) open_ (due_bind w t.member t.unanswered asked is)
        (record {
          holds = r.3;
          frames = r.2;
          name = refl;
          events = refl;
          means =
              decides_at echo w r.0 p (bound p m) p.unanswered (Bind asked) (ToGroup m.group) (sym h.shows.unanswered ∙ is)
              (r.1.0, ap (λ (z : Member). z.group) r.1.1, ap (λ (z : Member). bound p z) r.1.1, r.1.2);
          called = refl;
          conn = refl;
          packets = refl;
          member = refl;
          unanswered = refl;
          standing = (l.decides p h.shows).1.shows.standing;
          minds = λ n k kept member unanswered e. absurd (cc);
          others = others_spared echo w r.0 t.name h.coheres (sound_of echo realm r.0 r.3) spares;
          tells = λ reply n k e member unanswered. absurd (cc);
        }),
  )

  pub nak_said : (reason : ℕ) → Moves x.realm (BindsIn asked (Err (binding.Refused reason))) realm → LivedWord (record x { realm = realm }) t (RefuseGroup reason) y u
      → Leads (DecidesIn t.name) x t y (record u { unanswered = Nothing; standing = Closed })
  nak_said reason moves l = (
    l.name,
    λ echo w h.
        let p = h.peer in
        let r = moves echo w h.holds in
        let back : r.0 ≡ w = r.1.1 in
        worded echo x y t u w h realm x.told (RefuseGroup reason) l (record u { unanswered = Nothing; standing = Closed }) w (closed p) open_ (due_bind w t.member t.unanswered asked is)
        (record {
          holds = subst (λ (z : World Services). Holds echo realm z) back r.3;
          frames = record { peers = refl; out = refl };
          name = refl;
          events = refl;
          means =
              decides_at echo w w p (closed p) p.unanswered (Bind asked) (RefuseGroup reason) (sym h.shows.unanswered ∙ is) (r.1.0, refl, refl);
          called = refl;
          conn = refl;
          packets = refl;
          member = (l.decides p h.shows).1.shows.member;
          unanswered = refl;
          standing = refl;
          minds = λ n k kept member unanswered e. absurd (cc);
          others = λ d q call other there minds. minds;
          tells = λ reply n k e member unanswered. absurd (cc);
        }),
  )

-- ---- a reply

module _ (x y : Player) (t u : Played) (open_ : t.standing ≡ Open) (reply : Reply) (told : Option Reply)
    (l : LivedWord (record x { told = told }) t (Answer (word_of reply) (has_run reply)) y u) where
  abbrev decision : Decision
  decision = Answer (word_of reply) (has_run reply)

  -- where it says what the connection's group says
  said : (echo : Option TableForm) (w : World Services) (h : Handles echo x t w) → is_word_due w t.member t.unanswered ≡ true
      → Decides (service_of echo) w h.peer h.peer.unanswered decision (awaiting h.peer Nothing) w
      → (v : World Services) × DecidesIn t.name echo w v × Handles echo y (record u { unanswered = Nothing }) v
  said echo w h due means =
      let p = h.peer in
      let s = (l.decides p h.shows).1.shows in
      worded echo x y t u w h x.realm told decision l (record u { unanswered = Nothing }) w (awaiting p Nothing) open_ due
      (record {
        holds = h.holds;
        frames = record { peers = refl; out = refl };
        name = refl;
        events = refl;
        means = means;
        called = refl;
        conn = refl;
        packets = refl;
        member = s.member;
        unanswered = refl;
        standing = s.standing;
        minds = λ n k kept member unanswered e. absurd (cc);
        others = λ d q call other there minds. minds;
        tells = λ reply n k e member unanswered. absurd (cc);
      })

  pub said_refused : (status : Status) → reply ≡ Never status → t.unanswered ≡ Refused status → Leads (DecidesIn t.name) x t y (record u { unanswered = Nothing })
  said_refused status e is = (
    l.name,
    λ echo w h.
        let p = h.peer in
        let says : Says (service_of echo) (Never status) p (awaiting p Nothing) decision = (refl, ap (λ (z : Reply). Answer (word_of z) (has_run z)) e) in
        said echo w h (due_refused w t.member t.unanswered status is)
        (decides_at echo w w p (awaiting p Nothing) p.unanswered (Refused status) decision (sym h.shows.unanswered ∙ is) (says, refl)),
  )

  call_due : (w : World Services) (m : Option Member) (a : Unanswered) (k : ℕ) → a ≡ Call k → is_word_due w m a ≡ true → is_call_over w m k ≡ true
  call_due w m a k e due = subst (λ (z : Unanswered). is_word_due w m z ≡ true) e due

  by_member : (echo : Option TableForm) (w : World Services) (h : Handles echo x t w) (k : ℕ) → x.told ≡ Some reply → t.unanswered ≡ Call k → (o : Option Member) → t.member ≡ o → is_call_over w o k ≡ true
      → Decides (service_of echo) w h.peer (Call k) decision (awaiting h.peer Nothing) w
  by_member echo w h k known is None e over = absurd (cc)
  by_member echo w h k known is (Some m) e over =
      let p = h.peer in
      let member : p.member ≡ Some m = sym h.shows.member ∙ e in
      let replied : replies (journal w m.group) k ≡ reply = h.told reply m k known member (sym h.shows.unanswered ∙ is) in (
        of_member_is p.member m (λ (n : Member). Says (service_of echo) (replies (journal w n.group) k) p (awaiting p Nothing) decision) member
            (refl, ap (λ (z : Reply). Answer (word_of z) (has_run z)) (sym replied)),
        refl,
      )

  pub said_call : (k : ℕ) → x.told ≡ Some reply → t.unanswered ≡ Call k → IsDue x t true → Leads (DecidesIn t.name) x t y (record u { unanswered = Nothing })
  said_call k known is due = (
    l.name,
    λ echo w h.
        let p = h.peer in
        let here = due echo w h in
        said echo w h here
        (decides_at echo w w p (awaiting p Nothing) p.unanswered (Call k) decision (sym h.shows.unanswered ∙ is)
        (by_member echo w h k known is t.member refl (call_due w t.member t.unanswered k is here))),
  )
