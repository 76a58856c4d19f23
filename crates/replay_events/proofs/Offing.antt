-- The connection in hand calls its call off, or is closed.
use Rattle.std.proofs.Common.{◌≡◌, ℕ, ◌≤◌, Bool, true, false, ◌||◌, Option, Some, None, List, refl, sym, ap, subst, ◌∙◌}
use Rattle.std.specs.Prelude.{⊤}
use Rattle.ndr_table.specs.Tables.{TableForm}
use Rattle.handle_model.specs.declared.reply.Reply.{Reply}
use Rattle.handle_model.specs.Journal.{Legal, is_open}
use Rattle.handle_model.specs.Replies.{replies}
use Rattle.conn_asks.specs.declared.events.Act.{Act}
use Rattle.conn_asks.specs.declared.events.Act.TheVariants as acts
use Rattle.conn_asks.specs.declared.events.ConnFault.{ConnFault}
use Rattle.conn_histories.specs.Histories.Event.{Did}
use Rattle.desk_service.specs.State.{Services}
use Rattle.replay_world.specs.declared.peer.Member.{Member}
use Rattle.replay_world.specs.declared.peer.Unanswered.TheVariants.{Nothing, Call}
use Rattle.replay_world.specs.declared.peer.Standing.TheVariants.{Closed}
use Rattle.replay_world.specs.Worlds.{Peer, World, past_of, home_of, journal}
use Rattle.replay_world.specs.Groups.{CancelsIn, OrphansIn, taken_with}
use Rattle.replay_world.specs.Events.{awaiting, closed, LeavesIts}
use Rattle.replay_groups.specs.Service.{service_of}
use Rattle.replay_world.proofs.Pasts.{asked_grows}
use Rattle.replay_world.proofs.Keep.{some_is}
use Rattle.replay_events.specs.declared.played.Kept.{Kept}
use Rattle.replay_events.specs.declared.played.Played.{Played}
use Rattle.replay_groups.specs.declared.realm.Realm.{Realm}
use Rattle.replay_groups.specs.Holding.{Moves, Known}
use Rattle.replay_events.specs.declared.player.Player.{Player}
use Rattle.replay_events.specs.Standing.{KeepsRow, KeepsCall, Minds, IsTold}
use Rattle.replay_events.specs.Marked.{TellsReply, CancelsAs, OrphansAs, IsHere, with_orphan}
use Rattle.replay_events.specs.Lived.{Midway, IsMidway}
use Rattle.replay_events.specs.Lived as lived
use Rattle.replay_events.proofs.Sparing.{grown, same_taken}
use Rattle.replay_events.proofs.Spared.{no_call, one_call, cancelling, orphaning, leaving}
use Rattle.replay_events.proofs.Minding.{sound_of, minds_kept, none_of_none, others_spared, others_unorphaned}
use Rattle.replay_events.proofs.Acting.{holds_now, shows_now, minds_now, as_now, open_now, low_now, acted, of_call_is}

-- what is known of a call is known of the connection's
pub told_as : (b : World Services) (p : Peer) (m : Member) (k : ℕ) (told : Option Reply) → p.member ≡ Some m → p.unanswered ≡ Call k → TellsReply b m k told → IsTold b p told
told_as b p m k told member unanswered tells reply n l e is call =
    let same : m ≡ n = some_is m n (sym member ∙ is) in
    let number : k ≡ l = (let f : Call k ≡ Call l = sym unanswered ∙ call in cc) in
    subst (λ (z : Member). replies (journal b z.group) l ≡ reply) same (subst (λ (x : ℕ). replies (journal b m.group) x ≡ reply) number (tells reply e))

-- a call is orphaned, now or before
module _ (echo : Option TableForm) (w b : World Services) (m : Member) (k : ℕ) (now : Bool) (told : Option Reply) (t : OrphansAs m k told now echo w b) where
  call_orphaned : (kept : Kept) → KeepsCall echo (journal w m.group) k kept → Legal (journal b m.group) → KeepsCall echo (journal b m.group) k (record kept { orphaned = now || kept.orphaned })
  call_orphaned kept x legal =
      let g = m.group in
      let spares = orphaning w b g k t.0 g in
      record {
        asked = asked_grows (home_of w g) (home_of b g) k kept.asked (past_of w g) (past_of b g) (grown (no_call g) (one_call g k g) (past_of w g) (past_of b g) spares) legal x.asked;
        is_request = x.is_request;
        cookies =
            subst (λ (o : Option (List (Option ℕ))). KeepsRow kept.cookies kept.asked.slots o)
            (sym (same_taken (no_call g) (one_call g k g) (past_of w g) (past_of b g) k spares (λ o. o))) x.cookies;
        orphaned = ap (λ (z : Bool). now || z) x.orphaned ∙ sym t.2;
      }

  minds_orphaned : (p : Peer) (call : Option Kept) → p.member ≡ Some m → p.unanswered ≡ Call k → Legal (journal b m.group) → Minds echo w p call → Minds echo b p (with_orphan now call)
  minds_orphaned p None member unanswered legal minds n l kept is number e = absurd (cc)
  minds_orphaned p (Some kept) member unanswered legal minds n l other is number e =
      let same : m ≡ n = some_is m n (sym member ∙ is) in
      let one : k ≡ l = (let f : Call k ≡ Call l = sym unanswered ∙ number in cc) in
      let own : record kept { orphaned = now || kept.orphaned } ≡ other = some_is (record kept { orphaned = now || kept.orphaned }) other e in
      subst (λ (z : Member). KeepsCall echo (journal b z.group) l other) same
      (subst (λ (x : ℕ). KeepsCall echo (journal b m.group) x other) one
      (subst (λ (x : Kept). KeepsCall echo (journal b m.group) k x) own (call_orphaned kept (minds m k kept member unanswered refl) legal)))

module _ (y : Player) (u : Played) (m : Member) (k : ℕ) (is : u.member ≡ Some m) (call : u.unanswered ≡ Call k) where
  module _ (id : ℕ) where
    pub known_cancel : IsMidway (Did (acts.Cancel id)) y u → Known y.realm (λ w. ⊤)
    known_cancel q = (q.0, q.1, holds_now q.0 (acts.Cancel id) y u q.1 q.2, tt)

    pub low_cancel : IsMidway (Did (acts.Cancel id)) y u → 1 ≤ m.group
    low_cancel q = low_now q.0 (acts.Cancel id) y u q.1 q.2 m is

    pub known_orphan : IsMidway (Did (acts.Orphan id)) y u → Known y.realm (λ w. ⊤)
    known_orphan q = (q.0, q.1, holds_now q.0 (acts.Orphan id) y u q.1 q.2, tt)

    pub low_orphan : IsMidway (Did (acts.Orphan id)) y u → 1 ≤ m.group
    low_orphan q = low_now q.0 (acts.Orphan id) y u q.1 q.2 m is

    pub cancels : (realm : Realm) (told : Option Reply) → Moves y.realm (CancelsAs m k told) realm → lived.Means (acts.Cancel id) y u (record y { realm = realm; told = told }) u
    cancels realm told moves = (
      refl,
      λ echo w i.
          let p = i.hand.peer in
          let r = moves echo w (holds_now echo (acts.Cancel id) y u w i) in
          let b = r.0 in
          let shows = shows_now echo (acts.Cancel id) y u w i in
          let sound = sound_of echo realm b r.3 in
          let spares = cancelling w b m.group k r.1.0 in
          let member = sym shows.member ∙ is in
          let unanswered = sym shows.unanswered ∙ call in
          acted echo (acts.Cancel id) y u w i (record y { realm = realm; told = told }) u b p
          (record {
            holds = r.3;
            frames = r.2;
            peers = refl;
            totals = refl;
            out = refl;
            name = refl;
            events = refl;
            means = (refl, of_call_is p.member p.unanswered m k (λ g n. CancelsIn w g n b) member unanswered r.1.0);
            called = refl;
            conn = refl;
            packets = refl;
            member = shows.member;
            unanswered = shows.unanswered;
            standing = shows.standing;
            minds = minds_kept echo w b no_call no_call i.was.name p u.call sound i.hand.coheres i.hand.there spares (none_of_none p) (none_of_none p) (minds_now echo (acts.Cancel id) y u w i);
            others = others_spared echo w b i.was.name i.hand.coheres sound spares;
            told = told_as b p m k told member unanswered r.1.1;
          }),
    )

    pub orphans : (realm : Realm) (told : Option Reply) (now : Bool) → Moves y.realm (OrphansAs m k told now) realm
        → lived.Means (acts.Orphan id) y u (record y { realm = realm; told = told }) (record u { call = with_orphan now u.call })
    orphans realm told now moves = (
      refl,
      λ echo w i.
          let p = i.hand.peer in
          let r = moves echo w (holds_now echo (acts.Orphan id) y u w i) in
          let b = r.0 in
          let shows = shows_now echo (acts.Orphan id) y u w i in
          let sound = sound_of echo realm b r.3 in
          let low = low_now echo (acts.Orphan id) y u w i m is in
          let spares = orphaning w b m.group k r.1.0 in
          let as_ = as_now echo (acts.Orphan id) y u w i m is in
          let unanswered = sym shows.unanswered ∙ call in
          acted echo (acts.Orphan id) y u w i (record y { realm = realm; told = told }) (record u { call = with_orphan now u.call }) b p
          (record {
            holds = r.3;
            frames = r.2;
            peers = refl;
            totals = refl;
            out = refl;
            name = refl;
            events = refl;
            means = (refl, of_call_is p.member p.unanswered m k (λ g n. OrphansIn w g n b) as_.member unanswered r.1.0);
            called = refl;
            conn = refl;
            packets = refl;
            member = shows.member;
            unanswered = shows.unanswered;
            standing = shows.standing;
            minds = minds_orphaned echo w b m k now told r.1 p u.call as_.member unanswered ((sound m.group low).legal) (minds_now echo (acts.Orphan id) y u w i);
            others = others_unorphaned echo w b i.was.name i.hand.coheres sound p m k as_ unanswered spares;
            told = told_as b p m k told as_.member unanswered r.1.1;
          }),
    )

-- ---- the connection is closed

module _ (octets : List ℕ) (why : ConnFault) (y : Player) (u : Played) where
  here_as : (o : Option Member) → u.member ≡ o → IsMidway (Did (acts.Close octets why)) y u → IsHere y.realm o
  here_as None e q = tt
  here_as (Some m) e q = (q.0, q.1, holds_now q.0 (acts.Close octets why) y u q.1 q.2, open_now q.0 (acts.Close octets why) y u q.1 q.2 m e)

  pub here_close : IsMidway (Did (acts.Close octets why)) y u → IsHere y.realm u.member
  here_close q = here_as u.member refl q

  pub closes : (realm : Realm) → Moves y.realm (λ echo w v. LeavesIts (service_of echo) u.member w v) realm
      → lived.Means (acts.Close octets why) y u (record y { realm = realm }) (record u { unanswered = Nothing; standing = Closed })
  closes realm moves = (
    refl,
    λ echo w i.
        let p = i.hand.peer in
        let r = moves echo w (holds_now echo (acts.Close octets why) y u w i) in
        let b = r.0 in
        let shows = shows_now echo (acts.Close octets why) y u w i in
        let sound = sound_of echo realm b r.3 in
        acted echo (acts.Close octets why) y u w i (record y { realm = realm }) (record u { unanswered = Nothing; standing = Closed }) b (closed p)
        (record {
          holds = r.3;
          frames = r.2;
          peers = refl;
          totals = refl;
          out = refl;
          name = refl;
          events = refl;
          means = (refl, subst (λ (o : Option Member). LeavesIts (service_of echo) o w b) shows.member r.1);
          called = refl;
          conn = refl;
          packets = refl;
          member = shows.member;
          unanswered = refl;
          standing = refl;
          minds = λ m k kept member unanswered is. absurd (cc);
          others = others_spared echo w b i.was.name i.hand.coheres sound (leaving (service_of echo) u.member w b r.1);
          told = λ reply m k told member unanswered. absurd (cc);
        }),
  )
