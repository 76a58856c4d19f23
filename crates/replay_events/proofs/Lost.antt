-- The connection in hand is lost.
use Rattle.std.proofs.Common.{◌≡◌, ◌≢◌, ℕ, Option, Some, None, List, refl, sym, ap, subst, ◌∙◌}
use Rattle.std.specs.List.{find, AllByRecursion}
use Rattle.ndr_table.specs.Tables.{TableForm}
use Rattle.desk_service.specs.State.{Services}
use Rattle.handle_model.specs.Journal.{is_open}
use Rattle.replay_world.specs.declared.peer.Member.{Member}
use Rattle.replay_world.specs.declared.peer.Standing.TheVariants.{Open, Lost}
use Rattle.replay_world.specs.Worlds.{Peer, World, is_named, put_peer, peer_at, with_peer, journal}
use Rattle.replay_world.specs.Events.{LeavesIts}
use Rattle.replay_world.specs.Plays.{Loses, lost}
use Rattle.replay_world.specs.Printing.{out_text}
use Rattle.replay_world.specs.Counting.{CountAll}
use Rattle.replay_world.specs.Answered.{FitsPrinted}
use Rattle.replay_groups.specs.Service.{service_of}
use Rattle.replay_world.proofs.Lines.{loses_keep}
use Rattle.replay_world.proofs.Peers.{put_found, put_others}
use Rattle.replay_events.specs.declared.played.Played.{Played}
use Rattle.replay_events.specs.Showing.{Shows}
use Rattle.replay_events.specs.Tables.{ShowOthers}
use Rattle.replay_events.proofs.Totals.{totals_stay}
use Rattle.replay_groups.specs.declared.realm.Realm.{Realm}
use Rattle.replay_groups.specs.Holding.{Holds, Moves}
use Rattle.replay_events.specs.declared.player.Player.{Player}
use Rattle.replay_events.specs.Standing.{Handles}
use Rattle.replay_events.specs.Hands.{IsInHand, Leads, LosesIn}
use Rattle.replay_events.specs.Marked.{IsHere}
use Rattle.replay_events.proofs.Spared.{no_call, leaving}
use Rattle.replay_events.proofs.Minding.{sound_of, minds_kept, none_of_none, others_spared}
use Rattle.replay_events.proofs.Tables.{others_stay}

module _ (x : Player) (t : Played) where
  here_as : (o : Option Member) → t.member ≡ o → t.standing ≡ Open → IsInHand x t → IsHere x.realm o
  here_as None e open_ q = tt
  here_as (Some m) e open_ q = (
    q.0,
    q.1,
    q.2.holds,
    q.2.coheres.here t.name q.2.peer m (record { there = q.2.there; member = sym q.2.shows.member ∙ e }) (sym q.2.shows.standing ∙ open_),
  )

  pub here_in_hand : t.standing ≡ Open → IsInHand x t → IsHere x.realm t.member
  here_in_hand open_ q = here_as t.member refl open_ q

  pub loses : (realm : Realm) → Moves x.realm (λ echo w v. LeavesIts (service_of echo) t.member w v) realm
      → Leads (LosesIn t.name) x t (record x { realm = realm; told = None }) (record t { standing = Lost })
  loses realm moves = (
    refl,
    λ echo w h.
        let p = h.peer in
        let q : Peer = lost (service_of echo) p in
        let r = moves echo w h.holds in
        let u = r.0 in
        let v : World Services = with_peer u q in
        let leaves : LeavesIts (service_of echo) p.member w u = subst (λ (o : Option Member). LeavesIts (service_of echo) o w u) h.shows.member r.1 in
        let are : Loses (service_of echo) w p v = (u, leaves, refl) in
        let sound_u = sound_of echo realm u r.3 in
        let holds : Holds echo realm v = record { keeps = r.3.keeps; boot = r.3.boot; desks = r.3.desks; echo_is = r.3.echo_is; tables = r.3.tables } in
        let spares = leaving (service_of echo) p.member w u leaves in
        let others = others_spared echo w u t.name h.coheres sound_u spares in
        let named : q.name ≡ t.name = sym h.shows.name in
        let shows : Shows (record t { standing = Lost }) q =
        record {
          name = h.shows.name;
          member = h.shows.member;
          unanswered = h.shows.unanswered;
          standing = refl;
          at_state = h.shows.at_state;
          came = h.shows.came;
          counted = h.shows.counted;
          answered = h.shows.answered;
          numbered = h.shows.numbered;
        } in (
          v,
          (p, h.there, are),
          record {
            holds = holds;
            coheres = loses_keep (service_of echo) t.name w v p (sound_of echo realm v holds) h.there are h.coheres;
            peer = q;
            there = subst (λ (n : ℕ). peer_at v n ≡ Some q) named (put_found q u.peers);
            shows = shows;
            minds = minds_kept echo w u no_call no_call t.name p t.call sound_u h.coheres h.there spares (none_of_none p) (none_of_none p) h.minds;
            told = λ reply m k told member unanswered. absurd (cc);
            others =
                subst (λ (ps : List Peer). ShowOthers t.name x.peers (put_peer q ps)) (sym r.2.peers)
                (others_stay t.name (record t { standing = Lost }) q x.peers w.peers named shows h.others);
            minds_others =
                λ d z s other at found.
                let was : peer_at w d ≡ Some z =
                ap (λ (ps : List Peer). find (is_named d) ps) (sym r.2.peers) ∙ sym (put_others d q u.peers (λ i. other (sym i ∙ named))) ∙ at in
                others d z s.call other was (h.minds_others d z s other was found);
            totals =
                subst (λ (ps : List Peer). CountAll (put_peer q ps) x.totals) (sym r.2.peers)
                (totals_stay w.peers t.name p q x.totals h.others.show.rise h.there named refl h.totals);
            printed = h.printed ∙ ap out_text (sym r.2.out);
            fit = subst (AllByRecursion FitsPrinted) (sym r.2.out) h.fit;
          },
        ),
  )
