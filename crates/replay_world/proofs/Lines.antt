-- The lines of a script keep what holds at each moment.
use Rattle.std.proofs.Common.{◌≡◌, ◌≢◌, ℕ, true, Option, Some, None, List, [], refl, sym, ap, subst, ◌∙◌, append-nil, inl, inr}
use Rattle.std.specs.List.{find}
use Rattle.std.proofs.lemmas.Bool.Decides.{eqb_tells}
use Rattle.handle_model.specs.declared.entry.Entry.TheVariants.{End}
use Rattle.handle_model.specs.Journal.{has_joined}
use Rattle.group_core.specs.declared.answer.Taking.{Taking}
use Rattle.group_core.specs.Calls.{Takes}
use Rattle.conn_asks.specs.States.{ConnState}
use Rattle.conn_histories.specs.Requests.{ids_of}
use Rattle.replay_world.specs.declared.peer.Member.{Member}
use Rattle.replay_world.specs.declared.peer.Standing.TheVariants.{Open, Lost}
use Rattle.replay_world.specs.declared.peer.Unanswered.TheVariants.{Call}
use Rattle.replay_world.specs.Services.{Service}
use Rattle.replay_world.specs.Worlds.{Peer, Printed, World, booted, is_named, opened_peer, peer_at, with_peer, home_of, past_of, journal, printing}
use Rattle.replay_world.specs.Groups.{GoesOn}
use Rattle.replay_world.specs.Plays.{Opens, Ends, Loses, lost}
use Rattle.replay_world.specs.Moments.{AreSound, IsAs, IsCallOf, Coheres}
use Rattle.replay_world.proofs.Peers.{put_found, put_others}
use Rattle.replay_world.proofs.Pasts.{joined_grows, open_by, open_unleft}
use Rattle.replay_world.proofs.Goes.{Goes, takes_goes, ends_goes}
use Rattle.replay_world.proofs.Keep.{some_is, call_stays, Stays, keeps}
use Rattle.replay_world.proofs.Events.{grown_by, moved, leaves_its, put_back}

-- ---- journals go on

module _ {S : Type 0} (w v : World S) (t : Goes w v) (h : Coheres w) (sound : AreSound v) where
  as_before : (c : ℕ) (p : Peer) (m : Member) → IsAs v c p m → IsAs w c p m
  as_before c p m i = record { there = subst (λ (ps : List Peer). peer_at (record w { peers = ps }) c ≡ Some p) t.peers i.there; member = i.member }

  joined : (c : ℕ) (p : Peer) (m : Member) → IsAs w c p m → has_joined (journal v m.group) m.number ≡ true
  joined c p m i = joined_grows (home_of w m.group) (home_of v m.group) m.number (past_of w m.group) (past_of v m.group) (grown_by w v t m.group) (h.joined c p m i)

  pub goes_keeps : Coheres v
  goes_keeps = record {
    grouped = λ c p m i. h.grouped c p m (as_before c p m i);
    joined = λ c p m i. joined c p m (as_before c p m i);
    apart = λ c d p q m i k. h.apart c d p q m (as_before c p m i) (as_before d q m k);
    here =
        λ c p m i o. open_by (home_of v m.group) m.number (past_of v m.group) (joined c p m (as_before c p m i))
        ((t.pasts m.group).quiet m.number ∙ open_unleft (home_of w m.group) m.number (past_of w m.group) (h.here c p m (as_before c p m i) o));
    calls = λ c k p m i u. call_stays w v m k (h.grouped c p m (as_before c p m i)) sound (grown_by w v t m.group) (h.calls c k p m (as_before c p m i) u);
  }

pub takes_keep : (service : Service) (w v : World service.State) (g k : ℕ) (r : Taking) → AreSound v → GoesOn (λ old new. Takes old k r new) w g v → Coheres w → Coheres v
takes_keep service w v g k r sound t h = goes_keeps w v (takes_goes w v g k r t) h sound

-- what the desks keep has no part in it
goes_with : {S : Type 0} (w v : World S) (desks : S) → Goes (record w { desks = desks }) v → Goes w v
goes_with w v desks t = record { boot = t.boot; peers = t.peers; pasts = t.pasts }

pub ends_keep : (service : Service) (w v : World service.State) (m : Member) (k : ℕ) → AreSound v → Ends service w m k v → Coheres w → Coheres v
ends_keep service w v m k sound t h =
    goes_keeps w v (goes_with w v t.desks (ends_goes service (record w { desks = t.desks }) v m.group k t.results t.said t.settles)) h sound

-- ---- a connection is lost

printed_nothing : {S : Type 0} (x : World S) → printing x [] ≡ x
printed_nothing x = λ i. record x { out = append-nil x.out i }

pub loses_keep : (service : Service) (c : ℕ) (w v : World service.State) (p : Peer) → AreSound v → peer_at w c ≡ Some p → Loses service w p v → Coheres w → Coheres v
loses_keep service c w v p sound was t h =
    let u : World service.State = t.0 in
    let q : Peer = lost service p in
    let changes = leaves_its service w u c p q p.member h was refl refl refl (λ e. absurd (cc)) (λ k e. e) t.1 in
    let on : AreSound u → Coheres (put_back w u c p q []) =
    λ s. keeps w (put_back w u c p q []) c p q
    (record { moves = moved w u c p q [] was changes.name changes.peers changes.grows; member = changes.member; open_ = changes.open_; call = changes.call; left = changes.left }) h s in
    subst (λ (z : World service.State). AreSound z → Coheres z) (sym t.2)
    (λ s. subst (λ (z : World service.State). Coheres z) (printed_nothing (with_peer u q)) (on s)) sound

-- ---- a connection is opened

module _ {S : Type 0} (w : World S) (c : ℕ) (q : Peer) (name : q.name ≡ c) (none : q.member ≡ None) (new : peer_at w c ≡ None) (h : Coheres w) (sound : AreSound w) where
  opened_before : (d : ℕ) (x : Peer) (m : Member) → IsAs (with_peer w q) d x m → IsAs w d x m
  opened_before d x m i =
      elim (eqb_tells d c) [
        | inl e ↦
            let found : peer_at (with_peer w q) c ≡ Some q = subst (λ (n : ℕ). peer_at (with_peer w q) n ≡ Some q) name (put_found q w.peers) in
            let there : peer_at (with_peer w q) c ≡ Some x = subst (λ (n : ℕ). peer_at (with_peer w q) n ≡ Some x) e.1 i.there in
            let one : x ≡ q = some_is x q (sym there ∙ found) in
            let some : q.member ≡ Some m = ap (λ (z : Peer). z.member) (sym one) ∙ i.member in
            absurd (cc (some, none))
        | inr e ↦ record { there = sym (put_others d q w.peers (λ f. e.1 (sym f ∙ name))) ∙ i.there; member = i.member }
      ]

  pub opened_keeps : Coheres (with_peer w q)
  opened_keeps = record {
    grouped = λ d x m i. h.grouped d x m (opened_before d x m i);
    joined = λ d x m i. h.joined d x m (opened_before d x m i);
    apart = λ d e x y m i k. h.apart d e x y m (opened_before d x m i) (opened_before e y m k);
    here = λ d x m i o. h.here d x m (opened_before d x m i) o;
    calls = λ d k x m i u. h.calls d k x m (opened_before d x m i) u;
  }

pub opens_keep : (service : Service) (c : ℕ) (w v : World service.State) → AreSound v → Opens service c w v → Coheres w → Coheres v
opens_keep service c w v sound t h =
    subst (λ (z : World service.State). AreSound z → Coheres z) (sym t.1)
    (λ s. opened_keeps w c (opened_peer (ids_of service.tables) c) refl refl t.0 h s) sound

-- ---- nothing was played

none_found : (c : ℕ) (p : Peer) → find (is_named c) [] ≡ Some p → ⊥
none_found c p e = absurd (cc)

pub starts : (service : Service) (boot : ℕ) → Coheres (booted boot service.start)
starts service boot = record {
  grouped = λ c p m i. absurd (none_found c p i.there);
  joined = λ c p m i. absurd (none_found c p i.there);
  apart = λ c d p q m i k. absurd (none_found c p i.there);
  here = λ c p m i o. absurd (none_found c p i.there);
  calls = λ c k p m i u. absurd (none_found c p i.there);
}
