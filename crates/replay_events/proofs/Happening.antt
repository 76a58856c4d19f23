-- An event happens on the connection in hand.
use Rattle.std.proofs.Common.{◌≡◌, ◌≢◌, ℕ, ◌+◌, Option, Some, None, List, [], ◌∷◌, ◌++◌, refl, sym, ap, subst, ◌∙◌}
use Rattle.std.specs.List.{find, AllByRecursion}
use Rattle.std.proofs.lemmas.List.Concat.{flat_map-append}
use Rattle.ndr_table.specs.Tables.{TableForm}
use Rattle.desk_counts.specs.Numbers.{Numbers}
use Rattle.conn_asks.specs.States.{ConnState}
use Rattle.conn_histories.specs.Histories.{Event, put}
use Rattle.desk_service.specs.State.{Services}
use Rattle.replay_world.specs.declared.peer.Standing.TheVariants.{Open}
use Rattle.replay_world.specs.Worlds.{Peer, Printed, World, is_named, put_peer, peer_at, with_peer, printing}
use Rattle.replay_world.specs.Printing.{ArePrinted, printed_text, out_text}
use Rattle.replay_world.specs.Counting.{CountAll}
use Rattle.replay_world.specs.Events.{Means, lived, HappensOn}
use Rattle.replay_world.specs.Answered.{FitsPrinted}
use Rattle.replay_groups.specs.Service.{service_of}
use Rattle.replay_world.specs.Moments.{AreSound, Coheres}
use Rattle.replay_world.proofs.Peers.{found_name, put_found, put_others}
use Rattle.replay_world.proofs.Events.{events_keep}
use Rattle.replay_events.specs.declared.played.Played.{Played}
use Rattle.replay_events.specs.Showing.{Shows}
use Rattle.replay_events.specs.Tables.{has_name, ShowOthers}
use Rattle.replay_events.specs.Living.{Moment, Grows, LivesOn}
use Rattle.replay_events.proofs.Totals.{totals_grow}
use Rattle.replay_groups.specs.Holding.{Holds, Frames}
use Rattle.replay_events.specs.declared.player.Player.{Player}
use Rattle.replay_events.specs.Standing.{Minds, IsTold, Handles}
use Rattle.replay_events.specs.Lived.{moment_of}
use Rattle.replay_events.proofs.Minding.{sound_of, KeepsOthers}
use Rattle.replay_events.proofs.Tables.{others_stay}

pub text_more : (a b : List Printed) → out_text (a ++ b) ≡ out_text a ++ out_text b
unfolding out_text
text_more a b = flat_map-append printed_text a b

pub all_fit : (a b : List Printed) → AllByRecursion FitsPrinted a → AllByRecursion FitsPrinted b → AllByRecursion FitsPrinted (a ++ b)
all_fit [] b f g = g
all_fit (p ∷ a) b f g = (f.0, all_fit a b f.1 g)

-- What happened, once the group knows of it: the connection was this before, is that behind it, and the realm's world is b.
pub record Happened (echo : Option TableForm) (x : Player) (t : Played) (w : World Services) (h : Handles echo x t w) (event : Event) (m : Moment) (z : Player) (s : Played) (b : World Services) (a : Peer) : Type 0 where
  pub is_open : t.standing ≡ Open
  pub lives : LivesOn (moment_of x t) h.peer event m
  pub holds : Holds echo z.realm b
  pub frames : Frames w b
  pub peers : z.peers ≡ x.peers
  pub totals : z.totals ≡ m.totals
  pub out : z.out.items ≡ m.out
  pub name : a.name ≡ h.peer.name
  pub events : a.events ≡ h.peer.events
  pub means : Means (service_of echo) w h.peer event a b
  pub shows : Shows s (lived (service_of echo) a event lives.state)
  pub minds : Minds echo b a s.call
  pub others : KeepsOthers echo t.name w b
  pub told : IsTold b a z.told

module _ (echo : Option TableForm) (x : Player) (t : Played) (w : World Services) (h : Handles echo x t w) (event : Event) (m : Moment) (z : Player) (s : Played) (b : World Services) (a : Peer)
    (e : Happened echo x t w h event m z s b a) where
  abbrev after : Peer
  after = lived (service_of echo) a event e.lives.state

  abbrev pub world : World Services
  world = printing (with_peer b after) e.lives.lines

  named : after.name ≡ t.name
  named = e.name ∙ sym h.shows.name

  same_name : s.name ≡ t.name
  same_name = e.shows.name ∙ named

  happens : HappensOn (service_of echo) t.name w event world
  happens = record {
    peer = h.peer;
    there = h.there;
    is_open = sym h.shows.standing ∙ e.is_open;
    state = e.lives.state;
    happens = e.lives.happens;
    after = a;
    between = b;
    means = e.means;
    lines = e.lives.lines;
    printed = subst (λ (n : ℕ). ArePrinted n (put (event ∷ [])) e.lives.lines) (sym h.shows.name) e.lives.printed;
    then_ = refl;
  }

  holds : Holds echo z.realm world
  holds = record { keeps = e.holds.keeps; boot = e.holds.boot; desks = e.holds.desks; echo_is = e.holds.echo_is; tables = e.holds.tables }

  found : (d : ℕ) (p : Peer) → d ≢ t.name → peer_at world d ≡ Some p → peer_at w d ≡ Some p
  found d p n f =
      ap (λ (ps : List Peer). find (is_named d) ps) (sym e.frames.peers) ∙ sym (put_others d after b.peers (λ i. n (sym i ∙ named))) ∙ f

  counted : CountAll world.peers z.totals
  counted =
      let grows : Grows h.peer.events x.totals after.events z.totals =
      subst (λ (l : List Event). Grows h.peer.events x.totals (l ++ event ∷ []) z.totals) (sym e.events)
      (subst (λ (n : Numbers). Grows h.peer.events x.totals (h.peer.events ++ event ∷ []) n) (sym e.totals) e.lives.counts) in
      subst (λ (ps : List Peer). CountAll (put_peer after ps) z.totals) (sym e.frames.peers)
      (totals_grow w.peers t.name h.peer after x.totals z.totals h.others.show.rise h.there named h.totals grows)

  pub handles : Handles echo z s world
  handles = record {
    holds = holds;
    coheres = events_keep (service_of echo) t.name w world event (sound_of echo x.realm w h.holds) (sound_of echo z.realm world holds) happens h.coheres;
    peer = after;
    there = subst (λ (n : ℕ). peer_at world n ≡ Some after) (sym e.shows.name) (put_found after b.peers);
    shows = e.shows;
    minds = e.minds;
    told = e.told;
    others =
        subst (λ (n : ℕ). ShowOthers n z.peers world.peers) (sym same_name)
        (subst (λ (ts : List Played). ShowOthers t.name ts world.peers) (sym e.peers)
        (subst (λ (ps : List Peer). ShowOthers t.name x.peers (put_peer after ps)) (sym e.frames.peers) (others_stay t.name s after x.peers w.peers named e.shows h.others)));
    minds_others =
        λ d p r n there is.
        let apart : d ≢ t.name = λ i. n (i ∙ sym same_name) in
        let was = found d p apart there in
        e.others d p r.call apart was (h.minds_others d p r apart was (ap (λ (ts : List Played). find (has_name d) ts) (sym e.peers) ∙ is));
    totals = counted;
    printed =
        e.out ∙ e.lives.out ∙ ap (λ (l : List ℕ). l ++ out_text e.lives.lines) h.printed ∙ sym (text_more w.out e.lives.lines)
        ∙ ap (λ (l : List Printed). out_text (l ++ e.lives.lines)) (sym e.frames.out);
    fit = all_fit b.out e.lives.lines (subst (AllByRecursion FitsPrinted) (sym e.frames.out) h.fit) e.lives.fit;
  }

  pub happened : (v : World Services) × HappensOn (service_of echo) t.name w event v × Handles echo z s v
  happened = (world, happens, handles)
