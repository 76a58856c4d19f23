-- What is kept beside a connection has no part in what happens to it.
use Rattle.std.proofs.Common.{◌≡◌, Option, List, [], ◌∷◌, ◌++◌, sym, subst, ◌∙◌}
use Rattle.conn_histories.specs.Histories.{Decision, Event}
use Rattle.conn_histories.specs.Histories.Event.{Decided}
use Rattle.conn_asks.specs.States.{ConnState}
use Rattle.conn_core.specs.Fields.{IsAt}
use Rattle.server_counts.specs.Packets.{Stands}
use Rattle.conn_histories.specs.Histories.{stream}
use Rattle.replay_world.specs.Worlds.{Peer}
use Rattle.replay_events.specs.declared.played.Kept.{Kept}
use Rattle.replay_events.specs.declared.played.Played.{Played}
use Rattle.replay_events.specs.Showing.{Shows}
use Rattle.replay_events.specs.Living.{Moment, living, LivesOn, Lives, Decides, IsPlayed}
use Rattle.replay_events.specs.declared.player.Player.{Player}
use Rattle.replay_events.specs.Lived.{moment_of, Lived, LivedWord}

abbrev pub with_call : Played → Option Kept → Played
with_call t call = record t { call = call }

pub recall : (t : Played) (call : Option Kept) (p : Peer) → Shows t p → Shows (with_call t call) p
recall t call p s = record {
  name = s.name;
  member = s.member;
  unanswered = s.unanswered;
  standing = s.standing;
  at_state = s.at_state;
  came = s.came;
  counted = s.counted;
  answered = s.answered;
  numbered = s.numbered;
}

pub played_without : (t : Played) (call : Option Kept) → IsPlayed t → IsPlayed (with_call t call)
played_without t call is = (is.0, recall t call is.0 is.1)

-- the connection is shown where its place, what it waits for and whether it is there are those
pub shown_as : (u s : Played) (p a : Peer) (event : Event) (state : ConnState) → Shows u (living p event state) → s.name ≡ u.name → s.conn ≡ u.conn → s.packets ≡ u.packets → a.name ≡ p.name
    → a.events ≡ p.events → s.member ≡ a.member → s.unanswered ≡ a.unanswered → s.standing ≡ a.standing → Shows s (living a event state)
shown_as u s p a event state x name conn packets named events member unanswered standing =
    let one : living (record p { member = a.member; unanswered = a.unanswered; standing = a.standing }) event state
    ≡ living a event state = λ i. record (living a event state) { name = sym named i; events = sym events i ++ event ∷ [] } in
    subst (λ (z : Peer). Shows s z) one
    (record {
      name = name ∙ x.name;
      member = member;
      unanswered = unanswered;
      standing = standing;
      at_state = subst (λ z. IsAt z state) (sym conn) x.at_state;
      came = x.came;
      counted = subst (λ z. Stands z x.came (stream (living p event state).events)) (sym packets) x.counted;
      answered = x.answered;
      numbered = x.numbered;
    })

lives_on : (x y : Player) (t u : Played) (call call' : Option Kept) (p : Peer) (event : Event)
    → LivesOn (moment_of x (with_call t call)) p event (moment_of y u) → LivesOn (moment_of x t) p event (moment_of y (with_call u call'))
lives_on x y t u call call' p event l = record {
  state = l.state;
  happens = l.happens;
  shows = recall u call' (living p event l.state) l.shows;
  lines = l.lines;
  printed = l.printed;
  fit = l.fit;
  out = l.out;
  counts = l.counts;
}

pub lived : (x y : Player) (t u : Played) (call call' : Option Kept) (event : Event) → IsPlayed t → y ≡ record x { totals = y.totals; out = y.out } → call' ≡ t.call
    → Lives (moment_of x (with_call t call)) event (moment_of y u) → Lived x t event y (with_call u call')
lived x y t u call call' event is player same lives = record {
  player = player;
  name = (lives is.0 (recall t call is.0 is.1)).shows.name ∙ sym is.1.name;
  call = same;
  lives = λ p s. lives_on x y t u call call' p event (lives p (recall t call p s));
}

pub lived_word : (x y : Player) (t u : Played) (call call' : Option Kept) (decision : Decision) → IsPlayed t → y ≡ record x { totals = y.totals; out = y.out } → call' ≡ t.call
    → Decides (moment_of x (with_call t call)) decision (moment_of y u) → LivedWord x t decision y (with_call u call')
lived_word x y t u call call' decision is player same decides =
    let first = decides is.0 (recall t call is.0 is.1) in
    record {
      player = player;
      name = first.1.shows.name ∙ sym is.1.name;
      call = same;
      decides = λ p s. let d = decides p (recall t call p s) in (d.0, lives_on x y t u call call' p (Decided decision d.0) d.1);
    }
