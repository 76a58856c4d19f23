-- Connections are taken in hand, put back and opened.
use Rattle.std.proofs.Common.{◌≡◌, ◌≢◌, ℕ, true, false, Option, Some, None, List, [], ◌∷◌, filter, refl, sym, ap, subst, ◌∙◌, inl, inr}
use Rattle.std.specs.List.{find}
use Rattle.std.proofs.lemmas.Bool.Decides.{eqb_tells}
use Rattle.ndr_table.specs.Tables.{TableForm}
use Rattle.rpc_base.specs.declared.identifiers.SyntaxId.{SyntaxId}
use Rattle.handle_model.specs.declared.reply.Reply.{Reply}
use Rattle.desk_counts.specs.Numbers.{none_yet}
use Rattle.conn_histories.specs.Requests.{ids_of}
use Rattle.manager_api.specs.Served.{tables_in}
use Rattle.desk_service.specs.Start.{at_start}
use Rattle.desk_service.specs.State.{Services, tables_with}
use Rattle.replay_world.specs.Worlds.{Peer, World, booted, is_named, put_peer, peer_at, with_peer, opened_peer}
use Rattle.replay_world.specs.Plays.{Opens}
use Rattle.replay_world.specs.Printing.{out_text}
use Rattle.replay_world.specs.Counting.{CountAll}
use Rattle.replay_groups.specs.Service.{service_of}
use Rattle.replay_world.specs.Moments.{AreSound, Coheres}
use Rattle.replay_world.proofs.Keep.{some_is}
use Rattle.replay_world.proofs.Peers.{found_name, put_found, put_others}
use Rattle.replay_world.proofs.Lines.{starts, opens_keep}
use Rattle.replay_events.specs.declared.played.Kept.{Kept}
use Rattle.replay_events.specs.declared.played.Played.{Played}
use Rattle.replay_events.specs.Showing.{Shows}
use Rattle.replay_events.specs.Tables.{has_name, has_other_name, placed, ShowAll, ShowOthers, TakesOut, Takes, Finds}
use Rattle.replay_events.proofs.Totals.{totals_open}
use Rattle.replay_groups.specs.declared.realm.Realm.{Realm}
use Rattle.replay_groups.specs.Holding.{Holds}
use Rattle.replay_events.specs.declared.player.Player.{Player}
use Rattle.replay_events.specs.Standing.{Minds, Stands, Handles}
use Rattle.replay_events.specs.Hands.{Picks, PutsBack, HasName, OpensIn, OpensAs, Plays}
use Rattle.replay_events.proofs.Minding.{sound_of}
use Rattle.replay_events.proofs.Tables.{find_other, find_placed, find_self, put_same}

nothing_printed : out_text [] ≡ []
unfolding out_text
nothing_printed = refl

-- ---- taken in hand

pub picks_none : (c : ℕ) (x y : Player) → y ≡ record x { peers = y.peers; told = None } → TakesOut c x.peers None y.peers
    → ((ps : List Peer) → ShowAll x.peers ps → Takes c ps None y.peers) → Picks c x None y
picks_none c x y is out shown echo w h =
    let r = shown w.peers h.shown in (
      r.0,
      record {
        holds = subst (λ (z : Player). Holds echo z.realm w) (sym is) h.holds;
        coheres = h.coheres;
        shown = r.1;
        minds = λ d p t there found. h.minds d p t there (ap (λ (ts : List Played). find (has_name d) ts) (sym out.1) ∙ found);
        totals = subst (λ (z : Player). CountAll w.peers z.totals) (sym is) h.totals;
        printed = ap (λ (z : Player). z.out.items) is ∙ h.printed;
        fit = h.fit;
      },
    )

found_named : (c : ℕ) (ts : List Played) (t : Played) → find (has_name c) ts ≡ Some t → t.name ≡ c
found_named c [] t e = absurd (cc)
found_named c (s ∷ ts) t e =
    elim (eqb_tells s.name c) [
      | inl y ↦ let one : s ≡ t = cc (rw y.0 at e) in ap (λ (z : Played). z.name) (sym one) ∙ y.1
      | inr n ↦ found_named c ts t (rw n.0 at e)
    ]

pub picks_one : (c : ℕ) (x y : Player) (t : Played) → y ≡ record x { peers = y.peers; told = None } → TakesOut c x.peers (Some t) y.peers
    → ((ps : List Peer) → ShowAll x.peers ps → Takes c ps (Some t) y.peers) → Picks c x (Some t) y
picks_one c x y t is out shown =
    let named : t.name ≡ c = found_named c x.peers t out.0 in (
      named,
      λ echo w h.
          let r = shown w.peers h.shown in
          record {
            holds = subst (λ (z : Player). Holds echo z.realm w) (sym is) h.holds;
            coheres = h.coheres;
            peer = r.0;
            there = subst (λ (n : ℕ). peer_at w n ≡ Some r.0) (sym named) r.1;
            shows = r.2;
            minds = h.minds c r.0 t r.1 out.0;
            told = λ reply m k told member unanswered. let none : y.told ≡ None = ap (λ (z : Player). z.told) is in absurd (cc (none, told));
            others = subst (λ (n : ℕ). ShowOthers n y.peers w.peers) (sym named) r.3;
            minds_others =
                λ d p s other there found.
                let apart : d ≢ c = λ e. other (e ∙ sym named) in
                h.minds d p s there (sym (find_other d c x.peers apart) ∙ ap (λ (ts : List Played). find (has_name d) ts) (sym out.1) ∙ found);
            totals = subst (λ (z : Player). CountAll w.peers z.totals) (sym is) h.totals;
            printed = ap (λ (z : Player). z.out.items) is ∙ h.printed;
            fit = h.fit;
          },
    )

pub picks : (c : ℕ) (x y : Player) (o : Option Played) → y ≡ record x { peers = y.peers; told = None } → TakesOut c x.peers o y.peers → ((ps : List Peer) → ShowAll x.peers ps → Takes c ps o y.peers)
    → Picks c x o y
picks c x y None is out shown = picks_none c x y is out shown
picks c x y (Some t) is out shown = picks_one c x y t is out shown

-- ---- put back

-- what is kept of calls, where the connection that was put has the name
put_minds : (echo : Option TableForm) (w : World Services) (t : Played) (ts new : List Played) (q : Peer) → peer_at w t.name ≡ Some q → new ≡ placed t ts → find (has_name t.name) new ≡ Some t
    → Minds echo w q t.call → ((d : ℕ) (p : Peer) (s : Played) → d ≢ t.name → peer_at w d ≡ Some p → find (has_name d) ts ≡ Some s → Minds echo w p s.call)
    → (d : ℕ) (p : Peer) (s : Played) → peer_at w d ≡ Some p → find (has_name d) new ≡ Some s → Minds echo w p s.call
put_minds echo w t ts new q there is here own others d p s at found =
    elim (eqb_tells d t.name) [
      | inl e ↦
          let one : q ≡ p = some_is q p (sym there ∙ sym (ap (peer_at w) e.1) ∙ at) in
          let two : t ≡ s = some_is t s (sym here ∙ sym (ap (λ (n : ℕ). find (has_name n) new) e.1) ∙ found) in
          subst (λ (z : Peer). Minds echo w z s.call) one (subst (λ (z : Played). Minds echo w q z.call) two own)
      | inr e ↦ others d p s e.1 at (sym (find_placed d t ts e.1) ∙ ap (λ (l : List Played). find (has_name d) l) (sym is) ∙ found)
    ]

pub puts_back : (x y : Player) (t : Played) → y ≡ record x { peers = y.peers } → y.peers ≡ placed t x.peers
    → ((ps : List Peer) (p : Peer) → ShowOthers p.name x.peers ps → Shows t p → ShowAll y.peers (put_peer p ps)) → PutsBack x t y
puts_back x y t is list back echo w h =
    let q = h.peer in
    let same : put_peer q w.peers ≡ w.peers = put_same 0 w.peers q h.others.show.rise (subst (λ (n : ℕ). find (is_named n) w.peers ≡ Some q) h.shows.name h.there) in
    record {
      holds = subst (λ (z : Player). Holds echo z.realm w) (sym is) h.holds;
      coheres = h.coheres;
      shown = subst (λ (ps : List Peer). ShowAll y.peers ps) same (back w.peers q (subst (λ (n : ℕ). ShowOthers n x.peers w.peers) h.shows.name h.others) h.shows);
      minds = put_minds echo w t x.peers y.peers q h.there list (ap (λ (l : List Played). find (has_name t.name) l) list ∙ find_self t x.peers) h.minds h.minds_others;
      totals = subst (λ (z : Player). CountAll w.peers z.totals) (sym is) h.totals;
      printed = ap (λ (z : Player). z.out.items) is ∙ h.printed;
      fit = h.fit;
    }

-- ---- opened

module _ (c : ℕ) (x y : Player) (t : Played) (is : y ≡ record x { peers = y.peers }) (list : y.peers ≡ placed t x.peers)
    (fresh : (ps : List Peer) (p : Peer) → ShowAll x.peers ps → find (is_named p.name) ps ≡ None → Shows t p → ShowAll y.peers (put_peer p ps)) where
  opened : (echo : Option TableForm) (w : World Services) → Stands echo x w → peer_at w c ≡ None → Shows t (opened_peer (ids_of (tables_with echo)) c)
      → Stands echo y (with_peer w (opened_peer (ids_of (tables_with echo)) c))
  opened echo w h none shows =
      let q : Peer = opened_peer (ids_of (tables_with echo)) c in
      let v : World Services = with_peer w q in
      let holds : Holds echo y.realm v = subst (λ (z : Player). Holds echo z.realm v) (sym is)
      (record { keeps = h.holds.keeps; boot = h.holds.boot; desks = h.holds.desks; echo_is = h.holds.echo_is; tables = h.holds.tables }) in
      let named : t.name ≡ c = shows.name in
      record {
        holds = holds;
        coheres = opens_keep (service_of echo) c w v (sound_of echo y.realm v holds) (none, refl) h.coheres;
        shown = fresh w.peers q h.shown none shows;
        minds =
            put_minds echo v t x.peers y.peers q (subst (λ (n : ℕ). peer_at v n ≡ Some q) (sym named) (put_found q w.peers)) list
            (ap (λ (l : List Played). find (has_name t.name) l) list ∙ find_self t x.peers) (λ m k kept member unanswered e. absurd (cc))
            (λ d p s other at found. h.minds d p s (sym (put_others d q w.peers (λ e. other (sym e ∙ sym named))) ∙ at) found);
        totals = subst (λ (z : Player). CountAll v.peers z.totals) (sym is) (totals_open w.peers q x.totals none refl h.totals);
        printed = ap (λ (z : Player). z.out.items) is ∙ h.printed;
        fit = h.fit;
      }

  pub opens : (ids : List SyntaxId) → ids ≡ ids_of (tables_in x.realm.served) → Shows t (opened_peer ids c) → HasName c x.peers false → Plays (OpensIn c) x y
  opens ids are shows none echo w h =
      let ids_are : ids ≡ ids_of (tables_with echo) = are ∙ ap ids_of h.holds.tables in
      let free = none w.peers h.shown in (
        with_peer w (opened_peer (ids_of (tables_with echo)) c),
        (free, refl),
        opened echo w h free (subst (λ (l : List SyntaxId). Shows t (opened_peer l c)) ids_are shows),
      )

pub not_opened : (c : ℕ) (x : Player) → HasName c x.peers true → OpensAs c false x x
not_opened c x has = (refl, λ echo w h. has w.peers h.shown)

-- ---- whether there is one

pub has_one : (c : ℕ) (ts : List Played) (t : Played) → ((ps : List Peer) → ShowAll ts ps → Finds c ps (Some t)) → HasName c ts true
has_one c ts t found ps show = let r = found ps show in (r.0, r.1)

pub has_none : (c : ℕ) (ts : List Played) → ((ps : List Peer) → ShowAll ts ps → Finds c ps None) → HasName c ts false
has_none c ts found = found

-- ---- the first moment

pub begins : (echo : Option TableForm) (x : Player) (boot : ℕ) → Holds echo x.realm (booted boot (at_start echo)) → ShowAll x.peers [] → x.totals ≡ none_yet → x.out.items ≡ []
    → Stands echo x (booted boot (at_start echo))
begins echo x boot holds shown totals out = record {
  holds = holds;
  coheres = starts (service_of echo) boot;
  shown = shown;
  minds = λ c p t there found. absurd (cc (there));
  totals = totals;
  printed = out ∙ sym nothing_printed;
  fit = tt;
}
