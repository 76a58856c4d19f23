-- Acts and words, one after the other.
use Rattle.std.proofs.Common.{◌≡◌, ℕ, true, false, Option, Some, List, [], ◌∷◌, refl, sym, subst, ◌∙◌}
use Rattle.ndr_table.specs.Tables.{TableForm}
use Rattle.conn_histories.specs.Histories.{Decision, Event}
use Rattle.conn_histories.specs.Histories.Event.{Came, Paused, Did, Decided}
use Rattle.conn_asks.specs.declared.events.Act.{Act}
use Rattle.desk_service.specs.State.{Services}
use Rattle.replay_world.specs.declared.peer.Standing.{Standing}
use Rattle.replay_world.specs.declared.peer.Standing.TheVariants.{Open, Closed, Lost}
use Rattle.replay_world.specs.Worlds.{Peer, World, peer_at}
use Rattle.replay_world.specs.Events.{is_word_due, HappensOn, RestsAt, Rests, HappenOn, GoesOnAt}
use Rattle.replay_groups.specs.Service.{service_of}
use Rattle.replay_events.specs.declared.played.Played.{Played}
use Rattle.replay_events.specs.declared.player.Player.{Player}
use Rattle.replay_events.specs.Standing.{Handles}
use Rattle.replay_events.specs.Hands.{IsInHand, Leads, GoesOnIn}
use Rattle.replay_events.specs.Lived.{Lived, Midway, IsMidway, Means, DecidesIn, StepsIn, IsStep, IsDue}
use Rattle.replay_events.proofs.Acting.{stays, quiet_of}

-- ---- until it rests

abbrev pub Onward : Option TableForm → ℕ → World Services → World Services → Type 0
Onward echo c w v = (z : World Services) → GoesOnAt (service_of echo) c v z → GoesOnAt (service_of echo) c w z

abbrev pub Reaches : Player → Played → Player → Played → Type 0
Reaches x t y u = (u.name ≡ t.name) × ((echo : Option TableForm) (w : World Services) → Handles echo x t w → (v : World Services) × Onward echo t.name w v × Handles echo y u v)

pub reaches_itself : (x : Player) (t : Played) → Reaches x t x t
reaches_itself x t = (refl, λ echo w h. (w, λ z g. g, h))

pub in_hand : (x y : Player) (t u : Played) (R : Option TableForm → World Services → World Services → Type 0) → IsInHand x t → Leads R x t y u → IsInHand y u
in_hand x y t u R q l = let r = l.1 q.0 q.1 q.2 in (q.0, r.0, r.2)

pub one_more : (echo : Option TableForm) (c : ℕ) (w v z : World Services) (event : Event) → IsStep event → HappensOn (service_of echo) c w event v → GoesOnAt (service_of echo) c v z
    → GoesOnAt (service_of echo) c w z
one_more echo c w v z (Came octets) step happens g = absurd step
one_more echo c w v z Paused step happens g = absurd step
one_more echo c w v z (Did act) step happens g = (Did act ∷ g.0, (v, happens, g.1))
one_more echo c w v z (Decided decision octets) step happens g = (Decided decision octets ∷ g.0, (v, happens, g.1))

pub reaches_on : (x y z : Player) (t u s : Played) → Reaches x t y u → Leads (StepsIn u.name true) y u z s → Reaches x t z s
reaches_on x y z t u s far l = (
  l.0 ∙ far.0,
  λ echo w h.
      let r = far.1 echo w h in
      let q = l.1 echo r.0 r.2 in
      let happens = subst (λ (n : ℕ). HappensOn (service_of echo) n r.0 q.1.0 q.0) far.0 q.1.2 in
      (q.0, λ end g. r.1 end (one_more echo t.name r.0 q.0 end q.1.0 q.1.1 happens g), q.2),
)

pub rests_at_last : (x y z : Player) (t u s : Played) → Reaches x t y u → Leads (StepsIn u.name false) y u z s → Leads (GoesOnIn t.name) x t z s
rests_at_last x y z t u s far l = (
  l.0 ∙ far.0,
  λ echo w h.
      let r = far.1 echo w h in
      let q = l.1 echo r.0 r.2 in
      let rests = subst (λ (n : ℕ). Rests (service_of echo) n r.0 q.0) far.0 q.1 in
      (q.0, r.1 q.0 ([], rests), q.2),
)

-- ---- a step

rests_with : (echo : Option TableForm) (c : ℕ) (w v : World Services) (p : Peer) (s : Standing) → p.standing ≡ s → peer_at w c ≡ Some p → RestsAt (service_of echo) c w s v → Rests (service_of echo) c w v
rests_with echo c w v p s e there rests = (p, there, subst (λ (z : Standing). RestsAt (service_of echo) c w z v) (sym e) rests)

-- the connection isn't there
pub closed_rests : (x : Player) (t : Played) → t.standing ≡ Closed → Leads (StepsIn t.name false) x t x t
closed_rests x t e = (refl, λ echo w h. (w, rests_with echo t.name w w h.peer Closed (sym h.shows.standing ∙ e) h.there refl, h))

pub lost_rests : (x : Player) (t : Played) → t.standing ≡ Lost → Leads (StepsIn t.name false) x t x t
lost_rests x t e = (refl, λ echo w h. (w, rests_with echo t.name w w h.peer Lost (sym h.shows.standing ∙ e) h.there refl, h))

-- nothing is to be done for now
pub pauses : (x y : Player) (t u : Played) → t.standing ≡ Open → IsDue x t false → Lived x t Paused y u → Leads (StepsIn t.name false) x t y u
pauses x y t u open_ due l = (
  l.name,
  λ echo w h.
      let quiet = quiet_of echo x t w h false (due echo w h) in
      let r = stays echo x y t u w h Paused l open_ (quiet, refl, refl) in
      (r.0, rests_with echo t.name w r.0 h.peer Open (sym h.shows.standing ∙ open_) h.there r.1, r.2),
)

-- octets come
pub comes : (x y : Player) (t u : Played) (octets : List ℕ) → t.standing ≡ Open → Lived x t (Came octets) y u → Leads (λ echo w v. HappensOn (service_of echo) t.name w (Came octets) v) x t y u
comes x y t u octets open_ l = (l.name, λ echo w h. stays echo x y t u w h (Came octets) l open_ (refl, refl))

-- a word is said
pub says : (x y : Player) (t u : Played) → Leads (DecidesIn t.name) x t y u → Leads (StepsIn t.name true) x t y u
says x y t u l = (l.0, λ echo w h. let r = l.1 echo w h in (r.0, (Decided r.1.0 r.1.1, tt, r.1.2), r.2))

-- an act is done
module _ (x y : Player) (t u : Played) (act : Act) (open_ : t.standing ≡ Open) (due : IsDue x t false) (l : Lived x t (Did act) y u) where
  midway : (echo : Option TableForm) (w : World Services) → Handles echo x t w → Midway echo (Did act) y u w
  midway echo w h = record { before = x; was = t; hand = h; is_open = open_; quiet = due echo w h; lived = l }

  pub is_midway : IsInHand x t → IsMidway (Did act) y u
  is_midway q = (q.0, q.1, midway q.0 q.1 q.2)

  pub does : (z : Player) (s : Played) → Means act y u z s → Leads (StepsIn t.name true) x t z s
  does z s means = (
    means.0 ∙ l.name,
    λ echo w h.
        let r = means.1 echo w (midway echo w h) in
        (r.0, (Did act, tt, subst (λ (n : ℕ). HappensOn (service_of echo) n w (Did act) r.0) l.name r.1), r.2),
  )
