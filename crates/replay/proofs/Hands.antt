-- A connection in hand.
use Rattle.std.proofs.Common.{◌≡◌, ◌≢◌, ℕ, Option, Some, None, List, refl, sym, ap, subst, ◌∙◌}
use Rattle.ndr_table.specs.Tables.{TableForm}
use Rattle.desk_service.specs.State.{Services}
use Rattle.replay_world.specs.declared.peer.Standing.{Standing}
use Rattle.replay_world.specs.Worlds.{Peer, World, peer_at}
use Rattle.replay_world.specs.Plays.{OfPeer}
use Rattle.replay_groups.specs.Service.{service_of}
use Rattle.replay_world.proofs.Basics.{some_is}
use Rattle.replay_events.specs.declared.played.Played.{Played}
use Rattle.replay_events.specs.declared.player.Player.{Player}
use Rattle.replay_events.specs.Standing.{Stands, Handles}
use Rattle.replay_events.specs.Hands.{IsInHand, Leads, Picks, PutsBack, Plays}
use Rattle.replay.specs.Lines.{HasWorld}

abbrev pub Step : Type 1
Step = Option TableForm → World Services → World Services → Type 0

pub in_hand : (x y : Player) (c : ℕ) (t : Played) → HasWorld x → Picks c x (Some t) y → IsInHand y t
in_hand x y c t h k = (h.0, h.1, k.1 h.0 h.1 h.2)

pub still : (R : Step) (x y : Player) (t u : Played) → IsInHand x t → Leads R x t y u → IsInHand y u
still R x y t u h l = let s = l.1 h.0 h.1 h.2 in (h.0, s.0, s.2)

-- nothing changed, and the step is to the same world
pub stays : (R : Step) (x : Player) (t : Played) → ((echo : Option TableForm) (w : World Services) → Handles echo x t w → R echo w w) → Leads R x t x t
stays R x t r = (refl, λ echo w h. (w, r echo w h, h))

-- a step that comes to another
pub leads_as : (R Q : Step) (x y : Player) (t u : Played) → ((echo : Option TableForm) (w v : World Services) → Handles echo x t w → R echo w v → Q echo w v) → Leads R x t y u → Leads Q x t y u
leads_as R Q x y t u f l = (l.0, λ echo w h. let s = l.1 echo w h in (s.0, f echo w s.0 h s.1, s.2))

-- one step behind another
pub leads_both : (R S Q : Step) (x y z : Player) (t u r : Played)
    → ((echo : Option TableForm) (w m v : World Services) → Handles echo x t w → R echo w m → S echo m v → Q echo w v) → Leads R x t y u → Leads S y u z r → Leads Q x t z r
leads_both R S Q x y z t u r f l k =
    (k.0 ∙ l.0, λ echo w h. let a = l.1 echo w h in let b = k.1 echo a.0 a.2 in (b.0, f echo w a.0 b.0 h a.1 b.1, b.2))

-- a step between taking a connection out and putting it back
pub plays_by : (R : Step) (c : ℕ) (x y z p : Player) (t u : Played) → Picks c x (Some t) y → Leads R y t z u → PutsBack z u p → Plays R x p
plays_by R c x y z p t u k l b echo w s =
    let d = l.1 echo w (k.1 echo w s) in
    (d.0, d.1, b echo d.0 d.2)

pub still_world : (R : Step) (x y : Player) → HasWorld x → Plays R x y → HasWorld y
still_world R x y h p = let s = p h.0 h.1 h.2 in (h.0, s.0, s.2)

-- ---- the connection of the world

pub none_some : (p : Peer) (o : Option Peer) → o ≡ None → o ≡ Some p → ⊥
none_some p o a b = absurd (cc (a, b))

pub absent : (x y : Player) (c : ℕ) → Picks c x None y → (echo : Option TableForm) (w : World Services) (P : Peer → Type 0) → Stands echo x w → OfPeer (service_of echo) c w P → ⊥
absent x y c k echo w P s h = none_some h.0 (peer_at w c) (k echo w s).0 h.1

-- that in hand is the one of its name
pub one_peer : (echo : Option TableForm) (x : Player) (t : Played) (w : World Services) (p : Peer) (h : Handles echo x t w) → peer_at w t.name ≡ Some p → p ≡ h.peer
one_peer echo x t w p h e = some_is p h.peer (sym e ∙ h.there)

pub of_peer : (echo : Option TableForm) (x : Player) (t : Played) (w : World Services) (P : Peer → Type 0) (h : Handles echo x t w) → P h.peer → OfPeer (service_of echo) t.name w P
of_peer echo x t w P h p = (h.peer, h.there, p)
