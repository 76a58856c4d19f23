-- What calls do to a player: from each world that it stands for to the next one.
use Rattle.std.specs.Prelude.{◌≡◌, ℕ, Bool, true, false, Option, Some, None, List}
use Rattle.std.specs.List.{find}
use Rattle.ndr_table.specs.Tables.{TableForm}
use Rattle.handle_model.specs.Journal as journals
use Rattle.group_core.specs.declared.answer.Taking.{Taking}
use Rattle.group_core.specs.Calls.{Takes}
use Rattle.conn_histories.specs.Histories.{Event}
use Rattle.desk_service.specs.State.{Services}
use Rattle.replay_world.specs.declared.peer.Member.{Member}
use Rattle.replay_world.specs.Worlds.{Peer, World, is_named, peer_at, journal}
use Rattle.replay_world.specs.Groups.{GoesOn}
use Rattle.replay_world.specs.Events.{HappensOn, GoesOnAt}
use Rattle.replay_world.specs.Plays.{Opens, Ends, Loses}
use Rattle.replay_groups.specs.Service.{service_of}
use Rattle.replay_events.specs.declared.played.Played.{Played}
use Rattle.replay_events.specs.Tables.{ShowAll}
use Rattle.replay_events.specs.declared.player.Player.{Player}
use Rattle.replay_events.specs.Standing.{Stands, Handles}

-- ---- some world is that of the player

abbrev pub IsStanding : Player → (Option TableForm → World Services → Type 0) → Type 0
IsStanding x P = (echo : Option TableForm) × (w : World Services) × Stands echo x w × P echo w

abbrev pub IsInHand : Player → Played → Type 0
IsInHand x t = (echo : Option TableForm) × (w : World Services) × Handles echo x t w

-- ---- from each such world

-- all connections are in their place, before and after
abbrev pub Plays : (Option TableForm → World Services → World Services → Type 0) → Player → Player → Type 0
Plays R x y = (echo : Option TableForm) (w : World Services) → Stands echo x w → (v : World Services) × R echo w v × Stands echo y v

-- one connection is in hand, before and after
abbrev pub LeadsFrom : (Option TableForm → World Services → World Services → Type 0) → Player → Played → Player → Played → Type 0
LeadsFrom R x t y u = (echo : Option TableForm) (w : World Services) → Handles echo x t w → (v : World Services) × R echo w v × Handles echo y u v

abbrev pub Leads : (Option TableForm → World Services → World Services → Type 0) → Player → Played → Player → Played → Type 0
Leads R x t y u = (u.name ≡ t.name) × LeadsFrom R x t y u

-- ---- what is led to

-- a connection is taken in hand, if there is one of that name
abbrev pub Picks : ℕ → Player → Option Played → Player → Type 0
Picks c x None y = (echo : Option TableForm) (w : World Services) → Stands echo x w → (peer_at w c ≡ None) × Stands echo y w
Picks c x (Some t) y = (t.name ≡ c) × ((echo : Option TableForm) (w : World Services) → Stands echo x w → Handles echo y t w)

-- and is put back
abbrev pub PutsBack : Player → Played → Player → Type 0
PutsBack x t y = (echo : Option TableForm) (w : World Services) → Handles echo x t w → Stands echo y w

-- whether there is a connection of that name
abbrev pub HasName : ℕ → List Played → Bool → Type 0
HasName c ts true = (ps : List Peer) → ShowAll ts ps → (p : Peer) × (find (is_named c) ps ≡ Some p)
HasName c ts false = (ps : List Peer) → ShowAll ts ps → find (is_named c) ps ≡ None

-- a connection is opened, unless there is one of that name
abbrev pub OpensIn : ℕ → Option TableForm → World Services → World Services → Type 0
OpensIn c echo w v = Opens (service_of echo) c w v

abbrev pub OpensAs : ℕ → Bool → Player → Player → Type 0
OpensAs c true x y = Plays (OpensIn c) x y
OpensAs c false x y = (y ≡ x) × ((echo : Option TableForm) (w : World Services) → Stands echo x w → (p : Peer) × (peer_at w c ≡ Some p))

-- an event happens on a connection
abbrev pub HappensIn : ℕ → Event → Option TableForm → World Services → World Services → Type 0
HappensIn c event echo w v = HappensOn (service_of echo) c w event v

-- it goes on until it rests
abbrev pub GoesOnIn : ℕ → Option TableForm → World Services → World Services → Type 0
GoesOnIn c echo w v = GoesOnAt (service_of echo) c w v

-- its call is taken, or isn't
abbrev pub TakesIn : Member → ℕ → Taking → Option TableForm → World Services → World Services → Type 0
TakesIn m k answer echo w v = GoesOn (λ old new. Takes old k answer new) w m.group v

-- it runs
abbrev pub Runs : Player → Played → Member → ℕ → Type 0
Runs x t m k = (echo : Option TableForm) (w : World Services) → Handles echo x t w → journals.runs (journal w m.group) k ≡ true

-- it ends, where it runs
abbrev pub EndsIn : Member → ℕ → Option TableForm → World Services → World Services → Type 0
EndsIn m k echo w v = (journals.runs (journal w m.group) k ≡ true) × Ends (service_of echo) w m k v

abbrev pub EndsAs : Member → ℕ → Bool → Player → Played → Player → Played → Type 0
EndsAs m k true x t y u = Leads (EndsIn m k) x t y u
EndsAs m k false x t y u =
    (y ≡ x) × (u ≡ t) × ((echo : Option TableForm) (w : World Services) → Handles echo x t w → journals.runs (journal w m.group) k ≡ false)

-- it is lost
abbrev pub LosesIn : ℕ → Option TableForm → World Services → World Services → Type 0
LosesIn c echo w v = (p : Peer) × (peer_at w c ≡ Some p) × Loses (service_of echo) w p v
