-- Which service gives up the state behind a handle whose group has ended.
use Rattle.std.specs.Prelude.{◌≡◌, ℕ, ◌==◌, Bool, ◌&&◌, if◌then◌else◌}
use Rattle.desk_service.specs.Rundowns.{iface_in}
use Rattle.desk_locks.specs.declared.shared.SharedDesks.{SharedDesks}
use Rattle.desk_locks.specs.declared.keeper.Keeper.{Keeper}
use Rattle.desk_locks.specs.declared.keeper.Keeper.TheVariants as keepers

pub data Place : Type 0 where
  at_probe : Place
  at_store : Place
  at_endpoints : Place
  at_management : Place
  at_echo : Place

abbrev pub place_of : Keeper → Place
place_of (keepers.Probe desk) = at_probe
place_of (keepers.Store desk) = at_store
place_of (keepers.Endpoints desk) = at_endpoints
place_of keepers.Management = at_management
place_of (keepers.Echo table) = at_echo

-- that of the interface of the number, where there is an echo or not; and the probe where none is served
abbrev pub place_at : Bool → ℕ → Place
place_at echoes iface =
    if iface == 1 then at_store
    else (if iface == 2 then at_endpoints
    else (if iface == 3 then at_management
    else (if (iface == 4) && echoes then at_echo else at_probe)))

-- that of the interface in the handle's kind
abbrev pub place_for : Bool → ℕ → Place
place_for echoes kind = place_at echoes (iface_in kind)

-- a keeper of these services is one of them
abbrev pub HoldsOwn : SharedDesks → Keeper → Type 0
HoldsOwn d (keepers.Probe desk) = desk.now ≡ d.probe
HoldsOwn d (keepers.Store desk) = desk.now ≡ d.store
HoldsOwn d (keepers.Endpoints desk) = desk.now ≡ d.endpoints
HoldsOwn d keepers.Management = Unit {0}
HoldsOwn d (keepers.Echo table) = Unit {0}
