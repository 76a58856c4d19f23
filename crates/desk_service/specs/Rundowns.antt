-- Which service gives up the state behind a handle whose group has ended.
use Rattle.std.specs.Prelude.{ℕ, ◌/◌, ◌^◌, ◌==◌, Bool, ◌&&◌, ◌||◌, is_some, if◌then◌else◌}
use Rattle.manager_api.specs.Handles.{one_less}
use Rattle.store_manager.specs.Steps.{without_handle}
use Rattle.epm_manager.specs.Steps.{with_handles}
use Rattle.desk_service.specs.State.{Services}
use Rattle.desk_service.specs.Calls.{with_probes, with_store, with_endpoints}

-- the number of the interface in a handle's kind
abbrev pub iface_in : ℕ → ℕ
iface_in kind = kind / 2 ^ 16

-- management and the echo keep nothing behind handles
abbrev pub keeps_nothing : Services → ℕ → Bool
keeps_nothing s iface = (iface == 3) || ((iface == 4) && is_some s.echo)

-- the service of the interface in the kind has one handle less; the probe does where no such interface is served
abbrev pub without : Services → ℕ → Services
without s iface =
    if iface == 1 then with_store s (without_handle s.store)
    else (if iface == 2 then with_endpoints s (with_handles s.endpoints (one_less s.endpoints.handles))
    else (if keeps_nothing s iface then s else with_probes s (one_less s.probes)))
