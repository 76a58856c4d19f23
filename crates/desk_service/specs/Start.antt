-- The services before the first call.
use Rattle.std.specs.Prelude.{ℕ, List, [], ◌∷◌, Option}
use Rattle.rpc_base.specs.declared.identifiers.SyntaxId.{SyntaxId}
use Rattle.uuid.specs.Parts.{zero_bytes}
use Rattle.presentation.specs.Serving.{ndr}
use Rattle.tower_codec.specs.declared.tower.Tower.{Tower}
use Rattle.ndr_table.specs.Tables.{TableForm}
use Rattle.store_manager.specs.Files.{Store}
use Rattle.epm_manager.specs.declared.entry.MapEntry.{MapEntry}
use Rattle.epm_manager.specs.Entries.{EndpointMap}
use Rattle.epm_manager.specs.Steps.{with_new}
use Rattle.echo_manager.specs.Table.{probe_table}
use Rattle.store_manager.specs.Table.{store_table}
use Rattle.desk_service.specs.State.{Services}

-- an interface is offered over NDR at 127.0.0.1, port 5000, for every object, without a note
abbrev pub tower_of : SyntaxId → Tower
tower_of iface = record { iface = iface; transfer = ndr; minor = 0; port = 5000; ip = 127 ∷ 0 ∷ 0 ∷ 1 ∷ [] }

abbrev pub offer_of : SyntaxId → MapEntry
offer_of iface = record { object = zero_bytes; tower = tower_of iface; note = [] }

abbrev pub no_entries : EndpointMap
no_entries = record { entries = []; last = 0; handles = 0 }

-- the map with one entry more
abbrev pub registering : EndpointMap → SyntaxId → EndpointMap
registering m iface = with_new m m.entries (offer_of iface ∷ [])

-- the probe is registered, and then the store
abbrev pub registered : EndpointMap
registered = registering (registering no_entries probe_table.id) store_table.id

abbrev pub no_files : Store
no_files = record { files = []; handles = 0 }

abbrev pub at_start : Option TableForm → Services
at_start echo = record { probes = 0; store = no_files; endpoints = registered; echo = echo }
