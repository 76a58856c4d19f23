-- How a server's interfaces are offered in its endpoint map.
use Rattle.std.specs.Prelude.{◌≡◌, List, [], ◌∷◌}
use Rattle.rpc_base.specs.declared.identifiers.SyntaxId.{SyntaxId}
use Rattle.rpc_outside.specs.declared.address.Address.{Address}
use Rattle.uuid.specs.Parts.{zero_bytes}
use Rattle.presentation.specs.Serving.{ndr}
use Rattle.tower_codec.specs.declared.tower.Tower.{Tower}
use Rattle.epm_manager.specs.declared.entry.MapEntry.{MapEntry}
use Rattle.epm_manager.specs.Entries.{EndpointMap}
use Rattle.epm_manager.specs.Steps.{with_new}
use Rattle.desk_service.specs.Calls.{ids_in}
use Rattle.desk_locks.specs.declared.shared.SharedDesks.{SharedDesks}
use Rattle.desk_locks.specs.Calls.{tables_of}

-- an interface is offered over NDR at the address, for every object, without a note
abbrev pub tower_of : Address → SyntaxId → Tower
tower_of at iface = record { iface = iface; transfer = ndr; minor = 0; port = at.port; ip = at.ip }

abbrev pub offer_of : Address → SyntaxId → MapEntry
offer_of at iface = record { object = zero_bytes; tower = tower_of at iface; note = [] }

abbrev pub no_entries : EndpointMap
no_entries = record { entries = []; last = 0; handles = 0 }

-- the interfaces are registered one after another
abbrev pub with_offers : Address → List SyntaxId → EndpointMap → EndpointMap
with_offers at [] m = m
with_offers at (iface ∷ ifaces) m = with_offers at ifaces (with_new m m.entries (offer_of at iface ∷ []))

-- before the first call each interface is registered in the endpoint map at the address, in order, and nothing else
abbrev pub OffersAll : Address → SharedDesks → Type 0
OffersAll at d = d.endpoints.first.value ≡ with_offers at (ids_in (tables_of d)) no_entries
