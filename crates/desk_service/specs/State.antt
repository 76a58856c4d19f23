-- The built-in services of a server, by the numbers of their interfaces.
use Rattle.std.specs.Prelude.{ℕ, ◌==◌, if◌then◌else◌, List, [], ◌∷◌, ◌++◌, Option, Some, None}
use Rattle.ndr_table.specs.Tables.{TableForm}
use Rattle.echo_manager.specs.Table.{probe_table}
use Rattle.store_manager.specs.Table.{store_table}
use Rattle.store_manager.specs.Files.{Store}
use Rattle.epm_manager.specs.Table.{epm_table}
use Rattle.epm_manager.specs.Entries.{EndpointMap}
use Rattle.mgmt_manager.specs.Table.{mgmt_table}

-- the number of the probe's handles; the store; the endpoint map; and the interface of the echo, where there is one. Management keeps
-- nothing: its numbers of calls and packets come with each call
pub record Services : Type 0 where
  pub probes : ℕ
  pub store : Store
  pub endpoints : EndpointMap
  pub echo : Option TableForm

abbrev pub echoed : Option TableForm → List TableForm
echoed None = []
echoed (Some t) = t ∷ []

-- the probe is interface 0, the store 1, the endpoint map 2 and management 3
abbrev pub built_in : List TableForm
built_in = probe_table ∷ store_table ∷ epm_table ∷ mgmt_table ∷ []

-- the echo's interface is 4
abbrev pub tables_with : Option TableForm → List TableForm
tables_with echo = built_in ++ echoed echo

abbrev pub tables_of : Services → List TableForm
tables_of s = tables_with s.echo

-- how many handles of an interface there are, of those issued and neither closed nor run down
abbrev pub handles_of : Services → ℕ → ℕ
handles_of s iface =
    if iface == 0 then s.probes
    else (if iface == 1 then s.store.handles
    else (if iface == 2 then s.endpoints.handles else 0))
