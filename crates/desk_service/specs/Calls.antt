-- What the services answer to a call: the desk of its interface answers it, and the others stay as they are.
use Rattle.std.specs.Prelude.{◌≡◌, ℕ, Bool, List, Some, map}
use Rattle.rpc_base.specs.declared.identifiers.SyntaxId.{SyntaxId}
use Rattle.ndr_table.specs.Tables.{TableForm}
use Rattle.manager_api.specs.Answers.{Ans, Does}
use Rattle.manager_api.specs.Calls.{Call}
use Rattle.echo_manager.specs.ProbeSteps.{probe_step}
use Rattle.store_manager.specs.Files.{Store}
use Rattle.store_manager.specs.Steps.{store_step}
use Rattle.epm_manager.specs.Entries.{EndpointMap}
use Rattle.epm_manager.specs.Steps.{epm_step}
use Rattle.mgmt_manager.specs.Steps.{Says}
use Rattle.desk_counts.specs.Numbers.{Numbers, listed}
use Rattle.echo_manager.specs.Steps.{Answers}
use Rattle.desk_service.specs.State.{Services, tables_of}

-- the identifiers of the served interfaces, of which management tells
abbrev pub ids_in : List TableForm → List SyntaxId
ids_in tables = map (λ (t : TableForm). t.id) tables

abbrev pub with_probes : Services → ℕ → Services
with_probes s n = record { probes = n; store = s.store; endpoints = s.endpoints; echo = s.echo }

abbrev pub with_store : Services → Store → Services
with_store s store = record { probes = s.probes; store = store; endpoints = s.endpoints; echo = s.echo }

abbrev pub with_endpoints : Services → EndpointMap → Services
with_endpoints s endpoints = record { probes = s.probes; store = s.store; endpoints = endpoints; echo = s.echo }

-- the answer of the management interface, with these numbers of calls and packets
abbrev pub TellsOfServing : Services → Numbers → Call → Ans → Type 0
TellsOfServing s numbers c answer = Says (ids_in (tables_of s)) (λ ns. ns ≡ listed numbers) c answer

-- The services before a call, the numbers of calls and packets so far, the call, whether its probe told of a cancel, the answer, and
-- the services behind it.
pub data May (before : Services) (numbers : Numbers) (c : Call) (told : Bool) (answer : Ans) (after : Services) : Type 0 where
  by_probe : (next : ℕ) → c.iface ≡ 0 → Does (probe_step before.probes c told) before.probes answer next → after ≡ with_probes before next
      → May before numbers c told answer after
  by_store : (next : Store) → c.iface ≡ 1 → Does (store_step before.store c) before.store answer next → after ≡ with_store before next
      → May before numbers c told answer after
  by_endpoints : (next : EndpointMap) → c.iface ≡ 2 → Does (epm_step before.endpoints c) before.endpoints answer next
      → after ≡ with_endpoints before next → May before numbers c told answer after
  by_management : c.iface ≡ 3 → TellsOfServing before numbers c answer → after ≡ before → May before numbers c told answer after
  by_echo : (t : TableForm) → c.iface ≡ 4 → before.echo ≡ Some t → Answers t c.op c.message answer → after ≡ before
      → May before numbers c told answer after
