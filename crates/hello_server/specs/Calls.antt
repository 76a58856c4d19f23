-- What the service answers to a call, whatever the calls of others have left behind their locks.
use Rattle.std.specs.Prelude.{List, [], ◌∷◌, Bool}
use Rattle.ndr_table.specs.Tables.{TableForm}
use Rattle.manager_api.specs.Answers.{Ans, Does}
use Rattle.manager_api.specs.Calls.{Call}
use Rattle.epm_manager.specs.Entries.{EndpointMap}
use Rattle.epm_manager.specs.Steps.{epm_step}
use Rattle.epm_manager.specs.Table.{epm_table}
use Rattle.mgmt_manager.specs.Steps.{Says}
use Rattle.mgmt_manager.specs.Table.{mgmt_table}
use Rattle.desk_service.specs.Calls.{ids_in}
use Rattle.desk_text.specs.Played.{InSomeState}
use Rattle.desk_text.specs.Managers.{MayAnswer, MayAt}
use Rattle.hello_desk.specs.Steps.{hello_step}

-- hello is interface 0, the endpoint map 1 and management 2
abbrev pub tables_with : TableForm → List TableForm
tables_with hello = hello ∷ epm_table ∷ mgmt_table ∷ []

-- the step's answer, in some state
abbrev pub by_hello : TableForm → MayAnswer
by_hello hello c told answer = InSomeState hello hello_step c answer

abbrev pub by_endpoints : MayAnswer
by_endpoints c told answer = (before after : EndpointMap) × Does (epm_step before c) before answer after

-- the interfaces, and any numbers
abbrev pub by_management : TableForm → MayAnswer
by_management hello c told answer = Says (ids_in (tables_with hello)) (λ ns. Unit {0}) c answer

abbrev pub managers : TableForm → List MayAnswer
managers hello = by_hello hello ∷ by_endpoints ∷ by_management hello ∷ []

-- the manager of the call's interface may answer so
abbrev pub May : TableForm → Call → Bool → Ans → Type 0
May hello c told answer = MayAt c.iface (managers hello) c told answer
