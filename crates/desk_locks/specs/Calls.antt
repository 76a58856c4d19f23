-- What the services of a server answer to a call, whatever the calls of others have left behind their locks.
use Rattle.std.specs.Prelude.{◌≡◌, ℕ, Bool, List, Option, Some}
use Rattle.ndr_table.specs.Tables.{TableForm}
use Rattle.manager_api.specs.Answers.{Ans, Does}
use Rattle.manager_api.specs.Calls.{Call}
use Rattle.echo_manager.specs.ProbeSteps.{probe_step}
use Rattle.store_manager.specs.Files.{Store}
use Rattle.store_manager.specs.Steps.{store_step}
use Rattle.epm_manager.specs.Entries.{EndpointMap}
use Rattle.epm_manager.specs.Steps.{epm_step}
use Rattle.mgmt_manager.specs.Steps.{Says}
use Rattle.echo_manager.specs.Steps.{Answers}
use Rattle.desk_service.specs.Calls.{ids_in}
use Rattle.desk_service.specs.Shows.{shown_by}
use Rattle.desk_service.specs.State.{tables_with}
use Rattle.desk_locks.specs.declared.shared.SharedDesks.{SharedDesks}

-- the interface of the echo, where there is one
abbrev pub echo_of : SharedDesks → Option TableForm
echo_of d = shown_by (λ t. t) d.echo

-- the interfaces by number
abbrev pub tables_of : SharedDesks → List TableForm
tables_of d = tables_with (echo_of d)

-- A call, whether its probe told of a cancel, and the answer: the desk of its interface gives it, in some state of its own.
-- Management tells of the interfaces and of any numbers.
pub data May (echo : Option TableForm) (c : Call) (told : Bool) (answer : Ans) : Type 0 where
  by_probe : (before after : ℕ) → c.iface ≡ 0 → Does (probe_step before c told) before answer after → May echo c told answer
  by_store : (before after : Store) → c.iface ≡ 1 → Does (store_step before c) before answer after → May echo c told answer
  by_endpoints : (before after : EndpointMap) → c.iface ≡ 2 → Does (epm_step before c) before answer after → May echo c told answer
  by_management : c.iface ≡ 3 → Says (ids_in (tables_with echo)) (λ ns. Unit {0}) c answer → May echo c told answer
  by_echo : (t : TableForm) → c.iface ≡ 4 → echo ≡ Some t → Answers t c.op c.message answer → May echo c told answer
