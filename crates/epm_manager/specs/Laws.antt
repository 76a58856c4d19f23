-- Each operation of a map that is kept answers with a response to its request.
use Rattle.std.specs.Prelude.{◌<◌}
use Rattle.manager_api.specs.Calls.{Call, Owes}
use Rattle.manager_api.specs.Messages.{IsRequest}
use Rattle.epm_manager.specs.Entries.{EndpointMap}
use Rattle.epm_manager.specs.Steps.{epm_step}
use Rattle.epm_manager.specs.Table.{epm_table}
use Rattle.epm_manager.specs.Wholes.{IsWhole}

abbrev pub StepsOwe : Type 0
StepsOwe = (s : EndpointMap) (c : Call) → IsWhole s.entries → c.op < 5 → IsRequest epm_table c.op c.message → Owes epm_table c.op c.message (epm_step s c).answer
