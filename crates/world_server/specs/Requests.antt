-- What a request comes to.
use Rattle.std.specs.Prelude.{◌≡◌, ◌≢◌, ℕ, None, Result, Ok, Err, List, []}
use Rattle.rpc_base.specs.declared.identifiers.Status.{Status}
use Rattle.handle_model.specs.declared.entry.Slot.{Slot}
use Rattle.handle_model.specs.declared.entry.Entry.{Entry}
use Rattle.handle_model.specs.Limits.{accept_limit}
use Rattle.pdu_stream.specs.declared.joined.Joined.{Joined}
use Rattle.ndr_table.specs.Tables.{TableForm}
use Rattle.group_core.specs.Calls.{Accepts}
use Rattle.conn_histories.specs.Requests.{HasSlots, IsRefused, no_memory}
use Rattle.conn_histories.specs.declared.turn.Request.{Request}
use Rattle.conn_histories.specs.declared.turn.Deed.TheVariants as deeds
use Rattle.conn_histories.specs.Entries.{asked_as}
use Rattle.world_server.specs.Servers.{whole}

-- a request, to which nothing has come yet
abbrev pub request : Joined → ℕ → Request
request j iface = record { joined = j; iface = iface; offs = []; deed = deeds.Pending; answer = None }

-- It is accepted, with the slots of its message; or it is refused with that status, and nothing is entered.
abbrev pub Requests : List TableForm → ℕ → Joined → ℕ → Result ℕ Status → List Entry → List Entry → Type 0
Requests tables c j iface (Ok k) past new =
    (slots : List Slot) × HasSlots tables iface j.op j.order j.stub slots × Accepts (whole past) (asked_as c (request j iface) slots) (Ok k) (whole new)
Requests tables c j iface (Err status) past new =
    IsRefused tables iface j.op j.order j.stub (λ (slots : List Slot). accept_limit (whole past) slots ≢ None) status × (status ≢ no_memory) × (new ≡ past)
