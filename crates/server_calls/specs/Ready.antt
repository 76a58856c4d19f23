-- What a request comes to before its group is asked, and what an end says.
use Rattle.std.specs.Prelude.{◌≡◌, ℕ, None, Result, Ok, Err, List, [], ◌⊎◌}
use Rattle.rpc_base.specs.declared.identifiers.Status.{Status}
use Rattle.handle_model.specs.declared.entry.Asked.{Asked}
use Rattle.handle_model.specs.declared.entry.Said.{Said}
use Rattle.handle_model.specs.declared.entry.Said.TheVariants.{Out, Fault}
use Rattle.pdu_stream.specs.declared.joined.Joined.{Joined}
use Rattle.ndr_value.specs.Values.{msg}
use Rattle.ndr_table.specs.Tables.{TableForm}
use Rattle.conn_histories.specs.Requests.{IsAsked, IsRefused, no_memory}
use Rattle.server_calls.specs.Suited.{Opened, never_full}
use Rattle.conn_histories.specs.declared.turn.Deed.TheVariants.{Pending}
use Rattle.conn_histories.specs.declared.turn.Request.{Request}
use Rattle.conn_histories.specs.Entries.{asked_as}
use Rattle.server_calls.specs.declared.ready.Ready.{Ready}

-- a request of an interface, to which nothing has come yet
abbrev pub request_of : Joined → ℕ → Request
request_of j iface = record { joined = j; iface = iface; offs = []; deed = Pending; answer = None }

-- What is asked is ready: it has its slots, at most four, and both messages are its.
pub record IsReady (tables : List TableForm) (a : Asked) (r : Ready) : Type 0 where
  pub given : r.given ≡ a
  pub asked : r.asked ≡ a
  pub opened : Opened tables a.iface a.op a.order a.stub a.slots
  pub message : IsAsked tables a.iface a.op a.order a.stub (msg r.message)
  pub again : IsAsked tables a.iface a.op a.order a.stub (msg r.again)

-- a request of the connection is ready, or is refused with that status
abbrev pub ComesReady : List TableForm → ℕ → Joined → ℕ → Result Ready Status → Type 0
ComesReady tables c j iface (Ok r) = IsReady tables (asked_as c (request_of j iface) r.asked.slots) r
ComesReady tables c j iface (Err status) = IsRefused tables iface j.op j.order j.stub never_full status

-- the same is said, or for its octets there is no memory
abbrev pub Repeats : Said → Said → Type 0
Repeats (Out octets) told = (told ≡ Out octets) ⊎ (told ≡ Fault no_memory)
Repeats (Fault status) told = told ≡ Fault status
