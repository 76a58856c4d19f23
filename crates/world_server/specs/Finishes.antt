-- What the end of a running call needs, and what it enters.
use Rattle.std.specs.Prelude.{◌≡◌, ℕ, ◌≤◌, Bool, true, false, Option, Some, None, if◌then◌else◌, List, length, slice_get}
use Rattle.handle_model.specs.declared.entry.Asked.{Asked}
use Rattle.handle_model.specs.declared.entry.Entry.{Entry}
use Rattle.handle_model.specs.declared.entry.Entry.TheVariants.{End}
use Rattle.handle_model.specs.declared.entry.Said.{Said}
use Rattle.handle_model.specs.declared.entry.Said.TheVariants.{Out, Fault}
use Rattle.handle_model.specs.declared.entry.Slot.{Slot}
use Rattle.handle_model.specs.Slots.{opens}
use Rattle.handle_model.specs.Journal.{suit}
use Rattle.handle_model.specs.Journal as journals
use Rattle.pdu_stream.specs.Fragments.{most_stub}
use Rattle.ndr_value.specs.Values.{Msg}
use Rattle.ndr_table.specs.Tables.{OpForm, TableForm}
use Rattle.ndr_model.specs.declared.way.Way.TheVariants.{Response}
use Rattle.ndr_model.specs.Written.{stub}
use Rattle.manager_api.specs.declared.answer.Kept.{Kept}
use Rattle.manager_api.specs.Answers.{AOut}
use Rattle.manager_api.specs.Calls.{Owes}
use Rattle.group_core.specs.declared.answer.Rest.{Rest}
use Rattle.group_core.specs.Conns.{Settles}
use Rattle.conn_histories.specs.Requests.{IsAsked, op_of}
use Rattle.conn_histories.specs.Ends.{outcomes_of, with_wires, wires_at}
use Rattle.server_calls.specs.declared.end.Ended.{Ended}
use Rattle.world_server.specs.Servers.{home, whole}

-- some cookie for a slot that names a handle
abbrev pub cookie_for : Slot → Option ℕ
cookie_for s = if opens s then None else Some 0

abbrev pub is_out : Said → Bool
is_out (Out octets) = true
is_out (Fault status) = false

-- the octets that go out: the message with the wires of the handles that are kept or issued
abbrev pub octets_out : List Kept → Msg → TableForm → Asked → OpForm → Msg → List ℕ
octets_out kepts m table a o message =
    stub table.types o Response a.order (Some message) (with_wires m (wires_at home a.slots (outcomes_of a.slots kepts)))

-- they suit the call's operation, and are within the stub limit
pub record Suits (tables : List TableForm) (kepts : List Kept) (m : Msg) (a : Asked) (message : Msg) : Type 0 where
  pub table : TableForm
  pub served : slice_get tables a.iface ≡ Some table
  pub operation : OpForm
  pub found : op_of tables a.iface a.op ≡ Some operation
  pub owes : Owes table a.op message (AOut m kepts)
  pub short : length (octets_out kepts m table a operation message) ≤ most_stub

-- how it ends, or that it doesn't suit
abbrev pub EndsAs : List TableForm → List Kept → Msg → Asked → Msg → Option Ended → Type 0
EndsAs tables kepts m a message (Some e) =
    (s : Suits tables kepts m a message)
    × (e.results ≡ outcomes_of a.slots kepts) × (suit a.slots e.results ≡ true) × (e.said ≡ Out (octets_out kepts m s.table a s.operation message))
EndsAs tables kepts m a message None = (n : Msg) → IsAsked tables a.iface a.op a.order a.stub n → Suits tables kepts m a n → ⊥

module _ (tables : List TableForm) (past : List Entry) (k : ℕ) (kepts : List Kept) (m : Msg) where
  -- The call runs, and the message and what becomes of its handles suit it.
  pub record MayEnd : Type 0 where
    pub runs : journals.runs (whole past) k ≡ true
    pub asked : Asked
    pub asks : journals.asked (whole past) k ≡ Some asked
    pub message : Msg
    pub is : IsAsked tables asked.iface asked.op asked.order asked.stub message
    pub suits : Suits tables kepts m asked message

  -- it ends so
  pub record EndsSo (may : MayEnd) (new : List Entry) : Type 0 where
    pub rest : Rest
    pub settles : Settles (whole past) (End k (outcomes_of may.asked.slots kepts) (Out (octets_out kepts m may.suits.table may.asked may.suits.operation may.message))) rest (whole new)

  -- it ended, or it can't and nothing is entered
  abbrev pub Finishes : Bool → List Entry → Type 0
  Finishes true new = (may : MayEnd) × EndsSo may new
  Finishes false new = (MayEnd → ⊥) × (new ≡ past)
