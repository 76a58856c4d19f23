-- What the server accepts is what its caller asked.
use Rattle.std.specs.Prelude.{◌≡◌, ℕ, not, Some, None, List, ◌∷◌, ◌++◌, map, slice_get}
use Rattle.rpc_base.specs.declared.identifiers.Order.TheVariants.{Little}
use Rattle.rpc_base.specs.Fields.{FitsSyntax}
use Rattle.handle_model.specs.declared.entry.Asked.{Asked}
use Rattle.handle_model.specs.declared.entry.Entry.{Entry}
use Rattle.handle_model.specs.declared.entry.Entry.TheVariants.{Accept}
use Rattle.handle_model.specs.Slots.{with_serial}
use Rattle.handle_model.specs.Rules.{Legal}
use Rattle.ndr_value.specs.Values.{Msg}
use Rattle.ndr_table.specs.Tables.{OpForm, TableForm}
use Rattle.ndr_model.specs.declared.way.Way.TheVariants.{Request}
use Rattle.ndr_model.specs.Message.{IsStub}
use Rattle.manager_api.specs.Calls.{uses_at}
use Rattle.conn_histories.specs.Requests.{slots_for}
use Rattle.client_core.specs.Calls.{asking}
use Rattle.world_laws.specs.Moves.{Move}
use Rattle.world_laws.specs.Journals.{journal}
use Rattle.world_laws.specs.Ends.{Row, Line, number_at}
use Rattle.world_laws.specs.Worlds.{World, Played}
use Rattle.world_laws.specs.Clauses.{IsOfRow}
use Rattle.world_laws.specs.Keeping.{IsWholeTable}

-- What is asked is the row's call: of the row's operation of the one interface, in little-endian octets, with an answer unless it is a
-- maybe call. Its stub data are the canonical octets of the row's message, and of no other. It has a slot for each handle of the
-- operation, by the handles of that message; of their serials nothing is said.
pub record IsCallOf (table : TableForm) (r : Row) (a : Asked) : Type 0 where
  pub operation : OpForm
  pub found : slice_get table.ops r.op ≡ Some operation
  pub interface : a.iface ≡ 0
  pub op : a.op ≡ r.op
  pub order : a.order ≡ Little
  pub reply : a.reply ≡ not operation.maybe
  pub stub : a.stub ≡ asking table operation r.message
  pub message : IsStub table.types operation Request a.order None r.message a.stub
  pub only : (m : Msg) → IsStub table.types operation Request a.order None m a.stub → m ≡ r.message
  pub slots : map (with_serial 0) a.slots ≡ slots_for 0 (uses_at table r.op) r.message.wires

-- ---- from a row to the journal

-- the journal accepted the row's call with that number
pub record IsAccepted (table : TableForm) (past : List Entry) (k : ℕ) (r : Row) : Type 0 where
  pub asked : Asked
  pub call : IsCallOf table r asked
  pub newer : List Entry
  pub older : List Entry
  pub is : past ≡ newer ++ Accept k asked ∷ older

-- each row that has a number
abbrev pub RowsAreAccepted : TableForm → World → Type 0
RowsAreAccepted table w =
    (i x k : ℕ) (l : Line) (r : Row) → slice_get w.lines i ≡ Some l → slice_get l.caller.rows x ≡ Some r → number_at l x ≡ Some k
    → IsAccepted table w.past k r

-- for every list of moves
abbrev pub AllRowsAreAccepted : Type 0
AllRowsAreAccepted =
    (table : TableForm) (moves : List Move) (w : World) → FitsSyntax table.id → IsWholeTable table → Played table moves w
    → RowsAreAccepted table w

-- ---- from the journal to a row

-- what is asked under that number is the call of the row that has it, and no other row has it
pub record IsARowsCall (table : TableForm) (w : World) (k : ℕ) (a : Asked) : Type 0 where
  pub of_row : IsOfRow w k
  pub call : IsCallOf table of_row.row a
  pub alone : (i x : ℕ) (l : Line) → slice_get w.lines i ≡ Some l → number_at l x ≡ Some k → (i ≡ of_row.line) × (x ≡ of_row.place)

-- each call that was accepted
abbrev pub EachAcceptIsARowsCall : TableForm → World → Type 0
EachAcceptIsARowsCall table w =
    (k : ℕ) (a : Asked) (newer older : List Entry) → w.past ≡ newer ++ Accept k a ∷ older → IsARowsCall table w k a

-- for every list of moves, where the journal that they leave is legal
abbrev pub AllAcceptsAreRowsCalls : Type 0
AllAcceptsAreRowsCalls =
    (table : TableForm) (moves : List Move) (w : World) → FitsSyntax table.id → IsWholeTable table → Played table moves w
    → Legal (journal w.past) → EachAcceptIsARowsCall table w
