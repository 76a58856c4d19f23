-- Each row that has a number was accepted as the caller asked it, and nothing else was.
use Rattle.std.proofs.Common.{◌≡◌, ℕ, zero, suc, ◌^◌, ◌≤◌, not, Some, None, List, [], ◌∷◌, ◌++◌, length, map, refl, sym, ap, subst, ◌∙◌, arith}
use Rattle.std.specs.Prelude.{slice_get}
use Rattle.rpc_base.specs.declared.identifiers.Order.{Order}
use Rattle.rpc_base.specs.declared.identifiers.Order.TheVariants.{Little}
use Rattle.handle_model.specs.declared.entry.Slot.{Slot}
use Rattle.handle_model.specs.declared.entry.Asked.{Asked}
use Rattle.handle_model.specs.declared.entry.Entry.{Entry}
use Rattle.handle_model.specs.declared.entry.Entry.TheVariants.{Accept}
use Rattle.handle_model.specs.Slots.{with_serial}
use Rattle.handle_model.specs.Journal.{opened}
use Rattle.handle_model.specs.Calls.{asked}
use Rattle.handle_model.specs.Rules.{Legal}
use Rattle.handle_model.proofs.Accepted.{asks_as_accepted}
use Rattle.pdu_stream.specs.declared.joined.Joined.{Joined}
use Rattle.ndr_value.specs.Values.{Msg}
use Rattle.ndr_table.specs.Tables.{OpForm, TableForm}
use Rattle.ndr_model.specs.declared.way.Way.TheVariants.{Request}
use Rattle.ndr_model.specs.Message.{IsStub}
use Rattle.ndr_laws.specs.Laws.{OneMessage}
use Rattle.ndr_laws.specs.WrittenLaws.{WrittenIsStub}
use Rattle.manager_api.specs.Calls.{uses_at}
use Rattle.group_core.specs.Calls.{numbered}
use Rattle.conn_histories.specs.Requests.{HasSlots, slots_for}
use Rattle.conn_histories.specs.Entries.{asked_as}
use Rattle.client_core.specs.States as callers
use Rattle.client_core.specs.States.{ClientState}
use Rattle.client_core.specs.Calls.{asking}
use Rattle.client_core.specs.Histories.{ClientEvent}
use Rattle.client_laws.specs.Ends.{request_of}
use Rattle.client_laws.specs.Sending.{EventsAsk}
use Rattle.world_laws.specs.Journals.{journal}
use Rattle.world_laws.specs.Ends.{Row, Line, number_at}
use Rattle.world_laws.specs.Worlds.{World}
use Rattle.world_laws.specs.Serving.{request}
use Rattle.world_laws.specs.Clauses.{CallsAreRows}
use Rattle.world_laws.specs.Telling.{IsTold}
use Rattle.world_laws.specs.Keeping.{IsWholeTable}
use Rattle.world_laws.proofs.Lists.{some_is}
use Rattle.world_laws.proofs.Statics.{calls_in}
use Rattle.world_laws.proofs.Truth.{TrueLine}
use Rattle.world_laws.proofs.Worlds.{is_true}
use Rattle.world_laws.proofs.Moving.{calls_are_rows}
use Rattle.world_laws.proofs.AskedRows.{HasAsked}
use Rattle.world_laws.proofs.TellFates.{tells_all}
use Rattle.world_laws.proofs.RowFates.{is_told}
use Rattle.world_laws.proofs.Handles.{filled_same}
use Rattle.world_laws.proofs.RowCalls.{asked_one, request_is, call_at}
use Rattle.world_moves.specs.Rows.{IsCallOf, IsAccepted, RowsAreAccepted, AllRowsAreAccepted, IsARowsCall, AllAcceptsAreRowsCalls}

-- ---- the call that a row asks

-- there is one interface
iface_is : (table : TableForm) (iface op : ℕ) (order : Order) (stub : List ℕ) (slots : List Slot) → HasSlots (table ∷ []) iface op order stub slots → iface ≡ 0
iface_is table zero op order stub slots has = refl
iface_is table (suc n) op order stub slots has = absurd (cc (has.asked.found))

-- the slots are those of the operation of that interface
slots_are : (table : TableForm) (iface op : ℕ) (order : Order) (stub : List ℕ) (slots : List Slot) (h : HasSlots (table ∷ []) iface op order stub slots) → map (with_serial 0) slots ≡ slots_for 0 (uses_at table op) h.message.wires
slots_are table zero op order stub slots h = h.slots_are
slots_are table (suc n) op order stub slots h = absurd (cc (h.asked.found))

-- what was asked, whatever serials its slots have
as_asked : (table : TableForm) (r : Row) (j : Joined) (iface conn : ℕ) (slots : List Slot) (state : ClientState) (o : OpForm) → OneMessage → WrittenIsStub → IsWholeTable table → HasAsked table r.op r.message → state.interface ≡ table
    → slice_get table.ops r.op ≡ Some o → j ≡ request_of state r.op o r.message → HasSlots (table ∷ []) iface j.op j.order j.stub slots
    → (filled : List Slot) → map (with_serial 0) filled ≡ map (with_serial 0) slots → IsCallOf table r (record (asked_as conn (request j iface) slots) { slots = filled })
as_asked table r j iface conn slots state o one written t h known at is has filled same =
    let mine : h.operation ≡ o = some_is h.operation o (sym h.found ∙ at) in
    let j_op : j.op ≡ r.op = ap (λ (x : Joined). x.op) is in
    let j_order : j.order ≡ Little = ap (λ (x : Joined). x.order) is in
    let j_stub : j.stub ≡ asking table h.operation r.message = ap (λ (x : Joined). x.stub) is ∙ (ap (λ (x : TableForm). asking x o r.message) known ∙ ap (λ (x : OpForm). asking table x r.message) (sym mine)) in
    let b = asked_one table iface j.op j.order j.stub has.message has.asked in
    let message_is : has.message ≡ r.message =
    request_is table r.op j.order j.stub r.message has.message h.operation b.operation one written t h.found h.of_op h.short j_order j_stub (ap (slice_get table.ops) (sym j_op) ∙ b.found) b.is in
    let same_op : b.operation ≡ h.operation = some_is b.operation h.operation (sym b.found ∙ (ap (slice_get table.ops) j_op ∙ h.found)) in
    record {
      operation = h.operation;
      found = h.found;
      interface = iface_is table iface j.op j.order j.stub slots has;
      op = j_op;
      order = j_order;
      reply = ap (λ (x : Joined). not x.maybe) is ∙ ap (λ (x : OpForm). not x.maybe) (sym mine);
      stub = j_stub;
      message = subst (λ (x : Msg). IsStub table.types h.operation Request j.order None x j.stub) message_is (subst (λ (x : OpForm). IsStub table.types x Request j.order None has.message j.stub) same_op b.is);
      only = λ m stub_is. request_is table r.op j.order j.stub r.message m h.operation h.operation one written t h.found h.of_op h.short j_order j_stub h.found stub_is;
      slots = same ∙ (slots_are table iface j.op j.order j.stub slots has ∙ (ap (λ (x : ℕ). slots_for 0 (uses_at table x) has.message.wires) j_op ∙ ap (λ (x : Msg). slots_for 0 (uses_at table r.op) x.wires) message_is));
    }

row_accepted : (table : TableForm) (past : List Entry) (l : Line) (x k : ℕ) (r : Row) → OneMessage → WrittenIsStub → IsWholeTable table → TrueLine table past l → IsTold table l.caller.events x r → HasAsked table r.op r.message → number_at l x ≡ Some k
    → IsAccepted table past k r
row_accepted table past l x k r one written t line told h number =
    let w = line.accepted x k number in
    let c = call_at told.before told.later table (callers.at_start table) l.caller.state line.asked r.op r.message told.octets refl (subst (λ (e : List ClientEvent). EventsAsk (callers.at_start table) e l.caller.state line.asked) told.is line.begun) in
    let is : w.joined ≡ request_of c.state r.op c.operation r.message = some_is w.joined (request_of c.state r.op c.operation r.message) (sym w.at ∙ (ap (slice_get (calls_in line.asked)) (sym told.place_is) ∙ c.at)) in
    record {
      asked = numbered (journal w.older) (asked_as w.conn (request w.joined w.iface) w.slots);
      call = as_asked table r w.joined w.iface w.conn w.slots c.state c.operation one written t h c.known c.found is w.has (numbered (journal w.older) (asked_as w.conn (request w.joined w.iface) w.slots)).slots (filled_same (opened (journal w.older)) w.slots);
      newer = w.newer;
      older = w.older;
      is = w.is;
    }

-- ---- every row

pub rows_are_accepted : OneMessage → WrittenIsStub → AllRowsAreAccepted
rows_are_accepted one written table played w fits whole p i x k l r at row number =
    let few : length table.ops ≤ 2 ^ 16 = omega (arith, whole.is.few) in
    let line = (is_true table played w fits few p).lines i l at in
    let t = tells_all table played w p i l at in
    row_accepted table w.past l x k r one written whole line (is_told table l.caller x r t.caller row) (t.asked x r row) number

-- ---- every call that was accepted

-- a legal journal accepts one call with a number
asked_at : (past newer older : List Entry) (k : ℕ) (a : Asked) → Legal (journal past) → past ≡ newer ++ Accept k a ∷ older → asked (journal past) k ≡ Some a
asked_at past newer older k a legal is =
    subst (λ (x : List Entry). asked (journal x) k ≡ Some a) (sym is) (asks_as_accepted (journal older) newer k a (subst (λ (x : List Entry). Legal (journal x)) is legal))

accept_is : (table : TableForm) (w : World) (k : ℕ) (a : Asked) (newer older : List Entry) → CallsAreRows w → RowsAreAccepted table w → Legal (journal w.past) → w.past ≡ newer ++ Accept k a ∷ older → IsARowsCall table w k a
accept_is table w k a newer older calls rows legal is =
    let o = calls.rows k a newer older is in
    let b = rows o.line o.place k o.conn o.row o.there o.is_row o.number in
    let same : b.asked ≡ a = some_is b.asked a (sym (asked_at w.past b.newer b.older k b.asked legal b.is) ∙ asked_at w.past newer older k a legal is) in
    record {
      of_row = o;
      call = subst (λ (x : Asked). IsCallOf table o.row x) same b.call;
      alone = λ i x l at number. calls.apart i o.line x o.place k l o.conn at o.there number o.number;
    }

pub accepts_are_rows_calls : OneMessage → WrittenIsStub → AllAcceptsAreRowsCalls
accepts_are_rows_calls one written table played w fits whole p legal k a newer older is =
    let few : length table.ops ≤ 2 ^ 16 = omega (arith, whole.is.few) in
    accept_is table w k a newer older (calls_are_rows table played w fits few p) (rows_are_accepted one written table played w fits whole p) legal is
