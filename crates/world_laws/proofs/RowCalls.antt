-- A row's call was accepted as the caller asked it.
use Rattle.std.proofs.Common.{◌≡◌, ℕ, zero, suc, ◌+◌, ◌≤◌, Option, Some, None, List, [], ◌∷◌, ◌++◌, length, map, refl, sym, ap, subst, ◌∙◌, arith}
use Rattle.std.specs.Prelude.{slice_get}
use Rattle.rpc_base.specs.declared.identifiers.Order.{Order}
use Rattle.rpc_base.specs.declared.identifiers.Order.TheVariants.{Little}
use Rattle.handle_model.specs.declared.entry.Slot.{Slot}
use Rattle.handle_model.specs.declared.entry.Asked.{Asked}
use Rattle.handle_model.specs.declared.entry.Entry.{Entry}
use Rattle.handle_model.specs.declared.entry.Entry.TheVariants.{Accept}
use Rattle.handle_model.specs.Slots.{with_serial}
use Rattle.handle_model.specs.Journal.{opened}
use Rattle.pdu_stream.specs.declared.joined.Joined.{Joined}
use Rattle.pdu_stream.specs.Fragments.{most_stub}
use Rattle.ndr_value.specs.Values.{Msg}
use Rattle.ndr_table.specs.Tables.{OpForm, TableForm}
use Rattle.ndr_model.specs.declared.way.Way.TheVariants.{Request}
use Rattle.ndr_model.specs.Message.{IsStub}
use Rattle.ndr_model.specs.Fits.{IsOfOp}
use Rattle.ndr_laws.specs.Laws.{IsOp, OneMessage}
use Rattle.ndr_laws.specs.WrittenLaws.{WrittenIsStub}
use Rattle.manager_api.specs.Calls.{uses_at}
use Rattle.group_core.specs.Calls.{numbered}
use Rattle.conn_asks.specs.declared.events.Ask.{Ask}
use Rattle.conn_histories.specs.Requests.{IsAsked, HasSlots, slots_for}
use Rattle.conn_histories.specs.Entries.{asked_as}
use Rattle.client_core.specs.States as callers
use Rattle.client_core.specs.States.{ClientState, Calling}
use Rattle.client_core.specs.Calls.{asking}
use Rattle.client_core.specs.Histories.{ClientEvent, Happens}
use Rattle.client_core.specs.Histories.ClientEvent.{DidBind, DidAlter, DidCall, DidCancel, Received, Lost}
use Rattle.client_laws.specs.Ends.{request_of}
use Rattle.client_laws.specs.Sending.{cancel_asked, EventAsks, EventsAsk}
use Rattle.client_laws.proofs.Keeping.{keeps}
use Rattle.world_laws.specs.Journals.{journal}
use Rattle.world_laws.specs.Ends.{Row, Line, number_at}
use Rattle.world_laws.specs.Serving.{request}
use Rattle.world_laws.specs.Counts.{starts_in, started}
use Rattle.world_laws.specs.Telling.{IsTold}
use Rattle.world_laws.specs.Keeping.{IsWholeTable}
use Rattle.world_laws.proofs.Lists.{some_is}
use Rattle.world_laws.proofs.Statics.{calls_in, calls_append}
use Rattle.world_laws.proofs.Truth.{TrueLine}
use Rattle.world_laws.proofs.AskedRows.{HasAsked}
use Rattle.world_laws.proofs.WireCount.{wires_are}
use Rattle.world_laws.proofs.Handles.{AreSlots, are_slots, filled_same}

-- ---- what the caller asked in a place

keeps_table : (s n : ClientState) (e : ClientEvent) → Happens s e n → n.interface ≡ s.interface
keeps_table s n (DidBind group octets) h = ap (λ (x : ClientState). x.interface) h.1
keeps_table s n (DidAlter context octets) h = ap (λ (x : ClientState). x.interface) h.1
keeps_table s n (DidCall op m octets) (o, found, (short, (request, after))) = ap (λ (x : ClientState). x.interface) after
keeps_table s n (DidCancel octets) h = ap (λ (x : ClientState). x.interface) h.1
keeps_table s n (Received p t) h = (keeps s n p p.body t h).interface
keeps_table s n (Lost called) h = ap (λ (x : ClientState). x.interface) h.1

cancel_calls : (call : Option Calling) → length (calls_in (cancel_asked call)) ≡ 0
cancel_calls None = refl
cancel_calls (Some c) = refl

asks_count : (s : ClientState) (e : ClientEvent) (first : List Ask) → EventAsks s e first → length (calls_in first) ≡ starts_in e
asks_count s (DidBind group octets) first is = ap (λ (x : List Ask). length (calls_in x)) is
asks_count s (DidAlter context octets) first is = ap (λ (x : List Ask). length (calls_in x)) is
asks_count s (DidCall op m octets) first (o, found, is) = ap (λ (x : List Ask). length (calls_in x)) is
asks_count s (DidCancel octets) first is = ap (λ (x : List Ask). length (calls_in x)) is ∙ cancel_calls s.call
asks_count s (Received p t) first is = ap (λ (x : List Ask). length (calls_in x)) is
asks_count s (Lost called) first is = ap (λ (x : List Ask). length (calls_in x)) is

at_behind : (a b : List Joined) (n k : ℕ) (j : Joined) → length a + n ≡ k → slice_get b n ≡ Some j → slice_get (a ++ b) k ≡ Some j
at_behind [] b n k j e at = subst (λ (i : ℕ). slice_get b i ≡ Some j) (let z : n ≡ k = omega (arith, e) in z) at
at_behind (x ∷ a) b n zero j e at = absurd (omega (arith, e))
at_behind (x ∷ a) b n (suc k) j e at = at_behind a b n k j (omega (arith, e)) at

pub record IsCallAt (table : TableForm) (asked : List Ask) (place op : ℕ) (m : Msg) : Type 0 where
  pub state : ClientState
  pub known : state.interface ≡ table
  pub operation : OpForm
  pub found : slice_get table.ops op ≡ Some operation
  pub at : slice_get (calls_in asked) place ≡ Some (request_of state op operation m)

pub call_at : (before later : List ClientEvent) (table : TableForm) (s n : ClientState) (asked : List Ask) (op : ℕ) (m : Msg) (octets : List ℕ) → s.interface ≡ table → EventsAsk s (before ++ DidCall op m octets ∷ later) n asked
    → IsCallAt table asked (started before) op m
call_at [] later table s n asked op m octets known (between, first, others, happens, (o, found, first_is), is, rest) = record {
  state = s;
  known = known;
  operation = o;
  found = ap (λ (t : TableForm). slice_get t.ops op) (sym known) ∙ found;
  at = ap (λ (x : List Ask). slice_get (calls_in x) zero) (is ∙ ap (λ (x : List Ask). x ++ others) first_is);
}
call_at (e ∷ before) later table s n asked op m octets known (between, first, others, happens, here, is, rest) =
    let r = call_at before later table between n others op m octets (keeps_table s between e happens ∙ known) rest in
    record {
      state = r.state;
      known = r.known;
      operation = r.operation;
      found = r.found;
      at = ap (λ (x : List Joined). slice_get x (started (e ∷ before))) (ap calls_in is ∙ calls_append first others)
          ∙ at_behind (calls_in first) (calls_in others) (started before) (started (e ∷ before)) (request_of r.state op r.operation m) (ap (λ (k : ℕ). k + started before) (asks_count s e first here)) r.at;
    }

-- ---- one interface

pub record IsAskedOne (table : TableForm) (iface op : ℕ) (order : Order) (stub : List ℕ) (m : Msg) : Type 0 where
  pub operation : OpForm
  pub found : slice_get table.ops op ≡ Some operation
  pub is : IsStub table.types operation Request order None m stub

pub asked_one : (table : TableForm) (iface op : ℕ) (order : Order) (stub : List ℕ) (m : Msg) → IsAsked (table ∷ []) iface op order stub m → IsAskedOne table iface op order stub m
asked_one table zero op order stub m a = record { operation = a.operation; found = a.found; is = a.decoded }
asked_one table (suc n) op order stub m a = absurd (cc (a.found))

slots_one : (table : TableForm) (iface op : ℕ) (order : Order) (stub : List ℕ) (slots : List Slot) (h : HasSlots (table ∷ []) iface op order stub slots) → map (with_serial 0) slots ≡ slots_for iface (uses_at table op) h.message.wires
slots_one table zero op order stub slots h = h.slots_are
slots_one table (suc n) op order stub slots h = absurd (cc (h.asked.found))

-- ---- the one message of a request

pub is_op : (table : TableForm) (op : ℕ) (o : OpForm) → IsWholeTable table → slice_get table.ops op ≡ Some o → IsOp table.types o
is_op table op o t at = record { ops = table.ops; uses = table.uses; number = op; table = t.is; shallow = t.shallow; is = at }

pub request_is : (table : TableForm) (op : ℕ) (order : Order) (stub : List ℕ) (m n : Msg) (o p : OpForm) → OneMessage → WrittenIsStub → IsWholeTable table → slice_get table.ops op ≡ Some o → IsOfOp table.types o Request None m
    → length (asking table o m) ≤ most_stub → order ≡ Little → stub ≡ asking table o m → slice_get table.ops op ≡ Some p → IsStub table.types p Request order None n stub → n ≡ m
request_is table op order stub m n o p one written t at of_op short little is at2 stub_is =
    let same : p ≡ o = some_is p o (sym at2 ∙ at) in
    let theirs : IsStub table.types o Request Little None n (asking table o m) =
    subst (λ (x : List ℕ). IsStub table.types o Request Little None n x) is (subst (λ (x : Order). IsStub table.types o Request x None n stub) little (subst (λ (x : OpForm). IsStub table.types x Request order None n stub) same stub_is)) in
    one table.types o Request Little None (asking table o m) n m (is_op table op o t at) theirs
    (written table.types o Request Little None m (is_op table op o t at) of_op (omega (arith, short)))

-- ---- a row's call

pub record RowCall (table : TableForm) (r : Row) (a : Asked) : Type 0 where
  pub operation : OpForm
  pub found : slice_get table.ops r.op ≡ Some operation
  pub of_op : IsOfOp table.types operation Request None r.message
  pub op : a.op ≡ r.op
  pub order : a.order ≡ Little
  pub message : (p : OpForm) (n : Msg) → slice_get table.ops a.op ≡ Some p → IsStub table.types p Request a.order None n a.stub → n ≡ r.message
  pub slots : AreSlots (uses_at table r.op) r.message.wires a.slots

pub record RowAccepted (table : TableForm) (past : List Entry) (k : ℕ) (r : Row) : Type 0 where
  pub asked : Asked
  pub call : RowCall table r asked
  pub newer : List Entry
  pub older : List Entry
  pub is : past ≡ newer ++ Accept k asked ∷ older

-- what was asked, with its slots numbered
as_joined : (table : TableForm) (r : Row) (j : Joined) (iface : ℕ) (slots : List Slot) (state : ClientState) (o : OpForm) → OneMessage → WrittenIsStub → IsWholeTable table → HasAsked table r.op r.message → state.interface ≡ table
    → slice_get table.ops r.op ≡ Some o → j ≡ request_of state r.op o r.message → HasSlots (table ∷ []) iface j.op j.order j.stub slots
    → (a : Asked) → a.op ≡ j.op → a.order ≡ j.order → a.stub ≡ j.stub → map (with_serial 0) a.slots ≡ map (with_serial 0) slots → RowCall table r a
as_joined table r j iface slots state o one written t h known at is has a op order stub same =
    let mine : h.operation ≡ o = some_is h.operation o (sym h.found ∙ at) in
    let j_op : j.op ≡ r.op = ap (λ (x : Joined). x.op) is in
    let j_order : j.order ≡ Little = ap (λ (x : Joined). x.order) is in
    let j_stub : j.stub ≡ asking table h.operation r.message = ap (λ (x : Joined). x.stub) is ∙ (ap (λ (x : TableForm). asking x o r.message) known ∙ ap (λ (x : OpForm). asking table x r.message) (sym mine)) in
    let b = asked_one table iface j.op j.order j.stub has.message has.asked in
    let message_is : has.message ≡ r.message =
    request_is table r.op j.order j.stub r.message has.message h.operation b.operation one written t h.found h.of_op h.short j_order j_stub (ap (slice_get table.ops) (sym j_op) ∙ b.found) b.is in
    let slots_are : map (with_serial 0) a.slots ≡ slots_for iface (uses_at table r.op) r.message.wires =
    same ∙ (slots_one table iface j.op j.order j.stub slots has ∙ (ap (λ (x : ℕ). slots_for iface (uses_at table x) has.message.wires) j_op ∙ ap (λ (x : Msg). slots_for iface (uses_at table r.op) x.wires) message_is)) in
    record {
      operation = h.operation;
      found = h.found;
      of_op = h.of_op;
      op = op ∙ j_op;
      order = order ∙ j_order;
      message = λ p n found stub_is.
          request_is table r.op a.order a.stub r.message n h.operation p one written t h.found h.of_op h.short (order ∙ j_order) (stub ∙ j_stub) (ap (slice_get table.ops) (sym (op ∙ j_op)) ∙ found) stub_is;
      slots = are_slots iface (uses_at table r.op) r.message.wires a.slots (wires_are Request table.types table.ops table.uses r.op h.operation None r.message t.sound h.found h.of_op) slots_are;
    }

pub row_accepted : (table : TableForm) (past : List Entry) (l : Line) (x k : ℕ) (r : Row) → OneMessage → WrittenIsStub → IsWholeTable table → TrueLine table past l → IsTold table l.caller.events x r → HasAsked table r.op r.message → number_at l x ≡ Some k
    → RowAccepted table past k r
row_accepted table past l x k r one written t line told h number =
    let w = line.accepted x k number in
    let c = call_at told.before told.later table (callers.at_start table) l.caller.state line.asked r.op r.message told.octets refl (subst (λ (e : List ClientEvent). EventsAsk (callers.at_start table) e l.caller.state line.asked) told.is line.begun) in
    let is : w.joined ≡ request_of c.state r.op c.operation r.message = some_is w.joined (request_of c.state r.op c.operation r.message) (sym w.at ∙ (ap (slice_get (calls_in line.asked)) (sym told.place_is) ∙ c.at)) in
    let a : Asked = numbered (journal w.older) (asked_as w.conn (request w.joined w.iface) w.slots) in
    record {
      asked = a;
      call = as_joined table r w.joined w.iface w.slots c.state c.operation one written t h c.known c.found is w.has a refl refl refl (filled_same (opened (journal w.older)) w.slots);
      newer = w.newer;
      older = w.older;
      is = w.is;
    }
