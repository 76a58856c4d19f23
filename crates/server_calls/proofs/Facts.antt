-- A call with its message and its cookies is one that a desk may be given.
use Rattle.std.proofs.Common.{◌≡◌, ℕ, ◌≤◌, ◌<◌, Bool, true, List, [], ◌∷◌, length, take, Option, Some, None, refl, sym, ap, subst, ◌∙◌}
use Rattle.std.specs.Prelude.{map, slice_get}
use Rattle.std.proofs.lemmas.Option.{slice_get_within}
use Rattle.rpc_base.specs.Fields.{IsOctets}
use Rattle.rpc_base.specs.declared.identifiers.Order.{Order}
use Rattle.rpc_base.specs.declared.identifiers.WireHandle.{WireHandle}
use Rattle.handle_model.specs.declared.entry.Slot.{Slot}
use Rattle.handle_model.specs.Slots.{with_serial}
use Rattle.handle_model.specs.Journal.{suit}
use Rattle.ndr_value.specs.Forms.{Form}
use Rattle.ndr_value.specs.Values.{Msg}
use Rattle.ndr_table.specs.declared.operation.HandleUse.{HandleUse}
use Rattle.ndr_table.specs.Tables.{OpForm, TableForm, IsTable}
use Rattle.ndr_table.specs.Nested.{IsShallow}
use Rattle.ndr_table.specs.Sound.{IsSound}
use Rattle.ndr_model.specs.declared.way.Way.TheVariants.{Request}
use Rattle.ndr_model.specs.Message.{IsStub}
use Rattle.ndr_laws.specs.Laws.{IsOp, OneMessage}
use Rattle.ndr_laws.proofs.Stubs.{one_stub}
use Rattle.ndr_model.specs.Fits.{IsOfOp}
use Rattle.ndr_codec.proofs.Fitting.{stub_suits}
use Rattle.manager_api.specs.Answers.{Ans}
use Rattle.manager_api.specs.Calls.{Call, Owes, uses_at}
use Rattle.conn_histories.specs.Requests.{types_in, op_in, uses_in, uses_of, IsAsked, HasSlots, slots_for}
use Rattle.conn_histories.specs.Ends.{row_of, results_of}
use Rattle.manager_api.specs.ServedCalls.{IsCall, Owed}
use Rattle.server_calls.specs.Suited.{suit_cookies}
use Rattle.server_calls.proofs.Cookies.{cookies_are_given, kepts_are_for_slots, results_suit}

pub one_some : {A : Type 0} (a b : A) (o : Option A) → o ≡ Some a → o ≡ Some b → a ≡ b
one_some a b o p q = cc

-- what holds of every table
pub record Facts (t : TableForm) : Type 0 where
  pub whole : IsTable t.types t.ops t.uses
  pub shallow : IsShallow t.types t.ops
  pub sound : IsSound t.types t.ops t.uses

module _ (tables : List TableForm) (t : TableForm) (iface op : ℕ) (order : Order) (stub : List ℕ) (at : slice_get tables iface ≡ Some t) where
  pub op_at : (m : Msg) (x : IsAsked tables iface op order stub m) → slice_get t.ops op ≡ Some x.operation
  op_at m x = subst (λ (o : Option TableForm). op_in o op ≡ Some x.operation) at x.found

  stub_at : (m : Msg) (x : IsAsked tables iface op order stub m) → IsStub t.types x.operation Request order None m stub
  stub_at m x = subst (λ (o : Option TableForm). IsStub (types_in o) x.operation Request order None m stub) at x.decoded

  stub_of : (m : Msg) (x : IsAsked tables iface op order stub m) (o : OpForm) → slice_get t.ops op ≡ Some o → IsStub t.types o Request order None m stub
  stub_of m x o e =
      let same : x.operation ≡ o = one_some x.operation o (slice_get t.ops op) (op_at m x) e in
      subst (λ (p : OpForm). IsStub t.types p Request order None m stub) same (stub_at m x)

  pub of_op : IsOctets stub → (m : Msg) (x : IsAsked tables iface op order stub m) (o : OpForm) → slice_get t.ops op ≡ Some o → IsOfOp t.types o Request None m
  of_op octets m x o e = stub_suits t.types o Request order None stub m octets (stub_of m x o e)

  pub same_message : IsTable t.types t.ops t.uses → IsShallow t.types t.ops → OneMessage → (m n : Msg) → IsAsked tables iface op order stub m → IsAsked tables iface op order stub n → m ≡ n
  same_message whole shallow one m n x y =
      let is : IsOp t.types x.operation = record { ops = t.ops; uses = t.uses; number = op; table = whole; shallow = shallow; is = op_at m x } in
      one t.types x.operation Request order None stub m n is (stub_at m x) (stub_of n y x.operation (op_at m x))

  slots_are : Facts t → OneMessage → (m : Msg) (ss : List Slot) → IsAsked tables iface op order stub m → HasSlots tables iface op order stub ss
      → map (with_serial 0) ss ≡ slots_for iface (uses_at t op) m.wires
  slots_are facts one m ss x h =
      let same : h.message ≡ m = same_message facts.whole facts.shallow one h.message m h.asked x in
      let e : uses_of tables iface op ≡ uses_at t op = ap (λ (o : Option TableForm). uses_in o op) at in
      h.slots_are ∙ ap (λ (us : List HandleUse). slots_for iface us h.message.wires) e ∙ ap (λ (n : Msg). slots_for iface (uses_at t op) n.wires) same

  pub is_call : Facts t → OneMessage → IsOctets stub → (m : Msg) (ss : List Slot) (cookies : List (Option ℕ)) → IsAsked tables iface op order stub m
      → HasSlots tables iface op order stub ss → length ss ≤ 4 → suit_cookies ss cookies ≡ true
      → IsCall tables (record { iface = iface; op = op; message = m; cookies = row_of cookies })
  is_call facts one octets m ss cookies x h few suit = record {
    table = t;
    served = at;
    number = slice_get_within t.ops op x.operation (op_at m x);
    request = λ o e. of_op octets m x o e;
    handles = cookies_are_given t x.operation iface op m ss cookies facts.sound (op_at m x) (of_op octets m x x.operation (op_at m x))
        (slots_are facts one m ss x h) few suit;
  }

  pub kepts_suit : Facts t → OneMessage → IsOctets stub → (m : Msg) (ss : List Slot) (cookies row : List (Option ℕ)) (answer : Ans) → IsAsked tables iface op order stub m
      → HasSlots tables iface op order stub ss → suit_cookies ss cookies ≡ true
      → Owed tables (record { iface = iface; op = op; message = m; cookies = row }) answer → suit ss (results_of ss cookies answer) ≡ true
  kepts_suit facts one octets m ss cookies row answer x h fit owed =
      results_suit ss cookies answer fit
      (kepts_are_for_slots t x.operation iface op m ss answer facts.sound (op_at m x) (of_op octets m x x.operation (op_at m x)) (slots_are facts one m ss x h) (owed t at))

-- the table of an operation that is found
pub there : (o : Option TableForm) (op : ℕ) (x : OpForm) → op_in o op ≡ Some x → (t : TableForm) × (o ≡ Some t) × (slice_get t.ops op ≡ Some x)
there None op x e = absurd cc
there (Some t) op x e = (t, refl, e)

one_message : OneMessage
one_message types op way order asked octets m n o s t = one_stub types op way order asked octets m n o s t

-- a request has one message
pub one_asked : (tables : List TableForm) (iface op : ℕ) (order : Order) (stub : List ℕ)
    → ((n : ℕ) (t : TableForm) → slice_get tables n ≡ Some t → IsTable t.types t.ops t.uses × IsShallow t.types t.ops)
    → (m n : Msg) (x : IsAsked tables iface op order stub m) (y : IsAsked tables iface op order stub n) → (x.operation ≡ y.operation) × (m ≡ n)
one_asked tables iface op order stub whole m n x y =
    let s = there (slice_get tables iface) op x.operation x.found in
    let w = whole iface s.0 s.1 in (
      one_some x.operation y.operation (op_in (slice_get tables iface) op) x.found y.found,
      same_message tables s.0 iface op order stub s.1 w.0 w.1 one_message m n x y,
    )
