-- A request is a stub of its message.
use Rattle.std.proofs.Common.{◌≡◌, ◌≢◌, ℕ, ◌^◌, ◌≤◌, ◌<◌, Bool, true, false, List, length, Option, Some, None, Ok, Err, sym, ap, subst, ◌∙◌, arith}
use Rattle.std.specs.Prelude.{slice_get, Result, IfOk, IsTrue, ◌↔◌}
use Rattle.std.specs.Option.{option_map}
use Rattle.rpc_base.specs.declared.fault.NoMemory.{NoMemory}
use Rattle.rpc_base.specs.declared.identifiers.Order.TheVariants.{Little}
use Rattle.pdu_stream.specs.Fragments.{Joining}
use Rattle.ndr_value.specs.Values.{Msg}
use Rattle.ndr_table.specs.Tables.{OpForm, TableForm, IsTable}
use Rattle.ndr_table.specs.Nested.{IsShallow}
use Rattle.ndr_model.specs.declared.way.Way.TheVariants.{Request}
use Rattle.ndr_model.specs.declared.fault.NdrFault.{NdrFault}
use Rattle.ndr_model.specs.declared.fault.NdrFault.TheVariants.{Memory}
use Rattle.ndr_model.specs.Message.{IsStub}
use Rattle.ndr_laws.specs.Laws.{IsOp}
use Rattle.ndr_laws.specs.WrittenLaws.{WrittenIsStub}
use Rattle.ndr_model.specs.Fits.{IsOfOp}
use Rattle.ndr_codec.specs.declared.written.EncodeFault.{EncodeFault}
use Rattle.ndr_codec.specs.Faults.{IsThat}
use Rattle.client_core.specs.declared.begun.CallOut.{CallOut}
use Rattle.client_core.specs.Octets.{IsRequest}
use Rattle.client_core.specs.States.{ClientState, Calling, calling, next_id}
use Rattle.client_core.specs.Calls.{asking, IsMessage, out_call, CallsOp, Calls}
use Rattle.client_core.specs.Parts.{HasOp, FindsCall, Finds, CallsEach}
use Rattle.client_core.proofs.Heard.{found_op}

one_op : (a : Option OpForm) (o p : OpForm) → a ≡ Some o → a ≡ Some p → p ≡ o
one_op a o p h k = cc (h, k)

pub stands : (t : TableForm) (op : ℕ) (m : Msg) (octets : List ℕ) → IsTable t.types t.ops t.uses → IsShallow t.types t.ops → WrittenIsStub → IsMessage t op m
    → ((o : OpForm) → slice_get t.ops op ≡ Some o → octets ≡ asking t o m) → ((o : OpForm) → slice_get t.ops op ≡ Some o → length (asking t o m) ≤ 2 ^ 26)
    → (o : OpForm) → slice_get t.ops op ≡ Some o → IsStub t.types o Request Little None m octets
stands t op m octets whole shallow written (p, at, of) are short o found =
    let is_op : IsOp t.types o = record { ops = t.ops; uses = t.uses; number = op; table = whole; shallow = shallow; is = found } in
    let of_op : IsOfOp t.types o Request None m = subst (λ (x : OpForm). IsOfOp t.types x Request None m) (one_op (slice_get t.ops op) o p found at) of in
    subst (λ (x : List ℕ). IsStub t.types o Request Little None m x) (sym (are o found)) (written t.types o Request Little None m is_op of_op (omega (arith, short o found)))

-- the operation is there
pub calls : (s n : ClientState) (op : ℕ) (m : Msg) (result : Result (List ℕ) EncodeFault) → IsMessage s.interface op m → CallsEach s op m result n → Calls s op m result n
calls s n op m result (o, found, of) each = (o, found, each o found)

-- its octets are no more than a stub may have
pub stands_short : (t : TableForm) (op : ℕ) (m : Msg) (octets : List ℕ) → IsMessage t op m → ((o : OpForm) → slice_get t.ops op ≡ Some o → octets ≡ asking t o m)
    → ((o : OpForm) → slice_get t.ops op ≡ Some o → length (asking t o m) ≤ 2 ^ 26) → length octets ≤ 2 ^ 26
stands_short t op m octets (o, found, of) are short = omega (arith, ap length (are o found), short o found)

-- a message of the operation is one of whichever operation has the number
pub is_message : (t : TableForm) (op : ℕ) (m : Msg) (result : Result Bool NoMemory) → op < length t.ops
    → IfOk result (λ (b : Bool). (o : OpForm) → slice_get t.ops op ≡ Some o → IsTrue b ↔ IsOfOp t.types o Request None m) → IfOk result (λ (b : Bool). IsTrue b ↔ IsMessage t op m)
is_message t op m (Ok b) lt each =
    let o = found_op t.ops op lt in
    ((λ yes. (o.0, o.1, (each o.0 o.1).0 yes)), (λ that. (each that.0 that.1).1 that.2))
is_message t op m (Err e) lt each = tt

pub finds : (s : ClientState) (op : ℕ) (m : Msg) (maybe : Bool) (stub octets : List ℕ) (call : Option CallOut) → ((o : OpForm) → slice_get s.interface.ops op ≡ Some o → maybe ≡ o.maybe)
    → ((o : OpForm) → slice_get s.interface.ops op ≡ Some o → stub ≡ asking s.interface o m) → length stub ≤ 2 ^ 26 → IsRequest (next_id s) op maybe s.most stub octets
    → ((o : OpForm) → slice_get s.interface.ops op ≡ Some o → option_map calling call ≡ out_call s op m maybe) → HasOp s.interface call → Finds s op m (Ok (octets, call))
finds s op m maybe stub octets call wanted are short request calls known o found =
    let w = wanted o found in
    let a = are o found in
    let with_stub : IsRequest (next_id s) op maybe s.most (asking s.interface o m) octets = subst (λ (x : List ℕ). IsRequest (next_id s) op maybe s.most x octets) a request in
    (omega (arith, short, ap length a), (subst (λ (x : Bool). IsRequest (next_id s) op x s.most (asking s.interface o m) octets) w with_stub, calls o found ∙ ap (out_call s op m) w, known))

-- the call that is out then
pub out_is : (s : ClientState) (op : ℕ) (m asked : Msg) (maybe : Bool) (id : ℕ) (joining : Joining) → maybe ≡ false → id ≡ next_id s → asked ≡ m → joining ≡ Ok None
    → Some (record { id = id; op = op; message = asked; joining = joining }) ≡ out_call s op m maybe
out_is s op m asked true id joining wanted is said fresh = absurd (cc (wanted))
out_is s op m asked false id joining wanted is said fresh = λ i. Some (record { id = is i; op = op; message = said i; joining = fresh i })

pub begins : (s n : ClientState) (op : ℕ) (o : OpForm) (m : Msg) (octets : List ℕ) (call : Option CallOut) → n ≡ record s { newest = next_id s; call = option_map calling call }
    → (length (asking s.interface o m) ≤ 2 ^ 26) × FindsCall s o op m (Ok (octets, call)) → CallsOp s o op m (Ok octets) n
begins s n op o m octets call is f = (f.0, (f.1.0, is ∙ ap (λ (x : Option Calling). record s { newest = next_id s; call = x }) f.1.1))

-- what is a stub of a message is read, unless memory runs out
pub is_read : (t : TableForm) (op : ℕ) (stub : List ℕ) (fault : NdrFault) → op < length t.ops → ((o : OpForm) → slice_get t.ops op ≡ Some o → (m : Msg) × IsStub t.types o Request Little None m stub)
    → ((o : OpForm) (m : Msg) → slice_get t.ops op ≡ Some o → IsStub t.types o Request Little None m stub → IsThat (Err fault) m) → fault ≢ Memory → ⊥
is_read t op stub fault lt stubs only not =
    let o = found_op t.ops op lt in
    let m = stubs o.0 o.1 in
    not (only o.0 m.0 o.1 m.1)
