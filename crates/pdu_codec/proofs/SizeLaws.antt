-- How many octets bodies have: a PDU that has a spelling can be written.
use Rattle.std.proofs.Common.{◌≡◌, ℕ, ◌+◌, ◌*◌, ◌^◌, ◌<◌, ◌≤◌, List, [], ◌∷◌, ◌++◌, length, Option, Some, None, refl, sym, ap, subst, ◌∙◌, arith}
use Rattle.std.specs.Prelude.{replicate, is_some, IfSome}
use Rattle.std.specs.List.{flat_map, AllByRecursion}
use Rattle.std.proofs.lemmas.List.{length-append, length-replicate}
use Rattle.rpc_base.specs.declared.identifiers.Order.{Order}
use Rattle.rpc_base.specs.Fields.{u16_octets, u32_octets, syntax_octets, FitsSyntax}
use Rattle.rpc_base.proofs.FieldLaws.{wide16, wide32, length-syntax_octets, length-uuid_octets}
use Rattle.pdu_codec.specs.Constants.{header_size, most_minor}
use Rattle.pdu_codec.specs.declared.pdu.Pdu.{Pdu}
use Rattle.pdu_codec.specs.declared.pdu.Body.{Body}
use Rattle.pdu_codec.specs.declared.pdu.Body.TheVariants.{Request, Response, Fault, Bind, BindAck, BindNak, Alter, AlterResp, Shutdown, CoCancel, Orphaned}
use Rattle.pdu_codec.specs.declared.pdu.RequestBody.{RequestBody}
use Rattle.pdu_codec.specs.declared.pdu.ResponseBody.{ResponseBody}
use Rattle.pdu_codec.specs.declared.pdu.FaultBody.{FaultBody}
use Rattle.pdu_codec.specs.declared.pdu.BindBody.{BindBody}
use Rattle.pdu_codec.specs.declared.pdu.BindAckBody.{BindAckBody}
use Rattle.pdu_codec.specs.declared.pdu.BindNakBody.{BindNakBody}
use Rattle.pdu_codec.specs.declared.pdu.AlterRespBody.{AlterRespBody}
use Rattle.pdu_codec.specs.declared.pdu.Version.{Version}
use Rattle.pdu_codec.specs.declared.pdu.Element.{Element}
use Rattle.pdu_codec.specs.declared.pdu.ContextResult.{ContextResult}
use Rattle.pdu_codec.specs.Pdus.{zeros_3, has_object, object_octets, request_octets, response_octets, fault_octets, maxima_octets, syntaxes_octets, element_octets, bind_octets, gap, result_octets, results_octets, bind_ack_octets, as_bind, as_bind_ack, version_octets, versions_octets, bind_nak_octets, IsElement, AreSpelled, IsBind, IsBindAck, IsBody, IsPdu, written_bind, written_bind_ack, body_octets, pdu_octets, HasSpelling, IsWritable}
use Rattle.pdu_codec.proofs.WritingLaws.{length-pdu_octets}
use Rattle.pdu_codec.proofs.PduLaws.{pdu_says}

object_most : (order : Order) (object : Option (List ℕ)) → IfSome object (λ id. length id ≡ 16) → length (object_octets order object) ≤ 16
object_most order None fits = omega arith
object_most order (Some id) fits = omega (arith, length-uuid_octets order id fits)

pub length-request : (order : Order) (b : RequestBody) → length (request_octets order b) ≡ 8 + length (object_octets order b.object) + length b.stub
unfolding request_octets
length-request order b =
    let h = u32_octets order b.alloc_hint in
    let c = u16_octets order b.context in
    let o = u16_octets order b.op in
    let u = object_octets order b.object in
    omega (arith, length-append (h ++ c ++ o ++ u) b.stub, length-append (h ++ c ++ o) u, length-append (h ++ c) o, length-append h c, wide32.len order b.alloc_hint, wide16.len order b.context, wide16.len order b.op)

pub length-response : (order : Order) (reserved : ℕ) (b : ResponseBody) → length (response_octets order reserved b) ≡ 8 + length b.stub
unfolding response_octets
length-response order reserved b =
    let h = u32_octets order b.alloc_hint in
    let c = u16_octets order b.context in
    omega (arith, length-append (h ++ c) (b.cancel_count ∷ reserved ∷ b.stub), length-append h c, wide32.len order b.alloc_hint, wide16.len order b.context)

pub length-fault : (order : Order) (reserved : ℕ) (rest : List ℕ) (b : FaultBody) → length (fault_octets order reserved rest b) ≡ 12 + length rest
unfolding fault_octets
length-fault order reserved rest b =
    let h = u32_octets order b.alloc_hint in
    let c = u16_octets order b.context in
    let s = u32_octets order b.status.0 in
    omega (arith, length-append (h ++ c) (b.cancel_count ∷ reserved ∷ (s ++ rest)), length-append h c, length-append s rest, wide32.len order b.alloc_hint, wide16.len order b.context, wide32.len order b.status.0)

length-maxima : (order : Order) (max_xmit max_recv group : ℕ) (rest : List ℕ) → length (maxima_octets order max_xmit max_recv group rest) ≡ 8 + length rest
length-maxima order max_xmit max_recv group rest =
    let x = u16_octets order max_xmit in
    let r = u16_octets order max_recv in
    let g = u32_octets order group in
    omega (arith, length-append (x ++ r ++ g) rest, length-append (x ++ r) g, length-append x r, wide16.len order max_xmit, wide16.len order max_recv, wide32.len order group)

length-element : (order : Order) (reserved : ℕ) (e : Element) → length (element_octets order reserved e) ≡ 4 + length (syntax_octets order e.syntax) + length (syntaxes_octets order e.transfers)
unfolding element_octets
length-element order reserved e =
    let c = u16_octets order e.context in
    let s = syntax_octets order e.syntax in
    let t = syntaxes_octets order e.transfers in
    omega (arith, length-append c (length e.transfers ∷ reserved ∷ (s ++ t)), length-append s t, wide16.len order e.context)

length-elements : (order : Order) (es : List Element) (octets : List ℕ) → AreSpelled (IsElement order) es octets → length octets ≡ length (flat_map (element_octets order 0) es)
length-elements order [] octets are = ap length are
length-elements order (e ∷ es) octets are =
    let first = are.0 in
    let others = are.1 in
    let one : length first ≡ length (element_octets order 0 e) = ap length are.3.whole ∙ length-element order are.3.reserved e ∙ sym (length-element order 0 e) in
    let more : length others ≡ length (flat_map (element_octets order 0) es) = length-elements order es others are.4 in
    ap length are.2 ∙ length-append first others ∙ (λ i. one i + more i) ∙ sym (length-append (element_octets order 0 e) (flat_map (element_octets order 0) es))

pub length-bind : (order : Order) (reserved elements rest : List ℕ) (b : BindBody) → length (bind_octets order reserved elements rest b) ≡ 9 + length reserved + length elements + length rest
unfolding bind_octets
length-bind order reserved elements rest b =
    omega (arith, length-maxima order b.max_xmit b.max_recv b.group (length b.elements ∷ (reserved ++ elements ++ rest)), length-append (reserved ++ elements) rest, length-append reserved elements)

pub length-bind_ack : (order : Order) (padding reserved rest : List ℕ) (b : BindAckBody)
    → length (bind_ack_octets order padding reserved rest b) ≡ 11 + length b.address + length padding + length reserved + length (results_octets order b.results) + length rest
unfolding bind_ack_octets
length-bind_ack order padding reserved rest b =
    let s = u16_octets order (length b.address) in
    let r = results_octets order b.results in
    let last = length b.results ∷ (reserved ++ r ++ rest) in
    omega (
      arith,
      length-maxima order b.max_xmit b.max_recv b.group (s ++ b.address ++ padding ++ last),
      length-append (s ++ b.address ++ padding) last,
      length-append (s ++ b.address) padding,
      length-append s b.address,
      length-append (reserved ++ r) rest,
      length-append reserved r,
      wide16.len order (length b.address),
    )

length-versions : (vs : List Version) → length (versions_octets vs) ≡ 2 * length vs
length-versions [] = refl
length-versions (v ∷ vs) = omega (arith, length-append (version_octets v) (versions_octets vs), length-versions vs)

pub length-bind_nak : (order : Order) (rest : List ℕ) (b : BindNakBody) → length (bind_nak_octets order rest b) ≡ 3 + 2 * length b.versions + length rest
unfolding bind_nak_octets
length-bind_nak order rest b =
    let r = u16_octets order b.reason in
    let v = versions_octets b.versions in
    omega (arith, length-append r (length b.versions ∷ (v ++ rest)), length-append v rest, length-versions b.versions, wide16.len order b.reason)

-- ---- a PDU that has a spelling can be written

elements_few : (order : Order) (es : List Element) (octets : List ℕ) → AreSpelled (IsElement order) es octets → AllByRecursion (λ e. length e.transfers < 256) es
elements_few order [] octets are = tt
elements_few order (e ∷ es) octets are = (are.3.few, elements_few order es are.1 are.4)

body_has : (order : Order) (flags : ℕ) (body : Body) (octets : List ℕ) → IsBody order flags body octets → HasSpelling flags body
body_has order flags (Request b) octets is = is.object
body_has order flags (Response b) octets is = tt
body_has order flags (Fault b) octets is = tt
body_has order flags (Bind b) octets is = (is.few, elements_few order b.elements is.elements is.are)
body_has order flags (BindAck b) octets is = (is.short, is.few)
body_has order flags (BindNak b) octets is = is.few
body_has order flags (Alter b) octets is = (is.few, elements_few order b.elements is.elements is.are)
body_has order flags (AlterResp b) octets is = (is.short, is.few)
body_has order flags Shutdown octets is = tt
body_has order flags CoCancel octets is = tt
body_has order flags Orphaned octets is = tt

-- the body that is written is the shortest
bind_shortest : (order : Order) (b : BindBody) (octets : List ℕ) → IsBind order b octets → length (written_bind order b) ≤ length octets
bind_shortest order b octets is =
    let written = flat_map (element_octets order 0) b.elements in
    omega (arith, ap length is.whole, length-bind order is.reserved is.elements is.rest b, length-bind order zeros_3 written [] b, length-elements order b.elements is.elements is.are, is.three)

bind_ack_shortest : (order : Order) (b : BindAckBody) (octets : List ℕ) → IsBindAck order b octets → length (written_bind_ack order b) ≤ length octets
bind_ack_shortest order b octets is =
    let padding : List ℕ = replicate (gap (10 + length b.address)) 0 in
    omega (arith, ap length is.whole, length-bind_ack order is.padding is.reserved is.rest b, length-bind_ack order padding zeros_3 [] b, is.aligned, length-replicate {A = ℕ} (gap (10 + length b.address)) 0, is.three)

body_shortest : (order : Order) (flags : ℕ) (body : Body) (octets : List ℕ) → IsBody order flags body octets → length (body_octets order body) ≤ length octets
body_shortest order flags (Request b) octets is = omega (arith, ap length is.whole)
body_shortest order flags (Response b) octets is = omega (arith, ap length is.whole, length-response order is.reserved b, length-response order 0 b)
body_shortest order flags (Fault b) octets is = omega (arith, ap length is.whole, length-fault order is.reserved is.rest b, length-fault order 0 (0 ∷ zeros_3) b, is.four)
body_shortest order flags (Bind b) octets is = bind_shortest order b octets is
body_shortest order flags (BindAck b) octets is = bind_ack_shortest order b octets is
body_shortest order flags (BindNak b) octets is = omega (arith, ap length is.whole, length-bind_nak order is.rest b, length-bind_nak order [] b)
body_shortest order flags (Alter b) octets is = bind_shortest order (as_bind b) octets is
body_shortest order flags (AlterResp b) octets is = bind_ack_shortest order (as_bind_ack b) octets is
body_shortest order flags Shutdown octets is = omega arith
body_shortest order flags CoCancel octets is = omega arith
body_shortest order flags Orphaned octets is = omega arith

pub pdu_writable : (p : Pdu) (octets : List ℕ) → IsPdu p octets → IsWritable p
pdu_writable p octets is =
    let s = pdu_says p octets is in
    let short = body_shortest p.order p.flags p.body is.body is.is_body in
    record {
      minor = is.minor;
      body = body_has p.order p.flags p.body is.body is.is_body;
      size = omega (arith, length-pdu_octets p, s.len, is.size, short);
    }

-- ---- answers that can be written

-- a PDU with this body
body_size : (p : Pdu) (body : Body) → p.body ≡ body → length (pdu_octets p) ≡ header_size + length (body_octets p.order body)
body_size p body is = length-pdu_octets p ∙ ap (λ (b : Body). header_size + length (body_octets p.order b)) is

pub request_writable : (p : Pdu) (b : RequestBody) → p.minor ≤ most_minor → p.body ≡ Request b → is_some b.object ≡ has_object p.flags → IfSome b.object (λ id. length id ≡ header_size) → 40 + length b.stub < 2 ^ 16 → IsWritable p
request_writable p b minor is object id short = record {
  minor = minor;
  body = subst (λ (x : Body). HasSpelling p.flags x) (sym is) object;
  size = omega (arith, body_size p (Request b) is, length-request p.order b, object_most p.order b.object id, short);
}

pub response_writable : (p : Pdu) (b : ResponseBody) → p.minor ≤ most_minor → p.body ≡ Response b → 24 + length b.stub < 2 ^ 16 → IsWritable p
response_writable p b minor is short = record {
  minor = minor;
  body = subst (λ (x : Body). HasSpelling p.flags x) (sym is) tt;
  size = omega (arith, body_size p (Response b) is, length-response p.order 0 b, short);
}

pub fault_writable : (p : Pdu) (b : FaultBody) → p.minor ≤ most_minor → p.body ≡ Fault b → IsWritable p
fault_writable p b minor is = record {
  minor = minor;
  body = subst (λ (x : Body). HasSpelling p.flags x) (sym is) tt;
  size = omega (arith, body_size p (Fault b) is, length-fault p.order 0 (0 ∷ zeros_3) b);
}

length-result : (order : Order) (r : ContextResult) → FitsSyntax r.transfer → length (result_octets order r) ≡ 24
unfolding result_octets
length-result order r fits =
    let a = u16_octets order r.result in
    let b = u16_octets order r.reason in
    let s = syntax_octets order r.transfer in
    omega (arith, length-append (a ++ b) s, length-append a b, wide16.len order r.result, wide16.len order r.reason, length-syntax_octets order r.transfer fits)

length-results : (order : Order) (rs : List ContextResult) → AllByRecursion (λ r. FitsSyntax r.transfer) rs → length (results_octets order rs) ≡ 24 * length rs
length-results order [] fits = refl
length-results order (r ∷ rs) fits =
    omega (arith, length-append (result_octets order r) (results_octets order rs), length-result order r fits.0, length-results order rs fits.1)

pub bind_ack_writable : (p : Pdu) (b : BindAckBody) → p.minor ≤ most_minor → p.body ≡ BindAck b → length b.results < 256 → AllByRecursion (λ r. FitsSyntax r.transfer) b.results
    → 33 + length b.address + 24 * length b.results < 2 ^ 16 → IsWritable p
bind_ack_writable p b minor is few fits short =
    let padding : List ℕ = replicate (gap (10 + length b.address)) 0 in
    record {
      minor = minor;
      body = subst (λ (x : Body). HasSpelling p.flags x) (sym is) (omega arith, few);
      size = omega (arith, body_size p (BindAck b) is, length-bind_ack p.order padding zeros_3 [] b, length-replicate {A = ℕ} (gap (10 + length b.address)) 0, length-results p.order b.results fits, short);
    }

pub bind_nak_writable : (p : Pdu) (b : BindNakBody) → p.minor ≤ most_minor → p.body ≡ BindNak b → length b.versions < 256 → IsWritable p
bind_nak_writable p b minor is few = record {
  minor = minor;
  body = subst (λ (x : Body). HasSpelling p.flags x) (sym is) few;
  size = omega (arith, body_size p (BindNak b) is, length-bind_nak p.order [] b);
}

pub alter_resp_writable : (p : Pdu) (b : AlterRespBody) → p.minor ≤ most_minor → p.body ≡ AlterResp b → length b.results < 256 → AllByRecursion (λ r. FitsSyntax r.transfer) b.results
    → 33 + length b.address + 24 * length b.results < 2 ^ 16 → IsWritable p
alter_resp_writable p b minor is few fits short =
    let padding : List ℕ = replicate (gap (10 + length b.address)) 0 in
    record {
      minor = minor;
      body = subst (λ (x : Body). HasSpelling p.flags x) (sym is) (omega arith, few);
      size = omega (arith, body_size p (AlterResp b) is, length-bind_ack p.order padding zeros_3 [] (as_bind_ack b), length-replicate {A = ℕ} (gap (10 + length b.address)) 0, length-results p.order b.results fits, short);
    }

-- a PDU without fields
pub plain_writable : (p : Pdu) → p.minor ≤ most_minor → HasSpelling p.flags p.body → body_octets p.order p.body ≡ [] → IsWritable p
plain_writable p minor has none = record { minor = minor; body = has; size = omega (arith, length-pdu_octets p, ap length none) }
