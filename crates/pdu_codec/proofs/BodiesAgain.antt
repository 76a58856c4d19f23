-- A body that is read is spelled by the octets, and a body that the octets spell is read.
use Rattle.std.proofs.Common.{◌≡◌, ℕ, suc, ◌+◌, ◌^◌, ◌<◌, ◌≤◌, Bool, true, false, cond, List, [], ◌∷◌, ◌++◌, length, take, drop, Option, Some, None, refl, sym, ap, subst, ◌∙◌, append_assoc, arith}
use Rattle.std.specs.Prelude.{is_some, IfSome}
use Rattle.std.specs.List.{AllByRecursion}
use Rattle.std.proofs.lemmas.List.{length-append, length-take, take-append-drop}
use Rattle.rpc_base.specs.declared.identifiers.Order.{Order}
use Rattle.rpc_base.specs.declared.identifiers.SyntaxId.{SyntaxId}
use Rattle.rpc_base.specs.Fields.{IsOctets, u16_octets, u32_octets, syntax_octets, FitsSyntax}
use Rattle.pdu_codec.specs.declared.pdu.RequestBody.{RequestBody}
use Rattle.pdu_codec.specs.declared.pdu.ResponseBody.{ResponseBody}
use Rattle.pdu_codec.specs.declared.pdu.FaultBody.{FaultBody}
use Rattle.pdu_codec.specs.declared.pdu.BindBody.{BindBody}
use Rattle.pdu_codec.specs.declared.pdu.BindAckBody.{BindAckBody}
use Rattle.pdu_codec.specs.declared.pdu.BindNakBody.{BindNakBody}
use Rattle.pdu_codec.specs.declared.pdu.Version.{Version}
use Rattle.pdu_codec.specs.declared.pdu.Element.{Element}
use Rattle.pdu_codec.specs.declared.pdu.ContextResult.{ContextResult}
use Rattle.pdu_codec.specs.Pdus.{has_object, object_octets, request_octets, response_octets, fault_octets, syntaxes_octets, element_octets, bind_octets, gap, result_octets, results_octets, bind_ack_octets, version_octets, versions_octets, bind_nak_octets, IsElement, IsRequest, IsResponse, IsFaultBody, IsBind, IsBindAck, IsBindNak, FitsRequest, FitsResponse, FitsFaultBody, FitsElement, FitsBind, FitsResult, FitsBindAck, FitsVersion, FitsBindNak}
use Rattle.pdu_codec.specs.Reading.{◌>>=◌, u16_at, u32_at, uuid_at, syntax_at, piece_at, octet_at, object_at, request_at, response_at, fault_at, items_at, element_at, bind_at, result_at, address_at, bind_ack_at, version_at, bind_nak_at}
use Rattle.pdu_codec.proofs.FieldsAgain.{bind_ok, some_is, through, Takes, Takes-then, u16_takes, u16_again, u32_takes, u32_again, uuid_takes, uuid_again, syntax_takes, syntax_read_again, piece_takes, piece_again, Reads, items_takes, items_again, IsText, spelled-flat_map, flat_map-spelled}

-- ---- one octet

pub record TakesOctet (octets : List ℕ) (x : ℕ × List ℕ) : Type 0 where
  pub parts : octets ≡ x.0 ∷ x.1
  pub octet : x.0 < 256
  pub fits : IsOctets x.1

pub octet_takes : (octets : List ℕ) (x : ℕ × List ℕ) → IsOctets octets → octet_at octets ≡ Some x → TakesOctet octets x
octet_takes [] x fits e = absurd cc
octet_takes (y ∷ octets) x fits e =
    let made : ℕ × List ℕ = (y, octets) in
    let all : TakesOctet (y ∷ octets) made = record { parts = refl; octet = fits 0; fits = λ i. fits (suc i) } in
    subst (λ (z : ℕ × List ℕ). TakesOctet (y ∷ octets) z) (some_is made x e) all

-- ---- requests

pub record TakesObject (order : Order) (present : Bool) (octets : List ℕ) (x : Option (List ℕ) × List ℕ) : Type 0 where
  pub taken : Takes octets (object_octets order x.0) x.1
  pub present_is : is_some x.0 ≡ present
  pub fits : IfSome x.0 (λ id. length id ≡ 16)

object_takes : (order : Order) (present : Bool) (octets : List ℕ) (x : Option (List ℕ) × List ℕ) → IsOctets octets
    → cond present (uuid_at order octets >>= λ id. Some (Some id.0, id.1)) (Some (None, octets)) ≡ Some x → TakesObject order present octets x
object_takes order true octets x fits e =
    let a = bind_ok (uuid_at order octets) (λ id. Some (Some id.0, id.1)) x e in
    let t = uuid_takes order octets a.0 fits a.1 in
    let made : Option (List ℕ) × List ℕ = (Some a.0.0, a.0.1) in
    let all : TakesObject order true octets made = record { taken = t.0; present_is = refl; fits = t.1 } in
    subst (λ (y : Option (List ℕ) × List ℕ). TakesObject order true octets y) (some_is made x a.2) all
object_takes order false octets x fits e =
    let made : Option (List ℕ) × List ℕ = (None, octets) in
    let all : TakesObject order false octets made = record { taken = record { parts = refl; fits = fits }; present_is = refl; fits = tt } in
    subst (λ (y : Option (List ℕ) × List ℕ). TakesObject order false octets y) (some_is made x e) all

object_again : (order : Order) (flags : ℕ) (object : Option (List ℕ)) (rest : List ℕ) → is_some object ≡ has_object flags → IfSome object (λ id. length id ≡ 16)
    → object_at order flags (object_octets order object ++ rest) ≡ Some (object, rest)
unfolding object_at
object_again order flags None rest present fits =
    ap (λ (b : Bool). cond b (uuid_at order rest >>= λ id. Some (Some id.0, id.1)) (Some (None, rest))) (sym present)
object_again order flags (Some id) rest present fits =
    let text = object_octets order (Some id) ++ rest in
    ap (λ (b : Bool). cond b (uuid_at order text >>= λ x. Some (Some x.0, x.1)) (Some (None, text))) (sym present)
    ∙ through (uuid_at order text) (λ x. Some (Some x.0, x.1)) (id, rest) (uuid_again order id rest fits)

pub request_takes : (order : Order) (flags : ℕ) (octets : List ℕ) (b : RequestBody) → IsOctets octets → request_at order flags octets ≡ Some b → IsRequest order flags b octets × FitsRequest b
unfolding request_at object_at request_octets
request_takes order flags octets b fits e =
    let h = bind_ok (u32_at order octets) (λ hint. u16_at order hint.1 >>= λ context. u16_at order context.1 >>= λ op. object_at order flags op.1 >>= λ object. Some (record { alloc_hint = hint.0; context = context.0; op = op.0; object = object.0; stub = object.1 })) b e in
    let c = bind_ok (u16_at order h.0.1) (λ context. u16_at order context.1 >>= λ op. object_at order flags op.1 >>= λ object. Some (record { alloc_hint = h.0.0; context = context.0; op = op.0; object = object.0; stub = object.1 })) b h.2 in
    let o = bind_ok (u16_at order c.0.1) (λ op. object_at order flags op.1 >>= λ object. Some (record { alloc_hint = h.0.0; context = c.0.0; op = op.0; object = object.0; stub = object.1 })) b c.2 in
    let u = bind_ok (object_at order flags o.0.1) (λ object. Some (record { alloc_hint = h.0.0; context = c.0.0; op = o.0.0; object = object.0; stub = object.1 })) b o.2 in
    let th = u32_takes order octets h.0 fits h.1 in
    let tc = u16_takes order h.0.1 c.0 th.0.fits c.1 in
    let to = u16_takes order c.0.1 o.0 tc.0.fits o.1 in
    let tu = object_takes order (has_object flags) o.0.1 u.0 to.0.fits u.1 in
    let t1 = Takes-then octets (u32_octets order h.0.0) h.0.1 (u16_octets order c.0.0) c.0.1 th.0 tc.0 in
    let t2 = Takes-then octets (u32_octets order h.0.0 ++ u16_octets order c.0.0) c.0.1 (u16_octets order o.0.0) o.0.1 t1 to.0 in
    let t3 = Takes-then octets (u32_octets order h.0.0 ++ u16_octets order c.0.0 ++ u16_octets order o.0.0) o.0.1 (object_octets order u.0.0) u.0.1 t2 tu.taken in
    let made : RequestBody = record { alloc_hint = h.0.0; context = c.0.0; op = o.0.0; object = u.0.0; stub = u.0.1 } in
    let all : IsRequest order flags made octets × FitsRequest made = (record { object = tu.present_is; whole = t3.parts }, record { alloc_hint = th.1; context = tc.1; op = to.1; object = tu.fits }) in
    subst (λ (x : RequestBody). IsRequest order flags x octets × FitsRequest x) (some_is made b u.2) all

regroup_5 : (a b c d e : List ℕ) → a ++ b ++ c ++ d ++ e ≡ a ++ (b ++ (c ++ (d ++ e)))
regroup_5 a b c d e = simp append_assoc

pub request_again : (order : Order) (flags : ℕ) (octets : List ℕ) (b : RequestBody) → IsRequest order flags b octets → FitsRequest b → request_at order flags octets ≡ Some b
unfolding request_at request_octets
request_again order flags octets b is fits =
    let r3 = object_octets order b.object ++ b.stub in
    let r2 = u16_octets order b.op ++ r3 in
    let r1 = u16_octets order b.context ++ r2 in
    let parts : octets ≡ u32_octets order b.alloc_hint ++ r1 = is.whole ∙ regroup_5 (u32_octets order b.alloc_hint) (u16_octets order b.context) (u16_octets order b.op) (object_octets order b.object) b.stub in
    let e0 : u32_at order octets ≡ Some (b.alloc_hint, r1) = ap (u32_at order) parts ∙ u32_again order b.alloc_hint r1 fits.alloc_hint in
    let e1 : u16_at order r1 ≡ Some (b.context, r2) = u16_again order b.context r2 fits.context in
    let e2 : u16_at order r2 ≡ Some (b.op, r3) = u16_again order b.op r3 fits.op in
    let e3 : object_at order flags r3 ≡ Some (b.object, b.stub) = object_again order flags b.object b.stub is.object fits.object in
    rw (e0, e1, e2, e3) refl

-- ---- responses and faults

pub response_takes : (order : Order) (octets : List ℕ) (b : ResponseBody) → IsOctets octets → response_at order octets ≡ Some b → IsResponse order b octets × FitsResponse b
unfolding response_at response_octets
response_takes order octets b fits e =
    let h = bind_ok (u32_at order octets) (λ hint. u16_at order hint.1 >>= λ context. octet_at context.1 >>= λ cancels. octet_at cancels.1 >>= λ reserved. Some (record { alloc_hint = hint.0; context = context.0; cancel_count = cancels.0; stub = reserved.1 })) b e in
    let c = bind_ok (u16_at order h.0.1) (λ context. octet_at context.1 >>= λ cancels. octet_at cancels.1 >>= λ reserved. Some (record { alloc_hint = h.0.0; context = context.0; cancel_count = cancels.0; stub = reserved.1 })) b h.2 in
    let n = bind_ok (octet_at c.0.1) (λ cancels. octet_at cancels.1 >>= λ reserved. Some (record { alloc_hint = h.0.0; context = c.0.0; cancel_count = cancels.0; stub = reserved.1 })) b c.2 in
    let r = bind_ok (octet_at n.0.1) (λ reserved. Some (record { alloc_hint = h.0.0; context = c.0.0; cancel_count = n.0.0; stub = reserved.1 })) b n.2 in
    let th = u32_takes order octets h.0 fits h.1 in
    let tc = u16_takes order h.0.1 c.0 th.0.fits c.1 in
    let tn = octet_takes c.0.1 n.0 tc.0.fits n.1 in
    let tr = octet_takes n.0.1 r.0 tn.fits r.1 in
    let t1 = Takes-then octets (u32_octets order h.0.0) h.0.1 (u16_octets order c.0.0) c.0.1 th.0 tc.0 in
    let front = u32_octets order h.0.0 ++ u16_octets order c.0.0 in
    let made : ResponseBody = record { alloc_hint = h.0.0; context = c.0.0; cancel_count = n.0.0; stub = r.0.1 } in
    let whole : octets ≡ front ++ (n.0.0 ∷ r.0.0 ∷ r.0.1) = t1.parts ∙ ap (λ (t : List ℕ). front ++ t) (tn.parts ∙ ap (λ (t : List ℕ). n.0.0 ∷ t) tr.parts) in
    let all : IsResponse order made octets × FitsResponse made = (record { reserved = r.0.0; whole = whole }, record { alloc_hint = th.1; context = tc.1; cancel_count = tn.octet }) in
    subst (λ (x : ResponseBody). IsResponse order x octets × FitsResponse x) (some_is made b r.2) all

pub response_again : (order : Order) (octets : List ℕ) (b : ResponseBody) → IsResponse order b octets → FitsResponse b → response_at order octets ≡ Some b
unfolding response_at response_octets
response_again order octets b is fits =
    let r2 = b.cancel_count ∷ is.reserved ∷ b.stub in
    let r1 = u16_octets order b.context ++ r2 in
    let parts : octets ≡ u32_octets order b.alloc_hint ++ r1 = is.whole ∙ append_assoc (u32_octets order b.alloc_hint) (u16_octets order b.context) r2 in
    let e0 : u32_at order octets ≡ Some (b.alloc_hint, r1) = ap (u32_at order) parts ∙ u32_again order b.alloc_hint r1 fits.alloc_hint in
    let e1 : u16_at order r1 ≡ Some (b.context, r2) = u16_again order b.context r2 fits.context in
    rw (e0, e1) refl

pub fault_takes : (order : Order) (octets : List ℕ) (b : FaultBody) → IsOctets octets → fault_at order octets ≡ Some b → IsFaultBody order b octets × FitsFaultBody b
unfolding fault_at fault_octets
fault_takes order octets b fits e =
    let h = bind_ok (u32_at order octets) (λ hint. u16_at order hint.1 >>= λ context. octet_at context.1 >>= λ cancels. octet_at cancels.1 >>= λ reserved. u32_at order reserved.1 >>= λ status. piece_at 4 status.1 >>= λ last. Some (record { alloc_hint = hint.0; context = context.0; cancel_count = cancels.0; status = record { 0 = status.0 } })) b e in
    let c = bind_ok (u16_at order h.0.1) (λ context. octet_at context.1 >>= λ cancels. octet_at cancels.1 >>= λ reserved. u32_at order reserved.1 >>= λ status. piece_at 4 status.1 >>= λ last. Some (record { alloc_hint = h.0.0; context = context.0; cancel_count = cancels.0; status = record { 0 = status.0 } })) b h.2 in
    let n = bind_ok (octet_at c.0.1) (λ cancels. octet_at cancels.1 >>= λ reserved. u32_at order reserved.1 >>= λ status. piece_at 4 status.1 >>= λ last. Some (record { alloc_hint = h.0.0; context = c.0.0; cancel_count = cancels.0; status = record { 0 = status.0 } })) b c.2 in
    let r = bind_ok (octet_at n.0.1) (λ reserved. u32_at order reserved.1 >>= λ status. piece_at 4 status.1 >>= λ last. Some (record { alloc_hint = h.0.0; context = c.0.0; cancel_count = n.0.0; status = record { 0 = status.0 } })) b n.2 in
    let s = bind_ok (u32_at order r.0.1) (λ status. piece_at 4 status.1 >>= λ last. Some (record { alloc_hint = h.0.0; context = c.0.0; cancel_count = n.0.0; status = record { 0 = status.0 } })) b r.2 in
    let l = bind_ok (piece_at 4 s.0.1) (λ last. Some (record { alloc_hint = h.0.0; context = c.0.0; cancel_count = n.0.0; status = record { 0 = s.0.0 } })) b s.2 in
    let th = u32_takes order octets h.0 fits h.1 in
    let tc = u16_takes order h.0.1 c.0 th.0.fits c.1 in
    let tn = octet_takes c.0.1 n.0 tc.0.fits n.1 in
    let tr = octet_takes n.0.1 r.0 tn.fits r.1 in
    let ts = u32_takes order r.0.1 s.0 tr.fits s.1 in
    let tl = piece_takes 4 s.0.1 l.0 ts.0.fits l.1 in
    let t1 = Takes-then octets (u32_octets order h.0.0) h.0.1 (u16_octets order c.0.0) c.0.1 th.0 tc.0 in
    let front = u32_octets order h.0.0 ++ u16_octets order c.0.0 in
    let made : FaultBody = record { alloc_hint = h.0.0; context = c.0.0; cancel_count = n.0.0; status = record { 0 = s.0.0 } } in
    let whole : octets ≡ front ++ (n.0.0 ∷ r.0.0 ∷ (u32_octets order s.0.0 ++ s.0.1)) =
    t1.parts ∙ ap (λ (t : List ℕ). front ++ t) (tn.parts ∙ ap (λ (t : List ℕ). n.0.0 ∷ t) (tr.parts ∙ ap (λ (t : List ℕ). r.0.0 ∷ t) ts.0.parts)) in
    let four : 4 ≤ length s.0.1 = omega (arith, ap length tl.0.parts, length-append l.0.0 l.0.1, tl.1) in
    let all : IsFaultBody order made octets × FitsFaultBody made =
    (record { reserved = r.0.0; rest = s.0.1; four = four; whole = whole }, record { alloc_hint = th.1; context = tc.1; cancel_count = tn.octet; status = ts.1 }) in
    subst (λ (x : FaultBody). IsFaultBody order x octets × FitsFaultBody x) (some_is made b l.2) all

pub fault_again : (order : Order) (octets : List ℕ) (b : FaultBody) → IsFaultBody order b octets → FitsFaultBody b → fault_at order octets ≡ Some b
unfolding fault_at fault_octets
fault_again order octets b is fits =
    let r3 = u32_octets order b.status.0 ++ is.rest in
    let r2 = b.cancel_count ∷ is.reserved ∷ r3 in
    let r1 = u16_octets order b.context ++ r2 in
    let parts : octets ≡ u32_octets order b.alloc_hint ++ r1 = is.whole ∙ append_assoc (u32_octets order b.alloc_hint) (u16_octets order b.context) r2 in
    let e0 : u32_at order octets ≡ Some (b.alloc_hint, r1) = ap (u32_at order) parts ∙ u32_again order b.alloc_hint r1 fits.alloc_hint in
    let e1 : u16_at order r1 ≡ Some (b.context, r2) = u16_again order b.context r2 fits.context in
    let e2 : u32_at order r3 ≡ Some (b.status.0, is.rest) = u32_again order b.status.0 is.rest fits.status in
    let front = take 4 is.rest in
    let last : piece_at 4 is.rest ≡ Some (front, drop 4 is.rest) = ap (piece_at 4) (sym (take-append-drop 4 is.rest)) ∙ piece_again 4 front (drop 4 is.rest) (omega (arith, length-take 4 is.rest, is.four)) in
    rw (e0, e1, e2, last) refl

-- ---- elements and binds

each_syntax : (order : Order) (octets : List ℕ) (x : SyntaxId × List ℕ) → IsOctets octets → syntax_at order octets ≡ Some x → Reads (IsText (syntax_octets order)) FitsSyntax octets x
each_syntax order octets x fits e =
    let t = syntax_takes order octets x fits e in
    record { text = syntax_octets order x.0; spelled = refl; fits = t.1; taken = t.0 }

each_syntax_again : (order : Order) (s : SyntaxId) (text rest : List ℕ) → IsText (syntax_octets order) s text → FitsSyntax s → syntax_at order (text ++ rest) ≡ Some (s, rest)
each_syntax_again order s text rest is fits = ap (λ (t : List ℕ). syntax_at order (t ++ rest)) is ∙ syntax_read_again order s rest fits

syntaxes_again : (order : Order) (ss : List SyntaxId) (rest : List ℕ) → AllByRecursion FitsSyntax ss → items_at (syntax_at order) (length ss) (syntaxes_octets order ss ++ rest) ≡ Some (ss, rest)
syntaxes_again order ss rest fits =
    items_again (IsText (syntax_octets order)) FitsSyntax (syntax_at order) (each_syntax_again order) ss (syntaxes_octets order ss) rest (flat_map-spelled (syntax_octets order) ss) fits

regroup_element : (u s t z : List ℕ) (c r : ℕ) → u ++ (c ∷ r ∷ (s ++ (t ++ z))) ≡ (u ++ (c ∷ r ∷ (s ++ t))) ++ z
regroup_element u s t z c r = sym (append_assoc u (c ∷ r ∷ (s ++ t)) z ∙ ap (λ (y : List ℕ). u ++ (c ∷ r ∷ y)) (append_assoc s t z))

element_takes : (order : Order) (octets : List ℕ) (x : Element × List ℕ) → IsOctets octets → element_at order octets ≡ Some x → Reads (IsElement order) FitsElement octets x
unfolding element_at element_octets
element_takes order octets x fits e =
    let c = bind_ok (u16_at order octets) (λ context. octet_at context.1 >>= λ count. octet_at count.1 >>= λ reserved. syntax_at order reserved.1 >>= λ syntax. items_at (syntax_at order) count.0 syntax.1 >>= λ transfers. Some (record { context = context.0; syntax = syntax.0; transfers = transfers.0 }, transfers.1)) x e in
    let n = bind_ok (octet_at c.0.1) (λ count. octet_at count.1 >>= λ reserved. syntax_at order reserved.1 >>= λ syntax. items_at (syntax_at order) count.0 syntax.1 >>= λ transfers. Some (record { context = c.0.0; syntax = syntax.0; transfers = transfers.0 }, transfers.1)) x c.2 in
    let r = bind_ok (octet_at n.0.1) (λ reserved. syntax_at order reserved.1 >>= λ syntax. items_at (syntax_at order) n.0.0 syntax.1 >>= λ transfers. Some (record { context = c.0.0; syntax = syntax.0; transfers = transfers.0 }, transfers.1)) x n.2 in
    let s = bind_ok (syntax_at order r.0.1) (λ syntax. items_at (syntax_at order) n.0.0 syntax.1 >>= λ transfers. Some (record { context = c.0.0; syntax = syntax.0; transfers = transfers.0 }, transfers.1)) x r.2 in
    let t = bind_ok (items_at (syntax_at order) n.0.0 s.0.1) (λ transfers. Some (record { context = c.0.0; syntax = s.0.0; transfers = transfers.0 }, transfers.1)) x s.2 in
    let tc = u16_takes order octets c.0 fits c.1 in
    let tn = octet_takes c.0.1 n.0 tc.0.fits n.1 in
    let tr = octet_takes n.0.1 r.0 tn.fits r.1 in
    let ts = syntax_takes order r.0.1 s.0 tr.fits s.1 in
    let tt' = items_takes (IsText (syntax_octets order)) FitsSyntax (syntax_at order) (each_syntax order) n.0.0 s.0.1 t.0 ts.0.fits t.1 in
    let texts : tt'.text ≡ syntaxes_octets order t.0.0 = spelled-flat_map (syntax_octets order) t.0.0 tt'.text tt'.spelled in
    let made : Element × List ℕ = (record { context = c.0.0; syntax = s.0.0; transfers = t.0.0 }, t.0.1) in
    let u = u16_octets order c.0.0 in
    let count : n.0.0 ≡ length t.0.0 = sym tt'.count_is in
    let behind : s.0.1 ≡ syntaxes_octets order t.0.0 ++ t.0.1 = tt'.taken.parts ∙ ap (λ (y : List ℕ). y ++ t.0.1) texts in
    let parts : octets ≡ (u ++ (length t.0.0 ∷ r.0.0 ∷ (syntax_octets order s.0.0 ++ syntaxes_octets order t.0.0))) ++ t.0.1 =
    tc.0.parts
    ∙ ap (λ (y : List ℕ). u ++ y) (tn.parts ∙ (λ i. count i ∷ (tr.parts ∙ ap (λ (y : List ℕ). r.0.0 ∷ y) (ts.0.parts ∙ ap (λ (y : List ℕ). syntax_octets order s.0.0 ++ y) behind)) i))
    ∙ regroup_element u (syntax_octets order s.0.0) (syntaxes_octets order t.0.0) t.0.1 (length t.0.0) r.0.0 in
    let all : Reads (IsElement order) FitsElement octets made = record {
      text = u ++ (length t.0.0 ∷ r.0.0 ∷ (syntax_octets order s.0.0 ++ syntaxes_octets order t.0.0));
      spelled = record { few = omega (arith, tn.octet, count); reserved = r.0.0; whole = refl };
      fits = record { context = tc.1; syntax = ts.1; transfers = tt'.fits };
      taken = record { parts = parts; fits = tt'.taken.fits };
    } in
    subst (λ (y : Element × List ℕ). Reads (IsElement order) FitsElement octets y) (some_is made x t.2) all

element_again : (order : Order) (e : Element) (text rest : List ℕ) → IsElement order e text → FitsElement e → element_at order (text ++ rest) ≡ Some (e, rest)
unfolding element_at element_octets
element_again order e text rest is fits =
    let r4 = syntaxes_octets order e.transfers ++ rest in
    let r3 = syntax_octets order e.syntax ++ r4 in
    let r1 = length e.transfers ∷ is.reserved ∷ r3 in
    let parts : text ++ rest ≡ u16_octets order e.context ++ r1 =
    ap (λ (t : List ℕ). t ++ rest) is.whole ∙ sym (regroup_element (u16_octets order e.context) (syntax_octets order e.syntax) (syntaxes_octets order e.transfers) rest (length e.transfers) is.reserved) in
    let e0 : u16_at order (text ++ rest) ≡ Some (e.context, r1) = ap (u16_at order) parts ∙ u16_again order e.context r1 fits.context in
    let e1 : syntax_at order r3 ≡ Some (e.syntax, r4) = syntax_read_again order e.syntax r4 fits.syntax in
    let e2 : items_at (syntax_at order) (length e.transfers) r4 ≡ Some (e.transfers, rest) = syntaxes_again order e.transfers rest fits.transfers in
    rw (e0, e1, e2) refl

pub bind_takes : (order : Order) (octets : List ℕ) (b : BindBody) → IsOctets octets → bind_at order octets ≡ Some b → IsBind order b octets × FitsBind b
unfolding bind_at bind_octets
bind_takes order octets b fits e =
    let x = bind_ok (u16_at order octets) (λ max_xmit. u16_at order max_xmit.1 >>= λ max_recv. u32_at order max_recv.1 >>= λ group. octet_at group.1 >>= λ count. piece_at 3 count.1 >>= λ reserved. items_at (element_at order) count.0 reserved.1 >>= λ elements. Some (record { max_xmit = max_xmit.0; max_recv = max_recv.0; group = group.0; elements = elements.0 })) b e in
    let r = bind_ok (u16_at order x.0.1) (λ max_recv. u32_at order max_recv.1 >>= λ group. octet_at group.1 >>= λ count. piece_at 3 count.1 >>= λ reserved. items_at (element_at order) count.0 reserved.1 >>= λ elements. Some (record { max_xmit = x.0.0; max_recv = max_recv.0; group = group.0; elements = elements.0 })) b x.2 in
    let g = bind_ok (u32_at order r.0.1) (λ group. octet_at group.1 >>= λ count. piece_at 3 count.1 >>= λ reserved. items_at (element_at order) count.0 reserved.1 >>= λ elements. Some (record { max_xmit = x.0.0; max_recv = r.0.0; group = group.0; elements = elements.0 })) b r.2 in
    let n = bind_ok (octet_at g.0.1) (λ count. piece_at 3 count.1 >>= λ reserved. items_at (element_at order) count.0 reserved.1 >>= λ elements. Some (record { max_xmit = x.0.0; max_recv = r.0.0; group = g.0.0; elements = elements.0 })) b g.2 in
    let p = bind_ok (piece_at 3 n.0.1) (λ reserved. items_at (element_at order) n.0.0 reserved.1 >>= λ elements. Some (record { max_xmit = x.0.0; max_recv = r.0.0; group = g.0.0; elements = elements.0 })) b n.2 in
    let l = bind_ok (items_at (element_at order) n.0.0 p.0.1) (λ elements. Some (record { max_xmit = x.0.0; max_recv = r.0.0; group = g.0.0; elements = elements.0 })) b p.2 in
    let tx = u16_takes order octets x.0 fits x.1 in
    let tr = u16_takes order x.0.1 r.0 tx.0.fits r.1 in
    let tg = u32_takes order r.0.1 g.0 tr.0.fits g.1 in
    let tn = octet_takes g.0.1 n.0 tg.0.fits n.1 in
    let tp = piece_takes 3 n.0.1 p.0 tn.fits p.1 in
    let tl = items_takes (IsElement order) FitsElement (element_at order) (element_takes order) n.0.0 p.0.1 l.0 tp.0.fits l.1 in
    let t1 = Takes-then octets (u16_octets order x.0.0) x.0.1 (u16_octets order r.0.0) r.0.1 tx.0 tr.0 in
    let front = u16_octets order x.0.0 ++ u16_octets order r.0.0 ++ u32_octets order g.0.0 in
    let t2 : Takes octets front g.0.1 = Takes-then octets (u16_octets order x.0.0 ++ u16_octets order r.0.0) r.0.1 (u32_octets order g.0.0) g.0.1 t1 tg.0 in
    let t3 : Takes n.0.1 (p.0.0 ++ tl.text) l.0.1 = Takes-then n.0.1 p.0.0 p.0.1 tl.text l.0.1 tp.0 tl.taken in
    let count : n.0.0 ≡ length l.0.0 = sym tl.count_is in
    let made : BindBody = record { max_xmit = x.0.0; max_recv = r.0.0; group = g.0.0; elements = l.0.0 } in
    let whole : octets ≡ front ++ (length l.0.0 ∷ (p.0.0 ++ tl.text ++ l.0.1)) = t2.parts ∙ ap (λ (y : List ℕ). front ++ y) (tn.parts ∙ (λ i. count i ∷ t3.parts i)) in
    let all : IsBind order made octets × FitsBind made = (
      record { few = omega (arith, tn.octet, count); reserved = p.0.0; three = tp.1; elements = tl.text; are = tl.spelled; rest = l.0.1; whole = whole },
      record { max_xmit = tx.1; max_recv = tr.1; group = tg.1; elements = tl.fits },
    ) in
    subst (λ (y : BindBody). IsBind order y octets × FitsBind y) (some_is made b l.2) all

regroup_4 : (a b c d : List ℕ) → a ++ b ++ c ++ d ≡ a ++ (b ++ (c ++ d))
regroup_4 a b c d = simp append_assoc

pub bind_again : (order : Order) (octets : List ℕ) (b : BindBody) → IsBind order b octets → FitsBind b → bind_at order octets ≡ Some b
unfolding bind_at bind_octets
bind_again order octets b is fits =
    let behind = is.elements ++ is.rest in
    let r4 = is.reserved ++ behind in
    let r3 = length b.elements ∷ r4 in
    let r2 = u32_octets order b.group ++ r3 in
    let r1 = u16_octets order b.max_recv ++ r2 in
    let parts : octets ≡ u16_octets order b.max_xmit ++ r1 =
    is.whole ∙ regroup_4 (u16_octets order b.max_xmit) (u16_octets order b.max_recv) (u32_octets order b.group) (length b.elements ∷ (is.reserved ++ is.elements ++ is.rest))
    ∙ ap (λ (y : List ℕ). u16_octets order b.max_xmit ++ (u16_octets order b.max_recv ++ (u32_octets order b.group ++ (length b.elements ∷ y)))) (append_assoc is.reserved is.elements is.rest) in
    let e0 : u16_at order octets ≡ Some (b.max_xmit, r1) = ap (u16_at order) parts ∙ u16_again order b.max_xmit r1 fits.max_xmit in
    let e1 : u16_at order r1 ≡ Some (b.max_recv, r2) = u16_again order b.max_recv r2 fits.max_recv in
    let e2 : u32_at order r2 ≡ Some (b.group, r3) = u32_again order b.group r3 fits.group in
    let e3 : piece_at 3 r4 ≡ Some (is.reserved, behind) = piece_again 3 is.reserved behind is.three in
    let e4 : items_at (element_at order) (length b.elements) behind ≡ Some (b.elements, is.rest) =
    items_again (IsElement order) FitsElement (element_at order) (element_again order) b.elements is.elements is.rest is.are fits.elements in
    rw (e0, e1, e2, e3, e4) refl

-- ---- results and bind_acks

each_result : (order : Order) (octets : List ℕ) (x : ContextResult × List ℕ) → IsOctets octets → result_at order octets ≡ Some x → Reads (IsText (result_octets order)) FitsResult octets x
unfolding result_at result_octets
each_result order octets x fits e =
    let a = bind_ok (u16_at order octets) (λ result. u16_at order result.1 >>= λ reason. syntax_at order reason.1 >>= λ transfer. Some (record { result = result.0; reason = reason.0; transfer = transfer.0 }, transfer.1)) x e in
    let b = bind_ok (u16_at order a.0.1) (λ reason. syntax_at order reason.1 >>= λ transfer. Some (record { result = a.0.0; reason = reason.0; transfer = transfer.0 }, transfer.1)) x a.2 in
    let c = bind_ok (syntax_at order b.0.1) (λ transfer. Some (record { result = a.0.0; reason = b.0.0; transfer = transfer.0 }, transfer.1)) x b.2 in
    let ta = u16_takes order octets a.0 fits a.1 in
    let tb = u16_takes order a.0.1 b.0 ta.0.fits b.1 in
    let tc = syntax_takes order b.0.1 c.0 tb.0.fits c.1 in
    let t1 = Takes-then octets (u16_octets order a.0.0) a.0.1 (u16_octets order b.0.0) b.0.1 ta.0 tb.0 in
    let t2 = Takes-then octets (u16_octets order a.0.0 ++ u16_octets order b.0.0) b.0.1 (syntax_octets order c.0.0) c.0.1 t1 tc.0 in
    let made : ContextResult × List ℕ = (record { result = a.0.0; reason = b.0.0; transfer = c.0.0 }, c.0.1) in
    let all : Reads (IsText (result_octets order)) FitsResult octets made = record {
      text = u16_octets order a.0.0 ++ u16_octets order b.0.0 ++ syntax_octets order c.0.0;
      spelled = refl;
      fits = record { result = ta.1; reason = tb.1; transfer = tc.1 };
      taken = t2;
    } in
    subst (λ (y : ContextResult × List ℕ). Reads (IsText (result_octets order)) FitsResult octets y) (some_is made x c.2) all

each_result_again : (order : Order) (r : ContextResult) (text rest : List ℕ) → IsText (result_octets order) r text → FitsResult r → result_at order (text ++ rest) ≡ Some (r, rest)
unfolding result_at result_octets
each_result_again order r text rest is fits =
    let r2 = syntax_octets order r.transfer ++ rest in
    let r1 = u16_octets order r.reason ++ r2 in
    let parts : text ++ rest ≡ u16_octets order r.result ++ r1 = ap (λ (t : List ℕ). t ++ rest) is ∙ regroup_4 (u16_octets order r.result) (u16_octets order r.reason) (syntax_octets order r.transfer) rest in
    let e0 : u16_at order (text ++ rest) ≡ Some (r.result, r1) = ap (u16_at order) parts ∙ u16_again order r.result r1 fits.result in
    let e1 : u16_at order r1 ≡ Some (r.reason, r2) = u16_again order r.reason r2 fits.reason in
    let e2 : syntax_at order r2 ≡ Some (r.transfer, rest) = syntax_read_again order r.transfer rest fits.transfer in
    rw (e0, e1, e2) refl

-- an address that was taken, with its length and its padding
record TakesAddress (order : Order) (octets : List ℕ) (x : List ℕ × List ℕ) : Type 0 where
  short : length x.0 < 2 ^ 16
  padding : List ℕ
  aligned : length padding ≡ gap (10 + length x.0)
  taken : Takes octets (u16_octets order (length x.0) ++ x.0 ++ padding) x.1

address_takes : (order : Order) (octets : List ℕ) (x : List ℕ × List ℕ) → IsOctets octets → address_at order octets ≡ Some x → TakesAddress order octets x
unfolding address_at
address_takes order octets x fits e =
    let s = bind_ok (u16_at order octets) (λ size. piece_at size.0 size.1 >>= λ address. piece_at (gap (10 + size.0)) address.1 >>= λ padding. Some (address.0, padding.1)) x e in
    let a = bind_ok (piece_at s.0.0 s.0.1) (λ address. piece_at (gap (10 + s.0.0)) address.1 >>= λ padding. Some (address.0, padding.1)) x s.2 in
    let p = bind_ok (piece_at (gap (10 + s.0.0)) a.0.1) (λ padding. Some (a.0.0, padding.1)) x a.2 in
    let ts = u16_takes order octets s.0 fits s.1 in
    let ta = piece_takes s.0.0 s.0.1 a.0 ts.0.fits a.1 in
    let tp = piece_takes (gap (10 + s.0.0)) a.0.1 p.0 ta.0.fits p.1 in
    let t1 = Takes-then octets (u16_octets order s.0.0) s.0.1 a.0.0 a.0.1 ts.0 ta.0 in
    let t2 = Takes-then octets (u16_octets order s.0.0 ++ a.0.0) a.0.1 p.0.0 p.0.1 t1 tp.0 in
    let size : s.0.0 ≡ length a.0.0 = sym {a = length a.0.0} ta.1 in
    let made : List ℕ × List ℕ = (a.0.0, p.0.1) in
    let all : TakesAddress order octets made = record {
      short = omega (arith, ts.1, size);
      padding = p.0.0;
      aligned = tp.1 ∙ ap (λ m. gap (10 + m)) size;
      taken = subst (λ m. Takes octets (u16_octets order m ++ a.0.0 ++ p.0.0) p.0.1) size t2;
    } in
    subst (λ (y : List ℕ × List ℕ). TakesAddress order octets y) (some_is made x p.2) all

address_again : (order : Order) (address padding rest : List ℕ) → length address < 2 ^ 16 → length padding ≡ gap (10 + length address)
    → address_at order (u16_octets order (length address) ++ (address ++ (padding ++ rest))) ≡ Some (address, rest)
unfolding address_at
address_again order address padding rest short aligned =
    let r1 = padding ++ rest in
    let r0 = address ++ r1 in
    let e0 : u16_at order (u16_octets order (length address) ++ r0) ≡ Some (length address, r0) = u16_again order (length address) r0 short in
    let e1 : piece_at (length address) r0 ≡ Some (address, r1) = piece_again (length address) address r1 refl in
    let e2 : piece_at (gap (10 + length address)) r1 ≡ Some (padding, rest) = piece_again (gap (10 + length address)) padding rest aligned in
    rw (e0, e1, e2) refl

ack_parts : (octets front g a p n q q' t t' l : List ℕ) (count count' : ℕ)
    → octets ≡ front ++ g → g ≡ a ++ p → p ≡ count ∷ n → n ≡ q ++ q' → q' ≡ t ++ l → t ≡ t' → count ≡ count' → octets ≡ front ++ (a ++ (count' ∷ (q ++ t' ++ l)))
ack_parts octets front g a p n q q' t t' l count count' e0 e1 e2 e3 e4 e5 e6 =
    let n_is : n ≡ q ++ t' ++ l = e3 ∙ ap (λ (y : List ℕ). q ++ y) (e4 ∙ ap (λ (y : List ℕ). y ++ l) e5) ∙ sym (append_assoc q t' l) in
    let p_is : p ≡ count' ∷ (q ++ t' ++ l) = e2 ∙ (λ i. e6 i ∷ n_is i) in
    e0 ∙ ap (λ (y : List ℕ). front ++ y) (e1 ∙ ap (λ (y : List ℕ). a ++ y) p_is)

-- what the steps of reading a bind_ack give
ack_read : (order : Order) (octets : List ℕ) (x r g : ℕ × List ℕ) (a : List ℕ × List ℕ) (n : ℕ × List ℕ) (q : List ℕ × List ℕ) (l : List ContextResult × List ℕ) → IsOctets octets
    → u16_at order octets ≡ Some x → u16_at order x.1 ≡ Some r → u32_at order r.1 ≡ Some g → address_at order g.1 ≡ Some a → octet_at a.1 ≡ Some n → piece_at 3 n.1 ≡ Some q → items_at (result_at order) n.0 q.1 ≡ Some l
    → let made : BindAckBody = record { max_xmit = x.0; max_recv = r.0; group = g.0; address = a.0; results = l.0 } in IsBindAck order made octets × FitsBindAck made
unfolding bind_ack_octets
ack_read order octets x r g a n q l fits e0 e1 e2 e3 e4 e5 e6 =
    let tx = u16_takes order octets x fits e0 in
    let tr = u16_takes order x.1 r tx.0.fits e1 in
    let tg = u32_takes order r.1 g tr.0.fits e2 in
    let ta = address_takes order g.1 a tg.0.fits e3 in
    let tn = octet_takes a.1 n ta.taken.fits e4 in
    let tq = piece_takes 3 n.1 q tn.fits e5 in
    let tl = items_takes (IsText (result_octets order)) FitsResult (result_at order) (each_result order) n.0 q.1 l tq.0.fits e6 in
    let texts : tl.text ≡ results_octets order l.0 = spelled-flat_map (result_octets order) l.0 tl.text tl.spelled in
    let t1 = Takes-then octets (u16_octets order x.0) x.1 (u16_octets order r.0) r.1 tx.0 tr.0 in
    let front = u16_octets order x.0 ++ u16_octets order r.0 ++ u32_octets order g.0 in
    let t2 : Takes octets front g.1 = Takes-then octets (u16_octets order x.0 ++ u16_octets order r.0) r.1 (u32_octets order g.0) g.1 t1 tg.0 in
    let count : n.0 ≡ length l.0 = sym tl.count_is in
    let whole = ack_parts octets front g.1 (u16_octets order (length a.0) ++ a.0 ++ ta.padding) a.1 n.1 q.0 q.1 tl.text (results_octets order l.0) l.1 n.0 (length l.0) t2.parts ta.taken.parts tn.parts tq.0.parts tl.taken.parts texts count in (
      record { short = ta.short; few = omega (arith, tn.octet, count); padding = ta.padding; aligned = ta.aligned; reserved = q.0; three = tq.1; rest = l.1; whole = whole },
      record { max_xmit = tx.1; max_recv = tr.1; group = tg.1; results = tl.fits },
    )

pub bind_ack_takes : (order : Order) (octets : List ℕ) (b : BindAckBody) → IsOctets octets → bind_ack_at order octets ≡ Some b → IsBindAck order b octets × FitsBindAck b
unfolding bind_ack_at bind_ack_octets
bind_ack_takes order octets b fits e =
    let x = bind_ok (u16_at order octets) (λ max_xmit. u16_at order max_xmit.1 >>= λ max_recv. u32_at order max_recv.1 >>= λ group. address_at order group.1 >>= λ address. octet_at address.1 >>= λ count. piece_at 3 count.1 >>= λ reserved. items_at (result_at order) count.0 reserved.1 >>= λ results. Some (record { max_xmit = max_xmit.0; max_recv = max_recv.0; group = group.0; address = address.0; results = results.0 })) b e in
    let r = bind_ok (u16_at order x.0.1) (λ max_recv. u32_at order max_recv.1 >>= λ group. address_at order group.1 >>= λ address. octet_at address.1 >>= λ count. piece_at 3 count.1 >>= λ reserved. items_at (result_at order) count.0 reserved.1 >>= λ results. Some (record { max_xmit = x.0.0; max_recv = max_recv.0; group = group.0; address = address.0; results = results.0 })) b x.2 in
    let g = bind_ok (u32_at order r.0.1) (λ group. address_at order group.1 >>= λ address. octet_at address.1 >>= λ count. piece_at 3 count.1 >>= λ reserved. items_at (result_at order) count.0 reserved.1 >>= λ results. Some (record { max_xmit = x.0.0; max_recv = r.0.0; group = group.0; address = address.0; results = results.0 })) b r.2 in
    let a = bind_ok (address_at order g.0.1) (λ address. octet_at address.1 >>= λ count. piece_at 3 count.1 >>= λ reserved. items_at (result_at order) count.0 reserved.1 >>= λ results. Some (record { max_xmit = x.0.0; max_recv = r.0.0; group = g.0.0; address = address.0; results = results.0 })) b g.2 in
    let n = bind_ok (octet_at a.0.1) (λ count. piece_at 3 count.1 >>= λ reserved. items_at (result_at order) count.0 reserved.1 >>= λ results. Some (record { max_xmit = x.0.0; max_recv = r.0.0; group = g.0.0; address = a.0.0; results = results.0 })) b a.2 in
    let q = bind_ok (piece_at 3 n.0.1) (λ reserved. items_at (result_at order) n.0.0 reserved.1 >>= λ results. Some (record { max_xmit = x.0.0; max_recv = r.0.0; group = g.0.0; address = a.0.0; results = results.0 })) b n.2 in
    let l = bind_ok (items_at (result_at order) n.0.0 q.0.1) (λ results. Some (record { max_xmit = x.0.0; max_recv = r.0.0; group = g.0.0; address = a.0.0; results = results.0 })) b q.2 in
    let made : BindAckBody = record { max_xmit = x.0.0; max_recv = r.0.0; group = g.0.0; address = a.0.0; results = l.0.0 } in
    subst (λ (y : BindAckBody). IsBindAck order y octets × FitsBindAck y) (some_is made b l.2) (ack_read order octets x.0 r.0 g.0 a.0 n.0 q.0 l.0 fits x.1 r.1 g.1 a.1 n.1 q.1 l.1)

pub bind_ack_again : (order : Order) (octets : List ℕ) (b : BindAckBody) → IsBindAck order b octets → FitsBindAck b → bind_ack_at order octets ≡ Some b
unfolding bind_ack_at bind_ack_octets
bind_ack_again order octets b is fits =
    let behind = results_octets order b.results ++ is.rest in
    let r7 = is.reserved ++ behind in
    let r6 = length b.results ∷ r7 in
    let r5 = is.padding ++ r6 in
    let r4 = b.address ++ r5 in
    let r3 = u16_octets order (length b.address) ++ r4 in
    let r2 = u32_octets order b.group ++ r3 in
    let r1 = u16_octets order b.max_recv ++ r2 in
    let last = length b.results ∷ (is.reserved ++ results_octets order b.results ++ is.rest) in
    let parts : octets ≡ u16_octets order b.max_xmit ++ r1 =
    is.whole ∙ regroup_4 (u16_octets order b.max_xmit) (u16_octets order b.max_recv) (u32_octets order b.group) (u16_octets order (length b.address) ++ b.address ++ is.padding ++ last)
    ∙ ap (λ (y : List ℕ). u16_octets order b.max_xmit ++ (u16_octets order b.max_recv ++ (u32_octets order b.group ++ y)))
    (regroup_4 (u16_octets order (length b.address)) b.address is.padding last
    ∙ ap (λ (y : List ℕ). u16_octets order (length b.address) ++ (b.address ++ (is.padding ++ (length b.results ∷ y)))) (append_assoc is.reserved (results_octets order b.results) is.rest)) in
    let e0 : u16_at order octets ≡ Some (b.max_xmit, r1) = ap (u16_at order) parts ∙ u16_again order b.max_xmit r1 fits.max_xmit in
    let e1 : u16_at order r1 ≡ Some (b.max_recv, r2) = u16_again order b.max_recv r2 fits.max_recv in
    let e2 : u32_at order r2 ≡ Some (b.group, r3) = u32_again order b.group r3 fits.group in
    let e3 : address_at order r3 ≡ Some (b.address, r6) = address_again order b.address is.padding r6 is.short is.aligned in
    let e4 : piece_at 3 r7 ≡ Some (is.reserved, behind) = piece_again 3 is.reserved behind is.three in
    let e5 : items_at (result_at order) (length b.results) behind ≡ Some (b.results, is.rest) =
    items_again (IsText (result_octets order)) FitsResult (result_at order) (each_result_again order) b.results (results_octets order b.results) is.rest (flat_map-spelled (result_octets order) b.results) fits.results in
    rw (e0, e1, e2, e3, e4, e5) refl

-- ---- versions and bind_naks

each_version : (octets : List ℕ) (x : Version × List ℕ) → IsOctets octets → version_at octets ≡ Some x → Reads (IsText version_octets) FitsVersion octets x
each_version octets x fits e =
    let a = bind_ok (octet_at octets) (λ major. octet_at major.1 >>= λ minor. Some (record { major = major.0; minor = minor.0 }, minor.1)) x e in
    let b = bind_ok (octet_at a.0.1) (λ minor. Some (record { major = a.0.0; minor = minor.0 }, minor.1)) x a.2 in
    let ta = octet_takes octets a.0 fits a.1 in
    let tb = octet_takes a.0.1 b.0 ta.fits b.1 in
    let made : Version × List ℕ = (record { major = a.0.0; minor = b.0.0 }, b.0.1) in
    let all : Reads (IsText version_octets) FitsVersion octets made = record {
      text = a.0.0 ∷ b.0.0 ∷ [];
      spelled = refl;
      fits = record { major = ta.octet; minor = tb.octet };
      taken = record { parts = ta.parts ∙ ap (λ (t : List ℕ). a.0.0 ∷ t) tb.parts; fits = tb.fits };
    } in
    subst (λ (y : Version × List ℕ). Reads (IsText version_octets) FitsVersion octets y) (some_is made x b.2) all

each_version_again : (v : Version) (text rest : List ℕ) → IsText version_octets v text → FitsVersion v → version_at (text ++ rest) ≡ Some (v, rest)
each_version_again v text rest is fits = ap (λ (t : List ℕ). version_at (t ++ rest)) is

pub bind_nak_takes : (order : Order) (octets : List ℕ) (b : BindNakBody) → IsOctets octets → bind_nak_at order octets ≡ Some b → IsBindNak order b octets × FitsBindNak b
unfolding bind_nak_at bind_nak_octets
bind_nak_takes order octets b fits e =
    let r = bind_ok (u16_at order octets) (λ reason. octet_at reason.1 >>= λ count. items_at version_at count.0 count.1 >>= λ versions. Some (record { reason = reason.0; versions = versions.0 })) b e in
    let n = bind_ok (octet_at r.0.1) (λ count. items_at version_at count.0 count.1 >>= λ versions. Some (record { reason = r.0.0; versions = versions.0 })) b r.2 in
    let l = bind_ok (items_at version_at n.0.0 n.0.1) (λ versions. Some (record { reason = r.0.0; versions = versions.0 })) b n.2 in
    let tr = u16_takes order octets r.0 fits r.1 in
    let tn = octet_takes r.0.1 n.0 tr.0.fits n.1 in
    let tl = items_takes (IsText version_octets) FitsVersion version_at each_version n.0.0 n.0.1 l.0 tn.fits l.1 in
    let texts : tl.text ≡ versions_octets l.0.0 = spelled-flat_map version_octets l.0.0 tl.text tl.spelled in
    let count : n.0.0 ≡ length l.0.0 = sym tl.count_is in
    let front = u16_octets order r.0.0 in
    let behind : n.0.1 ≡ versions_octets l.0.0 ++ l.0.1 = tl.taken.parts ∙ ap (λ (t : List ℕ). t ++ l.0.1) texts in
    let made : BindNakBody = record { reason = r.0.0; versions = l.0.0 } in
    let whole : octets ≡ front ++ (length l.0.0 ∷ (versions_octets l.0.0 ++ l.0.1)) = tr.0.parts ∙ ap (λ (t : List ℕ). front ++ t) (tn.parts ∙ (λ i. count i ∷ behind i)) in
    let all : IsBindNak order made octets × FitsBindNak made = (record { few = omega (arith, tn.octet, count); rest = l.0.1; whole = whole }, record { reason = tr.1; versions = tl.fits }) in
    subst (λ (y : BindNakBody). IsBindNak order y octets × FitsBindNak y) (some_is made b l.2) all

pub bind_nak_again : (order : Order) (octets : List ℕ) (b : BindNakBody) → IsBindNak order b octets → FitsBindNak b → bind_nak_at order octets ≡ Some b
unfolding bind_nak_at bind_nak_octets
bind_nak_again order octets b is fits =
    let r2 = versions_octets b.versions ++ is.rest in
    let r1 = length b.versions ∷ r2 in
    let e0 : u16_at order octets ≡ Some (b.reason, r1) = ap (u16_at order) is.whole ∙ u16_again order b.reason r1 fits.reason in
    let e1 : items_at version_at (length b.versions) r2 ≡ Some (b.versions, is.rest) =
    items_again (IsText version_octets) FitsVersion version_at each_version_again b.versions (versions_octets b.versions) is.rest (flat_map-spelled version_octets b.versions) fits.versions in
    rw (e0, e1) refl
