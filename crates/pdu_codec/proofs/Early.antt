-- Octets that end early go on to a body: octets that are long enough are always read.
use Rattle.std.proofs.Common.{◌≡◌, ℕ, zero, suc, ◌+◌, ◌*◌, ◌<◌, ◌≤◌, Bool, true, false, cond, List, [], ◌∷◌, ◌++◌, length, take, drop, Option, Some, None, refl, ap, ◌∙◌, arith}
use Rattle.std.specs.Int.{w16, w32}
use Rattle.std.proofs.lemmas.Bool.{le-ltb}
use Rattle.std.proofs.lemmas.Bool.Decides.{nat_tests}
use Rattle.std.proofs.lemmas.List.{length-append, length-drop}
use Rattle.rpc_base.specs.declared.identifiers.Order.{Order}
use Rattle.rpc_base.specs.Fields.{IsOctets, number_of, uuid_octets, syntax_of}
use Rattle.rpc_base.proofs.FieldLaws.{IsOctets-drop, IsOctets-cons}
use Rattle.pdu_codec.specs.declared.pdu.Body.{Body}
use Rattle.pdu_codec.specs.declared.pdu.Body.TheVariants.{Request, Response, Fault, Bind, BindAck, BindNak, Alter, AlterResp, Shutdown, CoCancel, Orphaned}
use Rattle.pdu_codec.specs.declared.pdu.RequestBody.{RequestBody}
use Rattle.pdu_codec.specs.declared.pdu.ResponseBody.{ResponseBody}
use Rattle.pdu_codec.specs.declared.pdu.FaultBody.{FaultBody}
use Rattle.pdu_codec.specs.declared.pdu.BindBody.{BindBody}
use Rattle.pdu_codec.specs.declared.pdu.BindAckBody.{BindAckBody}
use Rattle.pdu_codec.specs.declared.pdu.BindNakBody.{BindNakBody}
use Rattle.pdu_codec.specs.declared.pdu.AlterBody.{AlterBody}
use Rattle.pdu_codec.specs.declared.pdu.AlterRespBody.{AlterRespBody}
use Rattle.pdu_codec.specs.declared.pdu.ContextResult.{ContextResult}
use Rattle.pdu_codec.specs.Pdus.{has_object, gap}
use Rattle.pdu_codec.specs.Faults.{is_known, EndsEarly}
use Rattle.pdu_codec.specs.Reading.{◌>>=◌, field_at, u16_at, u32_at, uuid_at, syntax_at, piece_at, octet_at, object_at, request_at, response_at, fault_at, items_at, element_at, bind_at, result_at, address_at, bind_ack_at, version_at, bind_nak_at, as_alter, as_alter_resp, alter_at, alter_resp_at, body_at}
use Rattle.pdu_codec.proofs.FieldsAgain.{through, u16_takes}
use Rattle.pdu_codec.proofs.BodiesAgain.{octet_takes}
use Rattle.pdu_codec.proofs.KindLaws.{body_takes, body_again}

-- Reading gives something, and takes at most so many octets.
pub record Goes {A : Type 0} (read : Option (A × List ℕ)) (most : ℕ) (octets : List ℕ) : Type 0 where
  pub x : A × List ℕ
  pub is : read ≡ Some x
  pub left : length octets ≤ most + length x.1
  pub fits : IsOctets x.1

field_goes : {A : Type 0} (size : ℕ) (f : List ℕ → A) (octets : List ℕ) → IsOctets octets → size ≤ length octets → Goes (field_at size f octets) size octets
field_goes size f octets fits le = record {
  x = (f (take size octets), drop size octets);
  is = ap (λ (b : Bool). cond b None (Some (f (take size octets), drop size octets))) (le-ltb _ _ le);
  left = omega (arith, length-drop size octets);
  fits = IsOctets-drop size octets fits;
}

u16_goes : (order : Order) (octets : List ℕ) → IsOctets octets → 2 ≤ length octets → Goes (u16_at order octets) 2 octets
unfolding u16_at
u16_goes order octets fits le = field_goes 2 (number_of order w16) octets fits le

u32_goes : (order : Order) (octets : List ℕ) → IsOctets octets → 4 ≤ length octets → Goes (u32_at order octets) 4 octets
unfolding u32_at
u32_goes order octets fits le = field_goes 4 (number_of order w32) octets fits le

uuid_goes : (order : Order) (octets : List ℕ) → IsOctets octets → 16 ≤ length octets → Goes (uuid_at order octets) 16 octets
unfolding uuid_at
uuid_goes order octets fits le = field_goes 16 (uuid_octets order) octets fits le

syntax_goes : (order : Order) (octets : List ℕ) → IsOctets octets → 20 ≤ length octets → Goes (syntax_at order octets) 20 octets
unfolding syntax_at
syntax_goes order octets fits le = field_goes 20 (syntax_of order) octets fits le

piece_goes : (size : ℕ) (octets : List ℕ) → IsOctets octets → size ≤ length octets → Goes (piece_at size octets) size octets
unfolding piece_at
piece_goes size octets fits le = field_goes size (λ (xs : List ℕ). xs) octets fits le

octet_goes : (octets : List ℕ) → IsOctets octets → 1 ≤ length octets → Goes (octet_at octets) 1 octets
octet_goes [] fits le = absurd (omega arith)
octet_goes (x ∷ octets) fits le = record { x = (x, octets); is = refl; left = omega arith; fits = λ i. fits (suc i) }

-- items of at most so many octets each, in all
items_goes : {A : Type 0} (read : List ℕ → Option (A × List ℕ)) (most : ℕ) (all : ℕ → ℕ) → all 0 ≡ 0 → ((n : ℕ) → all (suc n) ≡ most + all n)
    → ((octets : List ℕ) → IsOctets octets → most ≤ length octets → Goes (read octets) most octets)
    → (count : ℕ) (octets : List ℕ) → IsOctets octets → all count ≤ length octets → Goes (items_at read count octets) (all count) octets
unfolding items_at
items_goes {A} read most all none one each zero octets fits le = record { x = ([], octets); is = refl; left = omega arith; fits = fits }
items_goes {A} read most all none one each (suc n) octets fits le =
    let a = each octets fits (omega (arith, one n)) in
    let b = items_goes read most all none one each n a.x.1 a.fits (omega (arith, one n, a.left)) in
    record {
      x = (a.x.0 ∷ b.x.0, b.x.1);
      is = through (read octets) (λ first. items_at read n first.1 >>= λ others. Some (first.0 ∷ others.0, others.1)) a.x a.is
          ∙ through (items_at read n a.x.1) (λ others. Some (a.x.0 ∷ others.0, others.1)) b.x b.is;
      left = omega (arith, one n, a.left, b.left);
      fits = b.fits;
    }

object_goes : (order : Order) (present : Bool) (octets : List ℕ) → IsOctets octets → 16 ≤ length octets
    → Goes (cond present (uuid_at order octets >>= λ id. Some (Some id.0, id.1)) (Some (None, octets))) 16 octets
object_goes order true octets fits le =
    let a = uuid_goes order octets fits le in
    record { x = (Some a.x.0, a.x.1); is = through (uuid_at order octets) (λ id. Some (Some id.0, id.1)) a.x a.is; left = a.left; fits = a.fits }
object_goes order false octets fits le = record { x = (None, octets); is = refl; left = omega arith; fits = fits }

request_goes : (order : Order) (flags : ℕ) (octets : List ℕ) → IsOctets octets → 24 ≤ length octets → (b : RequestBody) × (request_at order flags octets ≡ Some b)
unfolding request_at object_at
request_goes order flags octets fits le =
    let h = u32_goes order octets fits (omega arith) in
    let c = u16_goes order h.x.1 h.fits (omega (arith, h.left)) in
    let o = u16_goes order c.x.1 c.fits (omega (arith, h.left, c.left)) in
    let u = object_goes order (has_object flags) o.x.1 o.fits (omega (arith, h.left, c.left, o.left)) in
    let made : RequestBody = record { alloc_hint = h.x.0; context = c.x.0; op = o.x.0; object = u.x.0; stub = u.x.1 } in
    let e : request_at order flags octets ≡ Some made = rw (h.is, c.is, o.is, u.is) refl in
    (made, e)

element_goes : (order : Order) (octets : List ℕ) → IsOctets octets → 5124 ≤ length octets → Goes (element_at order octets) 5124 octets
unfolding element_at
element_goes order octets fits le =
    let c = u16_goes order octets fits (omega arith) in
    let n = octet_goes c.x.1 c.fits (omega (arith, c.left)) in
    let count : n.x.0 < 256 = (octet_takes c.x.1 n.x c.fits n.is).octet in
    let r = octet_goes n.x.1 n.fits (omega (arith, c.left, n.left)) in
    let s = syntax_goes order r.x.1 r.fits (omega (arith, c.left, n.left, r.left)) in
    let t = items_goes (syntax_at order) 20 (λ k. k * 20) (omega arith) (λ k. omega arith) (syntax_goes order) n.x.0 s.x.1 s.fits (omega (arith, c.left, n.left, r.left, s.left, count)) in
    record {
      x = (record { context = c.x.0; syntax = s.x.0; transfers = t.x.0 }, t.x.1);
      is = rw (c.is, n.is, r.is, s.is, t.is) refl;
      left = omega (arith, c.left, n.left, r.left, s.left, t.left, count);
      fits = t.fits;
    }

bind_goes : (order : Order) (octets : List ℕ) → IsOctets octets → 1306632 ≤ length octets → (b : BindBody) × (bind_at order octets ≡ Some b)
unfolding bind_at
bind_goes order octets fits le =
    let x = u16_goes order octets fits (omega arith) in
    let r = u16_goes order x.x.1 x.fits (omega (arith, x.left)) in
    let g = u32_goes order r.x.1 r.fits (omega (arith, x.left, r.left)) in
    let n = octet_goes g.x.1 g.fits (omega (arith, x.left, r.left, g.left)) in
    let count : n.x.0 < 256 = (octet_takes g.x.1 n.x g.fits n.is).octet in
    let p = piece_goes 3 n.x.1 n.fits (omega (arith, x.left, r.left, g.left, n.left)) in
    let l = items_goes (element_at order) 5124 (λ k. k * 5124) (omega arith) (λ k. omega arith) (element_goes order) n.x.0 p.x.1 p.fits (omega (arith, x.left, r.left, g.left, n.left, p.left, count)) in
    let made : BindBody = record { max_xmit = x.x.0; max_recv = r.x.0; group = g.x.0; elements = l.x.0 } in
    let e : bind_at order octets ≡ Some made = rw (x.is, r.is, g.is, n.is, p.is, l.is) refl in
    (made, e)

response_goes : (order : Order) (octets : List ℕ) → IsOctets octets → 8 ≤ length octets → (b : ResponseBody) × (response_at order octets ≡ Some b)
unfolding response_at
response_goes order octets fits le =
    let h = u32_goes order octets fits (omega arith) in
    let c = u16_goes order h.x.1 h.fits (omega (arith, h.left)) in
    let n = octet_goes c.x.1 c.fits (omega (arith, h.left, c.left)) in
    let r = octet_goes n.x.1 n.fits (omega (arith, h.left, c.left, n.left)) in
    let made : ResponseBody = record { alloc_hint = h.x.0; context = c.x.0; cancel_count = n.x.0; stub = r.x.1 } in
    let e : response_at order octets ≡ Some made = rw (h.is, c.is, n.is, r.is) refl in
    (made, e)

fault_goes : (order : Order) (octets : List ℕ) → IsOctets octets → 16 ≤ length octets → (b : FaultBody) × (fault_at order octets ≡ Some b)
unfolding fault_at
fault_goes order octets fits le =
    let h = u32_goes order octets fits (omega arith) in
    let c = u16_goes order h.x.1 h.fits (omega (arith, h.left)) in
    let n = octet_goes c.x.1 c.fits (omega (arith, h.left, c.left)) in
    let r = octet_goes n.x.1 n.fits (omega (arith, h.left, c.left, n.left)) in
    let s = u32_goes order r.x.1 r.fits (omega (arith, h.left, c.left, n.left, r.left)) in
    let l = piece_goes 4 s.x.1 s.fits (omega (arith, h.left, c.left, n.left, r.left, s.left)) in
    let made : FaultBody = record { alloc_hint = h.x.0; context = c.x.0; cancel_count = n.x.0; status = record { 0 = s.x.0 } } in
    let e : fault_at order octets ≡ Some made = rw (h.is, c.is, n.is, r.is, s.is, l.is) refl in
    (made, e)

result_goes : (order : Order) (octets : List ℕ) → IsOctets octets → 24 ≤ length octets → Goes (result_at order octets) 24 octets
unfolding result_at
result_goes order octets fits le =
    let a = u16_goes order octets fits (omega arith) in
    let b = u16_goes order a.x.1 a.fits (omega (arith, a.left)) in
    let c = syntax_goes order b.x.1 b.fits (omega (arith, a.left, b.left)) in
    record {
      x = (record { result = a.x.0; reason = b.x.0; transfer = c.x.0 }, c.x.1);
      is = rw (a.is, b.is, c.is) refl;
      left = omega (arith, a.left, b.left, c.left);
      fits = c.fits;
    }

address_goes : (order : Order) (octets : List ℕ) → IsOctets octets → 65541 ≤ length octets → Goes (address_at order octets) 65541 octets
unfolding address_at
address_goes order octets fits le =
    let s = u16_goes order octets fits (omega arith) in
    let size : s.x.0 < 65536 = (u16_takes order octets s.x fits s.is).1 in
    let a = piece_goes s.x.0 s.x.1 s.fits (omega (arith, s.left, size)) in
    let few : gap (10 + s.x.0) < 4 = omega arith in
    let p = piece_goes (gap (10 + s.x.0)) a.x.1 a.fits (omega (arith, s.left, size, a.left, few)) in
    record {
      x = (a.x.0, p.x.1);
      is = rw (s.is, a.is, p.is) refl;
      left = omega (arith, s.left, size, a.left, few, p.left);
      fits = p.fits;
    }

ack_steps : (order : Order) (octets : List ℕ) (x r g : ℕ × List ℕ) (a : List ℕ × List ℕ) (n : ℕ × List ℕ) (p : List ℕ × List ℕ) (l : List ContextResult × List ℕ)
    → u16_at order octets ≡ Some x → u16_at order x.1 ≡ Some r → u32_at order r.1 ≡ Some g → address_at order g.1 ≡ Some a → octet_at a.1 ≡ Some n → piece_at 3 n.1 ≡ Some p → items_at (result_at order) n.0 p.1 ≡ Some l
    → bind_ack_at order octets ≡ Some (record { max_xmit = x.0; max_recv = r.0; group = g.0; address = a.0; results = l.0 })
unfolding bind_ack_at
ack_steps order octets x r g a n p l e0 e1 e2 e3 e4 e5 e6 = rw (e0, e1, e2, e3, e4, e5, e6) refl

bind_ack_goes : (order : Order) (octets : List ℕ) → IsOctets octets → 71673 ≤ length octets → (b : BindAckBody) × (bind_ack_at order octets ≡ Some b)
unfolding bind_ack_at
bind_ack_goes order octets fits le =
    let x = u16_goes order octets fits (omega arith) in
    let r = u16_goes order x.x.1 x.fits (omega (arith, x.left)) in
    let g = u32_goes order r.x.1 r.fits (omega (arith, x.left, r.left)) in
    let a = address_goes order g.x.1 g.fits (omega (arith, x.left, r.left, g.left)) in
    let n = octet_goes a.x.1 a.fits (omega (arith, x.left, r.left, g.left, a.left)) in
    let count : n.x.0 < 256 = (octet_takes a.x.1 n.x a.fits n.is).octet in
    let p = piece_goes 3 n.x.1 n.fits (omega (arith, x.left, r.left, g.left, a.left, n.left)) in
    let l = items_goes (result_at order) 24 (λ k. k * 24) (omega arith) (λ k. omega arith) (result_goes order) n.x.0 p.x.1 p.fits (omega (arith, x.left, r.left, g.left, a.left, n.left, p.left, count)) in
    let made : BindAckBody = record { max_xmit = x.x.0; max_recv = r.x.0; group = g.x.0; address = a.x.0; results = l.x.0 } in
    (made, ack_steps order octets x.x r.x g.x a.x n.x p.x l.x x.is r.is g.is a.is n.is p.is l.is)

version_goes : (octets : List ℕ) → IsOctets octets → 2 ≤ length octets → Goes (version_at octets) 2 octets
version_goes octets fits le =
    let a = octet_goes octets fits (omega arith) in
    let b = octet_goes a.x.1 a.fits (omega (arith, a.left)) in
    record {
      x = (record { major = a.x.0; minor = b.x.0 }, b.x.1);
      is = rw (a.is, b.is) refl;
      left = omega (arith, a.left, b.left);
      fits = b.fits;
    }

bind_nak_goes : (order : Order) (octets : List ℕ) → IsOctets octets → 513 ≤ length octets → (b : BindNakBody) × (bind_nak_at order octets ≡ Some b)
unfolding bind_nak_at
bind_nak_goes order octets fits le =
    let r = u16_goes order octets fits (omega arith) in
    let n = octet_goes r.x.1 r.fits (omega (arith, r.left)) in
    let count : n.x.0 < 256 = (octet_takes r.x.1 n.x r.fits n.is).octet in
    let l = items_goes version_at 2 (λ k. k * 2) (omega arith) (λ k. omega arith) version_goes n.x.0 n.x.1 n.fits (omega (arith, r.left, n.left, count)) in
    let made : BindNakBody = record { reason = r.x.0; versions = l.x.0 } in
    let e : bind_nak_at order octets ≡ Some made = rw (r.is, n.is, l.is) refl in
    (made, e)

alter_goes : (order : Order) (octets : List ℕ) → IsOctets octets → 1306632 ≤ length octets → (b : AlterBody) × (alter_at order octets ≡ Some b)
unfolding alter_at
alter_goes order octets fits le =
    let r = bind_goes order octets fits le in
    (as_alter r.0, through (bind_at order octets) (λ b. Some (as_alter b)) r.0 r.1)

alter_resp_goes : (order : Order) (octets : List ℕ) → IsOctets octets → 71673 ≤ length octets → (b : AlterRespBody) × (alter_resp_at order octets ≡ Some b)
unfolding alter_resp_at
alter_resp_goes order octets fits le =
    let r = bind_ack_goes order octets fits le in
    (as_alter_resp r.0, through (bind_ack_at order octets) (λ b. Some (as_alter_resp b)) r.0 r.1)

-- the protocol has no PTYPE above 19
above : (kind : ℕ) → 20 ≤ kind → is_known kind ≡ true → ⊥
unfolding is_known
above kind le known = absurd (grind (arith, nat_tests))

-- where the protocol has the PTYPE
body_goes : (order : Order) (flags kind : ℕ) (octets : List ℕ) → is_known kind ≡ true → IsOctets octets → 1306632 ≤ length octets → (b : Body) × (body_at order flags kind octets ≡ Some b)
unfolding body_at is_known
body_goes order flags zero octets known fits le =
    let r = request_goes order flags octets fits (omega arith) in
    (Request r.0, through (request_at order flags octets) (λ x. Some (Request x)) r.0 r.1)
body_goes order flags (suc zero) octets known fits le = absurd cc
body_goes order flags (suc (suc zero)) octets known fits le =
    let r = response_goes order octets fits (omega arith) in
    (Response r.0, through (response_at order octets) (λ x. Some (Response x)) r.0 r.1)
body_goes order flags (suc (suc (suc zero))) octets known fits le =
    let r = fault_goes order octets fits (omega arith) in
    (Fault r.0, through (fault_at order octets) (λ x. Some (Fault x)) r.0 r.1)
body_goes order flags (suc (suc (suc (suc zero)))) octets known fits le = absurd cc
body_goes order flags (suc (suc (suc (suc (suc zero))))) octets known fits le = absurd cc
body_goes order flags (suc (suc (suc (suc (suc (suc zero)))))) octets known fits le = absurd cc
body_goes order flags (suc (suc (suc (suc (suc (suc (suc zero))))))) octets known fits le = absurd cc
body_goes order flags (suc (suc (suc (suc (suc (suc (suc (suc zero)))))))) octets known fits le = absurd cc
body_goes order flags (suc (suc (suc (suc (suc (suc (suc (suc (suc zero))))))))) octets known fits le = absurd cc
body_goes order flags (suc (suc (suc (suc (suc (suc (suc (suc (suc (suc zero)))))))))) octets known fits le = absurd cc
body_goes order flags (suc (suc (suc (suc (suc (suc (suc (suc (suc (suc (suc zero))))))))))) octets known fits le =
    let r = bind_goes order octets fits le in
    (Bind r.0, through (bind_at order octets) (λ x. Some (Bind x)) r.0 r.1)
body_goes order flags (suc (suc (suc (suc (suc (suc (suc (suc (suc (suc (suc (suc zero)))))))))))) octets known fits le =
    let r = bind_ack_goes order octets fits (omega arith) in
    (BindAck r.0, through (bind_ack_at order octets) (λ x. Some (BindAck x)) r.0 r.1)
body_goes order flags (suc (suc (suc (suc (suc (suc (suc (suc (suc (suc (suc (suc (suc zero))))))))))))) octets known fits le =
    let r = bind_nak_goes order octets fits (omega arith) in
    (BindNak r.0, through (bind_nak_at order octets) (λ x. Some (BindNak x)) r.0 r.1)
body_goes order flags (suc (suc (suc (suc (suc (suc (suc (suc (suc (suc (suc (suc (suc (suc zero)))))))))))))) octets known fits le =
    let r = alter_goes order octets fits le in
    (Alter r.0, through (alter_at order octets) (λ x. Some (Alter x)) r.0 r.1)
body_goes order flags (suc (suc (suc (suc (suc (suc (suc (suc (suc (suc (suc (suc (suc (suc (suc zero))))))))))))))) octets known fits le =
    let r = alter_resp_goes order octets fits (omega arith) in
    (AlterResp r.0, through (alter_resp_at order octets) (λ x. Some (AlterResp x)) r.0 r.1)
body_goes order flags (suc (suc (suc (suc (suc (suc (suc (suc (suc (suc (suc (suc (suc (suc (suc (suc zero)))))))))))))))) octets known fits le = absurd cc
body_goes order flags (suc (suc (suc (suc (suc (suc (suc (suc (suc (suc (suc (suc (suc (suc (suc (suc (suc zero))))))))))))))))) octets known fits le = (Shutdown, refl)
body_goes order flags (suc (suc (suc (suc (suc (suc (suc (suc (suc (suc (suc (suc (suc (suc (suc (suc (suc (suc zero)))))))))))))))))) octets known fits le = (CoCancel, refl)
body_goes order flags (suc (suc (suc (suc (suc (suc (suc (suc (suc (suc (suc (suc (suc (suc (suc (suc (suc (suc (suc zero))))))))))))))))))) octets known fits le = (Orphaned, refl)
body_goes order flags (suc (suc (suc (suc (suc (suc (suc (suc (suc (suc (suc (suc (suc (suc (suc (suc (suc (suc (suc (suc kind)))))))))))))))))))) octets known fits le = absurd (above (suc (suc (suc (suc (suc (suc (suc (suc (suc (suc (suc (suc (suc (suc (suc (suc (suc (suc (suc (suc kind)))))))))))))))))))) (omega arith) known)

IsOctets-nil : IsOctets []
IsOctets-nil i = omega arith

-- so many zeros
many_zeros : (n : ℕ) → (xs : List ℕ) × (length xs ≡ n) × IsOctets xs
many_zeros zero = ([], refl, IsOctets-nil)
many_zeros (suc n) = let z = many_zeros n in (0 ∷ z.0, ap suc z.1, IsOctets-cons 0 z.0 (omega arith) z.2)

IsOctets-append : (xs ys : List ℕ) → IsOctets xs → IsOctets ys → IsOctets (xs ++ ys)
IsOctets-append [] ys h k = k
IsOctets-append (x ∷ xs) ys h k = IsOctets-cons x (xs ++ ys) (h 0) (IsOctets-append xs ys (λ i. h (suc i)) k)

-- Octets from which no body is read end early.
pub ends_early : (order : Order) (flags kind : ℕ) (octets : List ℕ) → is_known kind ≡ true → IsOctets octets → body_at order flags kind octets ≡ None → EndsEarly order flags kind octets
ends_early order flags kind octets taken fits unread =
    let z = many_zeros 1306632 in
    let long = octets ++ z.0 in
    let long_fits = IsOctets-append octets z.0 fits z.2 in
    let r = body_goes order flags kind long taken long_fits (omega (arith, length-append octets z.0, z.1)) in
    record {
      body = r.0;
      more = z.0;
      goes_on = body_takes order flags kind long r.0 long_fits r.1;
      alone = λ other s. absurd (cc (unread, body_again order flags kind octets other s));
    }
