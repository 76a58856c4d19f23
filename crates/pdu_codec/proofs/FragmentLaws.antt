-- A fragment's header and the body after it are its PDU.
use Rattle.std.proofs.Common.{◌≡◌, ℕ, ◌+◌, List, ◌++◌, length, None, ap, ◌∙◌, arith}
use Rattle.pdu_codec.specs.declared.pdu.Head.{Head}
use Rattle.pdu_codec.specs.declared.pdu.RequestBody.{RequestBody}
use Rattle.pdu_codec.specs.declared.pdu.ResponseBody.{ResponseBody}
use Rattle.pdu_codec.specs.declared.fragments.FragmentHead.{FragmentHead}
use Rattle.pdu_codec.specs.Constants.{request_type, response_type, stub_offset}
use Rattle.pdu_codec.specs.Pdus.{zeros_3, head_octets, head_of, request_octets, response_octets, pdu_octets}
use Rattle.pdu_codec.specs.Fragments.{request_pdu, response_pdu}
use Rattle.pdu_codec.proofs.WritingLaws.{length-pdu_octets, whole_put}
use Rattle.pdu_codec.proofs.SizeLaws.{length-request, length-response}

pub request_put : (f : FragmentHead) (op : ℕ) (stub old mid new : List ℕ) (h : Head)
    → h ≡ record { kind = request_type; flags = f.flags; order = f.order; length = stub_offset + length stub; call_id = f.call_id }
    → mid ≡ old ++ head_octets 0 zeros_3 h
    → new ≡ mid ++ request_octets f.order (record { alloc_hint = f.alloc_hint; context = f.context; op = op; object = None; stub = stub })
    → new ≡ old ++ pdu_octets (request_pdu f op stub)
request_put f op stub old mid new h h_is mid_is new_is =
    let p = request_pdu f op stub in
    let body : RequestBody = record { alloc_hint = f.alloc_hint; context = f.context; op = op; object = None; stub = stub } in
    let size : stub_offset + length stub ≡ length (pdu_octets p) = omega (arith, length-pdu_octets p, length-request f.order body) in
    whole_put old mid new p (stub_offset + length stub) size (mid_is ∙ ap (λ (x : Head). old ++ head_octets 0 zeros_3 x) h_is) new_is

pub response_put : (f : FragmentHead) (stub old mid new : List ℕ) (h : Head)
    → h ≡ record { kind = response_type; flags = f.flags; order = f.order; length = stub_offset + length stub; call_id = f.call_id }
    → mid ≡ old ++ head_octets 0 zeros_3 h
    → new ≡ mid ++ response_octets f.order 0 (record { alloc_hint = f.alloc_hint; context = f.context; cancel_count = 0; stub = stub })
    → new ≡ old ++ pdu_octets (response_pdu f stub)
response_put f stub old mid new h h_is mid_is new_is =
    let p = response_pdu f stub in
    let body : ResponseBody = record { alloc_hint = f.alloc_hint; context = f.context; cancel_count = 0; stub = stub } in
    let size : stub_offset + length stub ≡ length (pdu_octets p) = omega (arith, length-pdu_octets p, length-response f.order 0 body) in
    whole_put old mid new p (stub_offset + length stub) size (mid_is ∙ ap (λ (x : Head). old ++ head_octets 0 zeros_3 x) h_is) new_is
