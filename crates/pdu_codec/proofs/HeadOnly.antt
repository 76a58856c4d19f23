-- A header alone.
use Rattle.std.proofs.Common.{◌≡◌, ℕ, Bool, List, [], ◌++◌, length, slice_index, take, drop, Option, Some, None, Result, Ok, Err, sym, ap, subst, ◌∙◌, arith}
use Rattle.std.specs.Prelude.{IfOk, IfErr}
use Rattle.std.specs.Int.{w32}
use Rattle.std.proofs.lemmas.List.{length-take, length-drop, append-nil, nil_from_length}
use Rattle.rpc_base.specs.declared.identifiers.Order.{Order}
use Rattle.rpc_base.specs.Fields.{IsOctets, number_of}
use Rattle.rpc_base.proofs.FieldLaws.{wide16, wide32, part_at}
use Rattle.pdu_codec.specs.Constants.{header_size}
use Rattle.pdu_codec.specs.declared.pdu.Head.{Head}
use Rattle.pdu_codec.specs.declared.fault.PduFault.{PduFault}
use Rattle.pdu_codec.specs.Pdus.{head_octets}
use Rattle.pdu_codec.specs.Faults.{is_known, kind_at, length_order, frag_length, PassesHead, IsHeadFault, head_at, IsHead}
use Rattle.pdu_codec.proofs.HeadLaws.{Says, says, no_head_fault, stands}

-- what passes says its header
pub head_found : (octets : List ℕ) (h : Head) → IsOctets octets → length octets ≡ header_size → PassesHead None h.order octets → h ≡ head_at h.order octets → IsHead h octets
head_found octets h fits len passes head =
    let p8 = part_at 2 8 octets (omega arith) fits in
    let p12 = part_at 4 12 octets (omega arith) fits in
    let size_is : h.length ≡ frag_length octets = ap (λ (x : Head). x.length) head in
    let call_is : h.call_id ≡ number_of h.order w32 (take 4 (drop 12 octets)) = ap (λ (x : Head). x.call_id) head in
    let kind_is : kind_at octets ≡ h.kind = sym (ap (λ (x : Head). x.kind) head) in
    let behind : drop header_size octets ≡ [] = nil_from_length (drop header_size octets) (omega (arith, length-drop header_size octets)) in
    let whole : octets ≡ head_octets (slice_index octets 1) (take 3 (drop 5 octets)) (head_at h.order octets) ++ drop header_size octets = stands None h.order octets fits (omega arith) passes in
    record {
      known = sym (ap is_known kind_is) ∙ passes.0.0.0.1;
      long = omega (arith, size_is, passes.0.0.1);
      short = omega (arith, size_is, wide16.below (length_order (slice_index octets 4)) (take 2 (drop 8 octets)) p8.fits);
      call_id = omega (arith, call_is, wide32.below h.order (take 4 (drop 12 octets)) p12.fits);
      minor = slice_index octets 1;
      below = passes.0.0.0.0.1;
      drep = take 3 (drop 5 octets);
      three = omega (arith, length-take 3 (drop 5 octets), length-drop 5 octets);
      whole = whole ∙ ap (λ (t : List ℕ). head_octets (slice_index octets 1) (take 3 (drop 5 octets)) (head_at h.order octets) ++ t) behind
          ∙ append-nil (head_octets (slice_index octets 1) (take 3 (drop 5 octets)) (head_at h.order octets))
          ∙ ap (head_octets (slice_index octets 1) (take 3 (drop 5 octets))) (sym head);
    }

-- what a header's octets say
pub head_says : (h : Head) (octets : List ℕ) → (is : IsHead h octets) → Says is.minor h [] octets
head_says h octets is =
    subst (λ (o : List ℕ). Says is.minor h [] o) (append-nil (head_octets is.minor is.drep h) ∙ sym is.whole) (says is.minor is.drep h [] is.three is.short is.call_id)

abbrev given : {A : Type 0} → A → Option A
given x = Some x

some_same : {A : Type 0} (x y : A) → given x ≡ given y → x ≡ y
some_same x y e = cc

head_same : (octets : List ℕ) (h g : Head) → PassesHead None h.order octets → h ≡ head_at h.order octets → IsHead g octets → h ≡ g
head_same octets h g passes head is =
    let s = head_says g octets is in
    let order_is : h.order ≡ g.order = some_same h.order g.order (sym passes.1 ∙ s.order) in
    head ∙ ap (λ (x : Order). head_at x octets) order_is ∙ s.head

pub whole_found : (octets : List ℕ) (r : Result Head PduFault) → IsOctets octets → length octets ≡ header_size
    → IfOk r (λ h. PassesHead None h.order octets) → IfOk r (λ h. h ≡ head_at h.order octets) → IfOk r (λ h. IsHead h octets)
whole_found octets (Ok h) fits len passes head = head_found octets h fits len passes head
whole_found octets (Err f) fits len passes head = tt

abbrev answer : Head → Result Head PduFault
answer h = Ok h

pub whole_same : (octets : List ℕ) (r : Result Head PduFault) → length octets ≡ header_size
    → IfOk r (λ h. PassesHead None h.order octets) → IfOk r (λ h. h ≡ head_at h.order octets) → IfErr r (IsHeadFault None octets)
    → (h : Head) → IsHead h octets → r ≡ Ok h
whole_same octets (Ok g) len passes head fault h is = ap answer (head_same octets g h passes head is)
whole_same octets (Err f) len passes head fault h is =
    let s = head_says h octets is in
    absurd (no_head_fault None is.minor h [] octets s is.below (ap is_known s.kind ∙ is.known) is.long f fault)
