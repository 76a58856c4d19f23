-- Every stream of octets has a cut.
use Rattle.std.proofs.Common.{◌≡◌, ℕ, zero, suc, ◌≤◌, ◌⊎◌, inl, inr, Bool, true, false, List, [], ◌∷◌, ◌++◌, length, slice_index, take, drop, Option, Some, None, refl, sym, ap, subst, ◌∙◌, append-nil, arith}
use Rattle.std.proofs.lemmas.Bool.{cases_lt, cases_eq}
use Rattle.std.proofs.lemmas.List.{length-append, length-take-le, take-take, take-append-drop, drop_at}
use Rattle.rpc_base.specs.declared.identifiers.Order.{Order}
use Rattle.rpc_base.specs.Fields.{IsOctets, order_of}
use Rattle.rpc_base.proofs.FieldLaws.{IsOctets-drop, IsOctets-take}
use Rattle.pdu_codec.specs.Constants.{header_size, major_version}
use Rattle.pdu_codec.specs.declared.pdu.Pdu.{Pdu}
use Rattle.pdu_codec.specs.declared.pdu.Body.{Body}
use Rattle.pdu_codec.specs.declared.fault.PduFault.{PduFault}
use Rattle.pdu_codec.specs.declared.fault.PduFault.TheVariants as faults
use Rattle.pdu_codec.specs.Pdus.{IsPdu, AreSpelled}
use Rattle.pdu_codec.specs.Faults.{is_known, kind_at, flags_at, frag_length, auth_length, PassesVersion, PassesKind, PassesLength, PassesAuth, PassesHead, IsHeadFault, head_at}
use Rattle.pdu_codec.specs.Reading.{body_at}
use Rattle.pdu_codec.proofs.HeadLaws.{no_head_fault}
use Rattle.pdu_codec.proofs.HeadOnly.{head_found, head_says}
use Rattle.pdu_codec.proofs.PduLaws.{Opened, pdu_of, pdu_long, opened_found, opened_early}
use Rattle.pdu_stream.specs.declared.cut.Cut.{Cut}
use Rattle.pdu_stream.specs.Cuts.{Remains, IsCut}
use Rattle.pdu_stream.proofs.Heads.{tested, tested_front, fault_along, passes_along, size_along, passes_whole}
use Rattle.pdu_stream.proofs.CutLaws.{head_stops, cut_goes_on}

-- ---- a header has a fault or passes

abbrev Head : List ℕ → Type 0
Head o = ((f : PduFault) × IsHeadFault None o f) ⊎ ((order : Order) × PassesHead None order o)

by_order : (o : List ℕ) (found : Option Order) → order_of (slice_index o 4) ≡ found → PassesAuth None o → Head o
by_order o None e h = inl (faults.Characters, (h, e))
by_order o (Some order) e h = inr (order, (h, e))

by_auth : (o : List ℕ) → PassesLength None o → Head o
by_auth o h = elim (cases_eq (auth_length o) 0) [ inl e ↦ by_order o (order_of (slice_index o 4)) refl (h, e) | inr n ↦ inl (faults.Auth, (h, n)) ]

by_length : (o : List ℕ) → PassesKind o → Head o
by_length o h = elim (cases_lt (frag_length o) header_size) [ inl lt ↦ inl (faults.Length, (h, lt)) | inr le ↦ by_auth o (h, le) ]

by_kind : (o : List ℕ) (known : Bool) → is_known (kind_at o) ≡ known → PassesVersion o → Head o
by_kind o false e h = inl (faults.Kind, (h, e))
by_kind o true e h = by_length o (h, e)

by_minor : (o : List ℕ) → slice_index o 0 ≡ major_version → Head o
by_minor o major = elim (cases_lt 1 (slice_index o 1)) [ inl lt ↦ inl (faults.Version, inr lt) | inr le ↦ by_kind o (is_known (kind_at o)) refl (major, le) ]

head_of_any : (o : List ℕ) → Head o
head_of_any o = elim (cases_eq (slice_index o 0) 5) [ inl e ↦ by_minor o e | inr n ↦ inl (faults.Version, inl n) ]

-- ---- what stands in front of octets

pub passes_sound : (o : List ℕ) (order : Order) → IsOctets o → header_size ≤ length o → PassesHead None order o
    → (f : PduFault) → IsHeadFault None o f → ⊥
passes_sound o order fits long passes f wrong =
    let t = take header_size o in
    let alone : PassesHead None order t = passes_along None order o t (sym (tested_front o)) passes in
    let h = head_found t (head_at order t) (IsOctets-take header_size o fits) (length-take-le header_size o long) alone refl in
    let s = head_says (head_at order t) t h in
    no_head_fault None h.minor (head_at order t) [] t s h.below h.known h.long f (fault_along None o t f (sym (tested_front o)) wrong)

abbrev Front : List ℕ → Type 0
Front o = ((p : Pdu) × (front : List ℕ) × (others : List ℕ) × IsPdu p front × (o ≡ front ++ others)) ⊎ ((f : Option PduFault) × Remains o f)

by_body : (o whole others : List ℕ) (order : Order) (body : Option Body) → o ≡ whole ++ others → Opened whole (head_at order whole)
    → body_at order (flags_at whole) (kind_at whole) (drop header_size whole) ≡ body → Front o
by_body o whole others order None e opened b = inr (Some faults.Body, (whole, others, e, opened_early whole (head_at order whole) opened b))
by_body o whole others order (Some body) e opened b =
    inl (pdu_of whole (head_at order whole) body, whole, others, opened_found whole (head_at order whole) body opened b, e)

by_size : (o : List ℕ) (order : Order) → IsOctets o → header_size ≤ length o → PassesHead None order o → frag_length o ≤ length o → Front o
by_size o order fits long passes le =
    let n = frag_length o in
    let whole = take n o in
    let least : header_size ≤ n = passes.0.0.1 in
    let len : length whole ≡ n = length-take-le n o le in
    let same : tested o ≡ tested whole = sym (tested_front o) ∙ ap tested (sym (take-take header_size n o least)) ∙ tested_front whole in
    let size : frag_length whole ≡ length whole = sym (size_along o whole same) ∙ sym len in
    let opened : Opened whole (head_at order whole) = record {
      fits = IsOctets-take n o fits;
      long = omega (arith, len, least);
      passes = passes_whole (length whole) order whole size (passes_along None order o whole same passes);
      head = refl;
    } in
    by_body o whole (drop n o) order (body_at order (flags_at whole) (kind_at whole) (drop header_size whole)) (sym (take-append-drop n o)) opened refl

by_head : (o : List ℕ) → IsOctets o → header_size ≤ length o → Head o → Front o
by_head o fits long (inl wrong) = inr (Some wrong.0, head_stops o wrong.0 (long, wrong.1))
by_head o fits long (inr right) = elim (cases_lt (length o) (frag_length o)) [
  | inl lt ↦ inr (None, inr (record { long = long; sound = passes_sound o right.0 fits long right.1 }, lt))
  | inr le ↦ by_size o right.0 fits long right.1 le
]

front_of_any : (o : List ℕ) → IsOctets o → Front o
front_of_any o fits = elim (cases_lt (length o) header_size) [ inl short ↦ inr (None, inl short) | inr long ↦ by_head o fits long (head_of_any o) ]

-- ---- the whole

abbrev Cutting : List ℕ → Type 0
Cutting stream = (cut : Cut) × IsCut stream cut

remaining : (stream : List ℕ) (f : Option PduFault) → Remains stream f → Cutting stream
remaining stream f r = (record { pdus = []; rest = stream; fault = f }, record { front = []; whole = refl; pdus = refl; remains = r })

with_pdu : (p : Pdu) (front others stream : List ℕ) → IsPdu p front → stream ≡ front ++ others → Cutting others → Cutting stream
with_pdu p front others stream is e c =
    let one : AreSpelled IsPdu (p ∷ []) front = (front, [], sym (append-nil front), is, refl) in
    (record c.0 { pdus = p ∷ c.0.pdus }, subst (λ (t : List ℕ). IsCut t (record c.0 { pdus = p ∷ c.0.pdus })) (sym e) (cut_goes_on front others (p ∷ []) c.0 one c.1))

cut_within : (n : ℕ) (stream : List ℕ) → length stream ≤ n → IsOctets stream → Cutting stream
cut_within zero stream le fits = remaining stream None (inl (omega arith))
cut_within (suc n) stream le fits = elim (front_of_any stream fits) [
  | inl found ↦
      let others = found.2 in
      let long = pdu_long found.0 found.1 found.3 in
      let less : length others ≤ n = omega (arith, ap length found.4, length-append found.1 others, long) in
      let is_drop : drop (length found.1) stream ≡ others = ap (drop (length found.1)) found.4 ∙ drop_at found.1 others (length found.1) refl in
      let octets : IsOctets others = subst IsOctets is_drop (IsOctets-drop (length found.1) stream fits) in
      with_pdu found.0 found.1 others stream found.3 found.4 (cut_within n others less octets)
  | inr left ↦ remaining stream left.0 left.1
]

pub has_cut : (stream : List ℕ) → IsOctets stream → Cutting stream
has_cut stream fits = cut_within (length stream) stream (omega arith) fits
