-- What stands at the front of octets, by what was read of them.
use Rattle.std.proofs.Common.{◌≡◌, ℕ, ◌<◌, ◌≤◌, ◌⊎◌, inl, inr, List, [], ◌++◌, length, take, drop, Some, None, refl, sym, ap, ◌∙◌, arith}
use Rattle.std.proofs.lemmas.List.{length-take-le, take-take, take-append-drop}
use Rattle.pdu_codec.specs.Constants.{header_size}
use Rattle.pdu_codec.specs.declared.pdu.Head.{Head}
use Rattle.pdu_codec.specs.declared.fault.PduFault.{PduFault}
use Rattle.pdu_codec.specs.declared.fault.PduFault.TheVariants as faults
use Rattle.pdu_codec.specs.Faults.{is_known, kind_at, frag_length, IsHeadFault, IsHead, IsFault}
use Rattle.pdu_codec.proofs.HeadLaws.{no_head_fault}
use Rattle.pdu_codec.proofs.HeadOnly.{head_says}
use Rattle.pdu_stream.specs.Cuts.{HasHead, IsPartial, IsStop}
use Rattle.pdu_stream.proofs.Heads.{tested, tested_front, fault_along, size_along}
use Rattle.pdu_stream.proofs.CutLaws.{head_stops}

-- a header's fault
pub head_fault : (octets header : List ℕ) (f : PduFault) → header_size ≤ length octets → header ≡ take header_size octets → IsHeadFault None header f → IsStop octets f
head_fault octets header f long e h = head_stops octets f (long, fault_along None header octets f (ap tested e ∙ tested_front octets) h)

-- a header without a fault
pub head_sound : (octets header : List ℕ) (h : Head) → header_size ≤ length octets → header ≡ take header_size octets → IsHead h header → HasHead octets
head_sound octets header h long e is =
    let s = head_says h header is in
    record {
      long = long;
      sound = λ f wrong. no_head_fault None is.minor h [] header s is.below (ap is_known s.kind ∙ is.known) is.long f
          (fault_along None octets header f (sym (ap tested e ∙ tested_front octets)) wrong);
    }

pub head_size : (octets header : List ℕ) (h : Head) → header ≡ take header_size octets → IsHead h header → frag_length octets ≡ h.length
head_size octets header h e is = sym (size_along header octets (ap tested e ∙ tested_front octets)) ∙ (head_says h header is).size

pub head_partial : (octets header : List ℕ) (h : Head) → header_size ≤ length octets → header ≡ take header_size octets → IsHead h header → length octets < h.length → IsPartial octets
head_partial octets header h long e is lt = inr (head_sound octets header h long e is, omega (arith, head_size octets header h e is, lt))

-- ---- a fault of a PDU whose header has none

narrowed : (whole : List ℕ) (f : PduFault) → IsHeadFault (Some (length whole)) whole f → frag_length whole ≡ length whole → IsHeadFault None whole f
narrowed whole faults.Version h size = h
narrowed whole faults.Kind h size = h
narrowed whole faults.Length h size = (h.0, elim h.1 [ inl less ↦ less | inr other ↦ absurd (other size) ])
narrowed whole faults.Auth h size = ((h.0.0, h.0.1.0), h.1)
narrowed whole faults.Characters h size = (((h.0.0.0, h.0.0.1.0), h.0.1), h.1)
narrowed whole faults.Body h size = h
narrowed whole faults.Memory h size = h

front_narrowed : (whole : List ℕ) (f : PduFault) → ((f : PduFault) → IsHeadFault None whole f → ⊥) → frag_length whole ≡ length whole
    → IsHeadFault (Some (length whole)) whole f → ⊥
front_narrowed whole f sound size h = sound f (narrowed whole f h size)

only_body : (whole more octets : List ℕ) (f : PduFault) → octets ≡ whole ++ more → header_size ≤ length whole → ((f : PduFault) → IsHeadFault None whole f → ⊥)
    → frag_length whole ≡ length whole → IsFault whole f → IsStop octets f ⊎ (f ≡ faults.Memory)
only_body whole more octets faults.Version e long sound size h = absurd (front_narrowed whole faults.Version sound size h.1)
only_body whole more octets faults.Kind e long sound size h = absurd (front_narrowed whole faults.Kind sound size h.1)
only_body whole more octets faults.Length e long sound size (inl short) = absurd (omega (arith, short, long))
only_body whole more octets faults.Length e long sound size (inr h) = absurd (front_narrowed whole faults.Length sound size h.1)
only_body whole more octets faults.Auth e long sound size h = absurd (front_narrowed whole faults.Auth sound size h.1)
only_body whole more octets faults.Characters e long sound size h = absurd (front_narrowed whole faults.Characters sound size h.1)
only_body whole more octets faults.Body e long sound size h = inl (whole, more, e, h)
only_body whole more octets faults.Memory e long sound size h = inr refl

pub body_fault : (octets header : List ℕ) (h : Head) (f : PduFault) → header_size ≤ length octets → header ≡ take header_size octets → IsHead h header → h.length ≤ length octets
    → IsFault (take h.length octets) f → IsStop octets f ⊎ (f ≡ faults.Memory)
body_fault octets header h f long e is le wrong =
    let n = h.length in
    let whole = take n octets in
    let len : length whole ≡ n = length-take-le n octets le in
    let same : tested octets ≡ tested whole = sym (tested_front octets) ∙ ap tested (sym (take-take header_size n octets is.long)) ∙ tested_front whole in
    let size : frag_length whole ≡ length whole = sym (size_along octets whole same) ∙ head_size octets header h e is ∙ sym len in
    only_body whole (drop n octets) octets f (sym (take-append-drop n octets)) (omega (arith, len, is.long))
    (λ g bad. (head_sound octets header h long e is).sound g (fault_along None whole octets g (sym same) bad)) size wrong
