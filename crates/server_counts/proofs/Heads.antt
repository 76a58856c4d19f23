-- The header of a packet, as it is read.
use Rattle.std.proofs.Common.{◌≡◌, ℕ, ◌+◌, ◌-◌, ◌<◌, ◌≤◌, ◌==◌, ◌&&◌, Bool, None, List, [], ◌∷◌, ◌++◌, length, take, slice_index, refl, sym, ap, subst, ◌∙◌, append-nil, arith}
use Rattle.std.proofs.lemmas.List.{length-append, take-append-le, take-append-drop}
use Rattle.pdu_codec.specs.declared.pdu.Head.{Head}
use Rattle.pdu_codec.specs.declared.pdu.Pdu.{Pdu}
use Rattle.pdu_codec.specs.declared.fault.PduFault.{PduFault}
use Rattle.pdu_codec.specs.Constants.{header_size, request_type, last_frag}
use Rattle.pdu_codec.specs.Pdus.{IsPdu}
use Rattle.pdu_codec.specs.Faults.{is_known, frag_length, IsHead, IsHeadFault}
use Rattle.pdu_codec.proofs.HeadLaws.{no_head_fault}
use Rattle.pdu_codec.proofs.HeadOnly.{head_says}
use Rattle.pdu_codec.proofs.PduLaws.{pdu_long}
use Rattle.pdu_stream.specs.Fragments.{has_flag}
use Rattle.pdu_stream.specs.Cuts.{HasHead}
use Rattle.pdu_stream.proofs.CutLaws.{pdu_size, pdu_sound}
use Rattle.server_counts.specs.Packets.{IsPacket, ends_call}
use Rattle.server_counts.specs.Pieces.{IsFirstPdu, BeginWithPdu}
use Rattle.server_counts.proofs.Fronts.{head_less, size_more}

pub head_found : (h : Head) (octets : List ℕ) → IsHead h octets → HasHead octets
head_found h octets is =
    let s = head_says h octets is in
    record {
      long = omega (arith, s.len);
      sound = λ fault wrong. no_head_fault None is.minor h [] octets s is.below (ap is_known s.kind ∙ is.known) is.long fault wrong;
    }

pub head_size : (h : Head) (octets : List ℕ) → IsHead h octets → frag_length octets ≡ h.length
head_size h octets is = (head_says h octets is).size

pub head_len : (h : Head) (octets : List ℕ) → IsHead h octets → length octets ≡ header_size
head_len h octets is = let len = (head_says h octets is).len in omega (arith, len)

pub head_call : (h : Head) (octets : List ℕ) → IsHead h octets → (h.kind == request_type && has_flag last_frag h.flags) ≡ ends_call octets
head_call h octets is =
    let s = head_says h octets is in
    λ i. (sym s.kind i == request_type) && has_flag last_frag (sym s.flags i)

-- ---- the PDU in front

pub pdu_head : (p : Pdu) (front : List ℕ) → IsPdu p front → HasHead front
pdu_head p front is = record {
  long = pdu_long p front is;
  sound = λ fault wrong. pdu_sound p front [] fault is (subst (λ (t : List ℕ). header_size ≤ length t) (sym (append-nil front)) (pdu_long p front is), subst (λ (t : List ℕ). IsHeadFault None t fault) (sym (append-nil front)) wrong);
}

pub pdu_packet : (p : Pdu) (front : List ℕ) → IsPdu p front → IsPacket front
pdu_packet p front is = record {
  head = pdu_head p front is;
  whole = sym (ap frag_length (sym (append-nil front)) ∙ pdu_size p front [] is);
}

pub take_one : (xs : List ℕ) → 0 < length xs → take 1 xs ≡ slice_index xs 0 ∷ []
take_one [] some = absurd (omega arith)
take_one (x ∷ xs) some = refl

-- a header stands in front
pub first_long : (octets : List ℕ) → BeginWithPdu octets → header_size ≤ length octets
first_long octets (size, (p, front, rest, e, is, len)) = omega (arith, ap length e, length-append front rest, pdu_long p front is)

-- and it has no fault
pub first_sound : (octets header more : List ℕ) (fault : PduFault) → BeginWithPdu octets → length header ≡ header_size → octets ≡ header ++ more → IsHeadFault None header fault → ⊥
first_sound octets header more fault (size, (p, front, rest, e, is, len)) count whole wrong =
    (head_less header more (omega (arith, count)) (subst HasHead whole (subst HasHead (sym e) (head_front p front rest is)))).sound fault wrong
  where
    head_front : (p : Pdu) (front rest : List ℕ) → IsPdu p front → HasHead (front ++ rest)
    head_front p front rest is = record {
      long = omega (arith, length-append front rest, pdu_long p front is);
      sound = λ f stop. pdu_sound p front rest f is (omega (arith, length-append front rest, pdu_long p front is), stop);
    }

-- and says how many octets the PDU has
pub first_size : (octets header more : List ℕ) (h : Head) (n : ℕ) → BeginWithPdu octets → octets ≡ header ++ more → IsHead h header → n ≡ h.length → IsFirstPdu octets n
first_size octets header more h n (size, (p, front, rest, e, is, len)) whole says said =
    let count : frag_length octets ≡ h.length =
    ap frag_length whole ∙ size_more header more (omega (arith, head_len h header says)) ∙ head_size h header says in
    (p, front, rest, e, is, said ∙ sym count ∙ ap frag_length e ∙ pdu_size p front rest is)

-- which lie within the octets
pub first_within : (octets : List ℕ) (n : ℕ) → IsFirstPdu octets n → (header_size ≤ n) × (n ≤ length octets)
first_within octets n (p, front, rest, e, is, len) = (omega (arith, len, pdu_long p front is), omega (arith, len, ap length e, length-append front rest))
