-- PDUs, one after the other, are packets.
use Rattle.std.proofs.Common.{◌≡◌, ℕ, zero, suc, ◌+◌, ◌^◌, ◌<◌, ◌≤◌, inl, List, [], ◌∷◌, ◌++◌, length, map, take, drop, refl, sym, ap, subst, ◌∙◌, append_assoc, append-nil, arith}
use Rattle.std.specs.List.{flat_map, AllByRecursion}
use Rattle.std.proofs.lemmas.List.{length-append, nil_from_length}
use Rattle.pdu_codec.specs.declared.pdu.Pdu.{Pdu}
use Rattle.pdu_codec.specs.Faults.{frag_length}
use Rattle.pdu_codec.specs.Pdus.{IsPdu, AreSpelled}
use Rattle.pdu_codec.proofs.PduLaws.{pdu_long}
use Rattle.pdu_stream.proofs.CutLaws.{pdu_size, same_fronts}
use Rattle.server_counts.specs.Packets.{ArePackets}
use Rattle.server_counts.specs.Pieces.{IsOnePdu, ArePdus}
use Rattle.server_counts.proofs.Heads.{pdu_packet}

pub piece_pdu : (piece first : List ℕ) → (is : IsOnePdu piece first) → IsPdu is.1.0 first
piece_pdu piece first is = subst (λ (t : List ℕ). IsPdu is.1.0 t) (sym is.0) is.1.1

pub pdus_are_packets : (pieces : List (List ℕ)) (octets : List ℕ) → AreSpelled IsOnePdu pieces octets → ArePackets pieces octets
pdus_are_packets [] octets are = inl (λ h. absurd (omega (arith, h.long, ap length are)))
pdus_are_packets (piece ∷ more) octets (first, others, whole, is, are) =
    (others, whole ∙ ap (λ (t : List ℕ). t ++ others) is.0, pdu_packet is.1.0 piece is.1.1, pdus_are_packets more others are)

pub pdus_go_on : (a b : List (List ℕ)) (x y : List ℕ) → AreSpelled IsOnePdu a x → AreSpelled IsOnePdu b y → AreSpelled IsOnePdu (a ++ b) (x ++ y)
pdus_go_on [] b x y h k = subst (λ (t : List ℕ). AreSpelled IsOnePdu b (t ++ y)) (sym h) k
pdus_go_on (piece ∷ a) b x y (first, others, whole, is, are) k =
    (first, others ++ y, ap (λ (t : List ℕ). t ++ y) whole ∙ append_assoc first others y, is, pdus_go_on a b others y are k)

-- octets of one PDU are PDUs
pub pdu_is_pdus : (p : Pdu) (octets : List ℕ) → IsPdu p octets → ArePdus octets
pdu_is_pdus p octets is = (octets ∷ [], (octets, [], sym (append-nil octets), (refl, (p, is)), refl))

pub none_are_pdus : ArePdus []
none_are_pdus = ([], refl)
