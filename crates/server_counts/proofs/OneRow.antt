-- Octets have one row of packets in front.
use Rattle.std.proofs.Common.{◌≡◌, ℕ, inl, inr, List, [], ◌∷◌, ◌++◌, length, refl, sym, ap, subst, ◌∙◌, arith}
use Rattle.std.proofs.lemmas.List.{length-append}
use Rattle.pdu_codec.specs.Faults.{frag_length}
use Rattle.pdu_stream.proofs.CutLaws.{same_fronts}
use Rattle.server_counts.specs.Packets.{IsPacket, HasNoPacket, ArePackets}
use Rattle.server_counts.proofs.Fronts.{head_more, size_more}

front_size : (packet rest : List ℕ) → IsPacket packet → frag_length (packet ++ rest) ≡ length packet
front_size packet rest is = size_more packet rest is.head.long ∙ sym is.whole

packet_stands : (packet rest : List ℕ) → IsPacket packet → HasNoPacket (packet ++ rest) → ⊥
packet_stands packet rest is (inl none) = none (head_more packet rest is.head)
packet_stands packet rest is (inr short) = absurd (omega (arith, length-append packet rest, front_size packet rest is, short))

one_packet : (a b x y : List ℕ) → IsPacket a → IsPacket b → a ++ x ≡ b ++ y → (a ≡ b) × (x ≡ y)
one_packet a b x y is is' e = same_fronts a b x y e (sym (front_size a x is) ∙ ap frag_length e ∙ front_size b y is')

pub one_row : (us vs : List (List ℕ)) (octets : List ℕ) → ArePackets us octets → ArePackets vs octets → us ≡ vs
one_row [] [] octets h l = refl
one_row [] (b ∷ vs) octets h l = absurd (packet_stands b l.0 l.2 (subst HasNoPacket l.1 h))
one_row (a ∷ us) [] octets h l = absurd (packet_stands a h.0 h.2 (subst HasNoPacket h.1 l))
one_row (a ∷ us) (b ∷ vs) octets h l =
    let one = one_packet a b h.0 l.0 h.2 l.2 (sym h.1 ∙ l.1) in
    let more : us ≡ vs = one_row us vs l.0 (subst (λ (rest : List ℕ). ArePackets us rest) one.1 h.3) l.3 in
    λ i. one.0 i ∷ more i
