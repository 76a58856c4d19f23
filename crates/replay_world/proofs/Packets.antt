-- Octets have one row of packets in front, and connections have counted one number of them.
use Rattle.std.proofs.Common.{◌≡◌, ℕ, inl, inr, None, List, [], ◌∷◌, ◌++◌, length, filter, refl, sym, ap, subst, ◌∙◌, arith}
use Rattle.std.proofs.lemmas.List.{length-append}
use Rattle.pdu_codec.specs.Faults.{frag_length}
use Rattle.pdu_stream.specs.Cuts.{HasHead}
use Rattle.pdu_stream.proofs.Heads.{tested_more, fault_along, size_along}
use Rattle.pdu_stream.proofs.CutLaws.{same_fronts}
use Rattle.desk_counts.specs.Numbers.{Numbers, with_more}
use Rattle.conn_histories.specs.Histories.{stream, put}
use Rattle.replay_world.specs.Worlds.{Peer}
use Rattle.replay_world.specs.Counting.{Counts, CountAll}
use Rattle.server_counts.specs.Packets.{IsPacket, HasNoPacket, ArePackets, ends_call}

-- a header stands in front, also where more follows
front_head : (packet rest : List ℕ) → HasHead packet → HasHead (packet ++ rest)
front_head packet rest h = record {
  long = omega (arith, h.long, length-append packet rest);
  sound = λ fault is. h.sound fault (fault_along None (packet ++ rest) packet fault (tested_more packet rest h.long) is);
}

front_size : (packet rest : List ℕ) → IsPacket packet → frag_length (packet ++ rest) ≡ length packet
front_size packet rest is = size_along (packet ++ rest) packet (tested_more packet rest is.head.long) ∙ sym is.whole

packet_stands : (packet rest : List ℕ) → IsPacket packet → HasNoPacket (packet ++ rest) → ⊥
packet_stands packet rest is (inl none) = none (front_head packet rest is.head)
packet_stands packet rest is (inr short) = absurd (omega (arith, length-append packet rest, front_size packet rest is, short))

one_packet : (a b x y : List ℕ) → IsPacket a → IsPacket b → a ++ x ≡ b ++ y → (a ≡ b) × (x ≡ y)
one_packet a b x y is is' e = same_fronts a b x y e (sym (front_size a x is) ∙ ap frag_length e ∙ front_size b y is')

pub one_row : (us vs : List (List ℕ)) (octets : List ℕ) → ArePackets us octets → ArePackets vs octets → us ≡ vs
one_row [] [] octets h l = refl
one_row [] (b ∷ vs) octets h l = absurd (packet_stands b l.0 l.2 (subst HasNoPacket l.1 h))
one_row (a ∷ us) [] octets h l = absurd (packet_stands a h.0 h.2 (subst HasNoPacket h.1 l))
one_row (a ∷ us) (b ∷ vs) octets h l =
    let one = one_packet a b h.0 l.0 h.2 l.2 (sym h.1 ∙ l.1) in
    let more : us ≡ vs = one_row us vs l.0 (subst (λ (rest : List ℕ). ArePackets us rest) one.1 h.3) l.3 in
    λ i. one.0 i ∷ more i

pub one_count : (p : Peer) (before a b : Numbers) → Counts p before a → Counts p before b → a ≡ b
one_count p before a b h l =
    let came : h.came ≡ l.came = one_row h.came l.came (stream p.events) h.are_came l.are_came in
    let answered : h.answered ≡ l.answered = one_row h.answered l.answered (put p.events) h.are_answered l.are_answered in
    h.sum ∙ (λ i. with_more before (length (filter ends_call (came i))) (length (came i)) (length (answered i))) ∙ sym l.sum

pub one_sum : (ps : List Peer) (a b : Numbers) → CountAll ps a → CountAll ps b → a ≡ b
one_sum [] a b h l = h ∙ sym l
one_sum (p ∷ ps) a b h l =
    let others : h.0 ≡ l.0 = one_sum ps h.0 l.0 h.1 l.1 in
    one_count p l.0 a b (subst (λ (x : Numbers). Counts p x a) others h.2) l.2
