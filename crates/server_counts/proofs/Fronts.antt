-- Packets in front of octets, and headers where more follows.
use Rattle.std.proofs.Common.{◌≡◌, ℕ, ◌+◌, ◌<◌, ◌≤◌, ◌==◌, ◌&&◌, inl, inr, Bool, None, List, [], ◌∷◌, ◌++◌, length, filter, take, get_or, refl, sym, ap, subst, ◌∙◌, append_assoc, append-nil, arith}
use Rattle.std.proofs.lemmas.List.{length-append, get_or-take, take-append-le}
use Rattle.std.proofs.lemmas.List.Elements.{filter-append}
use Rattle.pdu_codec.specs.Constants.{header_size, request_type, last_frag}
use Rattle.pdu_codec.specs.Faults.{kind_at, flags_at, frag_length}
use Rattle.pdu_stream.specs.Fragments.{has_flag}
use Rattle.pdu_stream.specs.Cuts.{HasHead}
use Rattle.pdu_stream.proofs.Heads.{Tested, tested_more, fault_along, size_along}
use Rattle.server_counts.specs.Packets.{IsPacket, HasNoPacket, ArePackets, ends_call}
use Rattle.server_counts.specs.declared.place.Place.{Place}
use Rattle.server_counts.specs.declared.place.Place.TheVariants.{Head, Body, Stopped}
use Rattle.server_counts.specs.declared.place.NewPackets.{NewPackets}
use Rattle.server_counts.specs.Packets.{PacketsView, StandsAt, AreFront, Stands, AreMany}

-- ---- a header where more follows

pub head_more : (rest more : List ℕ) → HasHead rest → HasHead (rest ++ more)
head_more rest more h = record {
  long = omega (arith, h.long, length-append rest more);
  sound = λ fault is. h.sound fault (fault_along None (rest ++ more) rest fault (tested_more rest more h.long) is);
}

pub head_less : (rest more : List ℕ) → header_size ≤ length rest → HasHead (rest ++ more) → HasHead rest
head_less rest more long h = record {
  long = long;
  sound = λ fault is. h.sound fault (fault_along None rest (rest ++ more) fault (sym (tested_more rest more long)) is);
}

pub size_more : (rest more : List ℕ) → header_size ≤ length rest → frag_length (rest ++ more) ≡ frag_length rest
size_more rest more long = size_along (rest ++ more) rest (tested_more rest more long)

flags_more : (rest more : List ℕ) → header_size ≤ length rest → flags_at (rest ++ more) ≡ flags_at rest
flags_more rest more long =
    sym (get_or-take header_size (rest ++ more) 3 0 (omega arith)) ∙ ap (λ (t : List ℕ). get_or t 3 0) (take-append-le header_size rest more long) ∙ get_or-take header_size rest 3 0 (omega arith)

pub call_more : (rest more : List ℕ) → header_size ≤ length rest → ends_call (rest ++ more) ≡ ends_call rest
call_more rest more long =
    let kind : kind_at (rest ++ more) ≡ kind_at rest = ap (λ (t : Tested). t.kind) (tested_more rest more long) in
    λ i. (kind i == request_type) && has_flag last_frag (flags_more rest more long i)

-- ---- packets in front

pub front_append : (came : List (List ℕ)) (rest more octets : List ℕ) → AreFront came rest octets → AreFront came (rest ++ more) (octets ++ more)
front_append [] rest more octets h = ap (λ (t : List ℕ). t ++ more) h
front_append (packet ∷ came) rest more octets h =
    (h.0 ++ more, ap (λ (t : List ℕ). t ++ more) h.1 ∙ append_assoc packet h.0 more, h.2, front_append came rest more h.0 h.3)

pub front_more : (came : List (List ℕ)) (packet octets : List ℕ) → IsPacket packet → AreFront came packet octets → AreFront (came ++ packet ∷ []) [] octets
front_more [] packet octets is h = ([], h ∙ sym (append-nil packet), is, refl)
front_more (first ∷ came) packet octets is h = (h.0, h.1, h.2, front_more came packet h.0 is h.3)

no_more : (place : Place) (held rest : List ℕ) → StandsAt place held rest → HasNoPacket rest
no_more Head held rest at = inl (λ h. absurd (omega (arith, h.long, at.1)))
no_more (Body call missing) held rest at = inr (omega (arith, at.2, at.3))
no_more Stopped held rest at = inl at.1

front_packets : (came : List (List ℕ)) (rest octets : List ℕ) → HasNoPacket rest → AreFront came rest octets → ArePackets came octets
front_packets [] rest octets none h = subst HasNoPacket (sym h) none
front_packets (packet ∷ came) rest octets none h = (h.0, h.1, h.2, front_packets came rest h.0 none h.3)

pub counted_are_packets : (x : PacketsView) (came : List (List ℕ)) (octets : List ℕ) → Stands x came octets → ArePackets came octets
counted_are_packets x came octets s = front_packets came s.rest octets (no_more x.place x.held s.rest s.place) s.front

-- ---- how many

pub none_are : (n : NewPackets) → n.packets ≡ 0 → n.calls ≡ 0 → AreMany n []
none_are n packets calls = record { packets = packets; calls = calls }

pub many_more : (n m all : NewPackets) (xs ys : List (List ℕ)) → all.packets ≡ n.packets + m.packets → all.calls ≡ n.calls + m.calls → AreMany n xs → AreMany m ys → AreMany all (xs ++ ys)
many_more n m all xs ys packets calls a b = record {
  packets = omega (arith, length-append xs ys, a.packets, b.packets);
  calls =
      let both : length (filter ends_call (xs ++ ys)) ≡ length (filter ends_call xs) + length (filter ends_call ys) =
      ap length (filter-append ends_call xs ys) ∙ length-append (filter ends_call xs) (filter ends_call ys) in
      omega (arith, both, a.calls, b.calls);
}
