-- What some octets more make of the place of a stream.
use Rattle.std.proofs.Common.{◌≡◌, ℕ, ◌+◌, ◌-◌, ◌<◌, ◌≤◌, Bool, true, false, if◌then◌else◌, List, [], ◌∷◌, ◌++◌, length, refl, sym, ap, subst, ◌∙◌, append_assoc, append-nil, arith}
use Rattle.std.proofs.lemmas.List.{length-append}
use Rattle.pdu_codec.specs.Constants.{header_size}
use Rattle.pdu_codec.specs.Faults.{frag_length}
use Rattle.pdu_stream.specs.Cuts.{HasHead}
use Rattle.server_counts.specs.Packets.{IsPacket, ends_call}
use Rattle.server_counts.specs.declared.place.Place.{Place}
use Rattle.server_counts.specs.declared.place.Place.TheVariants.{Head, Body, Stopped}
use Rattle.server_counts.specs.declared.place.NewPackets.{NewPackets}
use Rattle.server_counts.specs.Packets.{PacketsView, StandsAt, AreFront, Stands, AreMany, IsBehind, Enters, Comes}
use Rattle.server_counts.proofs.Fronts.{head_more, head_less, size_more, call_more, front_append, front_more, many_more}

abbrev view_at : List ℕ → Place → PacketsView
view_at held place = record { held = held; place = place }

-- ---- nothing comes, and one piece behind another

pub comes_none : (x : PacketsView) (n : NewPackets) → n.packets ≡ 0 → n.calls ≡ 0 → Comes x [] n x
comes_none x n packets calls came octets s =
    ([], record { rest = s.rest; front = subst (λ (t : List (List ℕ)). AreFront t s.rest (octets ++ [])) (sym (append-nil came)) (subst (λ (t : List ℕ). AreFront came s.rest t) (sym (append-nil octets)) s.front); place = s.place }, record { packets = packets; calls = calls })

pub comes_on : (a b c : PacketsView) (x y : List ℕ) (n m all : NewPackets) → all.packets ≡ n.packets + m.packets → all.calls ≡ n.calls + m.calls
    → Comes a x n b → Comes b y m c → Comes a (x ++ y) all c
comes_on a b c x y n m all packets calls h k came octets s =
    let first = h came octets s in
    let then_ = k (came ++ first.0) (octets ++ x) first.1 in (
      first.0 ++ then_.0,
      subst (λ (t : List (List ℕ)). Stands c t (octets ++ (x ++ y))) (append_assoc came first.0 then_.0) (subst (λ (t : List ℕ). Stands c ((came ++ first.0) ++ then_.0) t) (append_assoc octets x y) then_.1),
      many_more n m all first.0 then_.0 packets calls first.2 then_.2,
    )

-- ---- behind some octets

same_packets : (came : List (List ℕ)) (octets rest held : List ℕ) (place : Place) (n : NewPackets) → AreFront came rest octets → StandsAt place held rest → AreMany n []
    → (more : List (List ℕ)) × Stands (view_at held place) (came ++ more) octets × AreMany n more
same_packets came octets rest held place n front at many =
    ([], record { rest = rest; front = subst (λ (t : List (List ℕ)). AreFront t rest octets) (sym (append-nil came)) front; place = at }, many)

behind_stands : (place : Place) (came : List (List ℕ)) (octets rest : List ℕ) (n : NewPackets) → AreFront came rest octets → IsBehind rest place n
    → (more : List (List ℕ)) × Stands (view_at [] place) (came ++ more) octets × AreMany n more
behind_stands Head came octets rest n front is =
    (rest ∷ [], record { rest = []; front = front_more came rest octets is.0 front; place = (refl, omega arith) }, is.1)
behind_stands (Body call missing) came octets rest n front is = same_packets came octets rest [] (Body call missing) n front is.0 is.1
behind_stands Stopped came octets rest n front is = same_packets came octets rest [] Stopped n front is.0 is.1

-- ---- an octet of a header

stands_in : (place : Place) (x : PacketsView) (rest : List ℕ) → x.place ≡ place → StandsAt x.place x.held rest → StandsAt place x.held rest
stands_in place x rest e at = subst (λ (q : Place). StandsAt q x.held rest) e at

pub octet_in : (x y : PacketsView) (octet : ℕ) (n : NewPackets) → x.place ≡ Head → y.place ≡ Head → y.held ≡ x.held ++ octet ∷ [] → length y.held < header_size → n.packets ≡ 0 → n.calls ≡ 0
    → Comes x (octet ∷ []) n y
octet_in x y octet n old new held short packets calls came octets s =
    let at = stands_in Head x s.rest old s.place in
    let rest : s.rest ++ octet ∷ [] ≡ y.held = ap (λ (t : List ℕ). t ++ octet ∷ []) at.0 ∙ sym held in
    same_packets came (octets ++ octet ∷ []) (s.rest ++ octet ∷ []) y.held y.place n (front_append came s.rest (octet ∷ []) octets s.front)
    (subst (λ (q : Place). StandsAt q y.held (s.rest ++ octet ∷ [])) (sym new) (rest, omega (arith, short, ap length rest))) (record { packets = packets; calls = calls })

-- the places behind which nothing is held
behind_in : (held : List ℕ) (place : Place) (came : List (List ℕ)) (octets rest : List ℕ) (n : NewPackets) → held ≡ [] → AreFront came rest octets → IsBehind rest place n
    → (more : List (List ℕ)) × Stands (view_at held place) (came ++ more) octets × AreMany n more
behind_in held place came octets rest n none front is =
    subst (λ (t : List ℕ). (more : List (List ℕ)) × Stands (view_at t place) (came ++ more) octets × AreMany n more) (sym none) (behind_stands place came octets rest n front is)

pub header_in : (x y : PacketsView) (header : List ℕ) (octet : ℕ) (n : NewPackets) → x.place ≡ Head → y.held ≡ [] → header ≡ x.held ++ octet ∷ [] → IsBehind header y.place n
    → Comes x (octet ∷ []) n y
header_in x y header octet n old none is behind came octets s =
    let at = stands_in Head x s.rest old s.place in
    let rest : s.rest ++ octet ∷ [] ≡ header = ap (λ (t : List ℕ). t ++ octet ∷ []) at.0 ∙ sym is in
    behind_in y.held y.place came (octets ++ octet ∷ []) (s.rest ++ octet ∷ []) n none (front_append came s.rest (octet ∷ []) octets s.front) (subst (λ (t : List ℕ). IsBehind t y.place n) (sym rest) behind)

-- ---- octets behind a header

pub body_in : (x y : PacketsView) (piece : List ℕ) (call : Bool) (missing size : ℕ) (n : NewPackets) → x.place ≡ Body call missing → y.held ≡ x.held → length piece ≡ size → size ≤ missing
    → Enters call (missing - size) y.place n → Comes x piece n y
body_in x y piece call missing size n old held len few enters came octets s =
    let at = stands_in (Body call missing) x s.rest old s.place in
    let head : HasHead s.rest = at.1 in
    let long = head.long in
    let left : length (s.rest ++ piece) + (missing - size) ≡ frag_length (s.rest ++ piece) =
    omega (arith, length-append s.rest piece, len, few, at.3, size_more s.rest piece long) in
    let behind : IsBehind (s.rest ++ piece) y.place n = enters (s.rest ++ piece) (head_more s.rest piece head) left (at.4 ∙ sym (call_more s.rest piece long)) in
    behind_in y.held y.place came (octets ++ piece) (s.rest ++ piece) n (held ∙ at.0) (front_append came s.rest piece octets s.front) behind

-- ---- behind a fault

pub stopped_in : (x : PacketsView) (piece : List ℕ) (n : NewPackets) → x.place ≡ Stopped → n.packets ≡ 0 → n.calls ≡ 0 → Comes x piece n x
stopped_in x piece n old packets calls came octets s =
    let at = stands_in Stopped x s.rest old s.place in
    same_packets came (octets ++ piece) (s.rest ++ piece) x.held x.place n (front_append came s.rest piece octets s.front)
    (subst (λ (q : Place). StandsAt q x.held (s.rest ++ piece)) (sym old) (omega (arith, at.0, length-append s.rest piece), λ h. at.1 (head_less s.rest piece at.0 h)))
    (record { packets = packets; calls = calls })

-- ---- a packet is whole, or not yet

pub whole_now : (call : Bool) (missing : ℕ) (n : NewPackets) → missing ≡ 0 → n.packets ≡ 1 → n.calls ≡ (if call then 1 else 0) → Enters call missing Head n
whole_now call missing n none packets calls rest head size is =
    (record { head = head; whole = omega (arith, size, none) }, record { packets = packets; calls = calls ∙ ap (λ (b : Bool). if b then 1 else 0) is ∙ one (ends_call rest) rest })
  where
    one : (b : Bool) (packet : List ℕ) → (if b then 1 else 0) ≡ length (if b then packet ∷ [] else [])
    one true packet = refl
    one false packet = refl

pub not_yet : (call : Bool) (missing : ℕ) (n : NewPackets) → 0 < missing → n.packets ≡ 0 → n.calls ≡ 0 → Enters call missing (Body call missing) n
not_yet call missing n some packets calls rest head size is = ((refl, head, some, size, is), record { packets = packets; calls = calls })
