-- An answer has one list of lines.
use Rattle.std.proofs.Common.{◌≡◌, ℕ, List, [], ◌∷◌, ◌++◌, map, refl, sym, ap, subst, ◌∙◌, arith}
use Rattle.pdu_codec.specs.declared.pdu.Pdu.{Pdu}
use Rattle.pdu_codec.specs.Pdus.{IsPdu, AreSpelled}
use Rattle.pdu_codec.proofs.PduLaws.{pdu_long}
use Rattle.pdu_stream.proofs.CutLaws.{same_fronts, pdu_size}
use Rattle.pdu_codec.specs.Faults.{frag_length}
use Rattle.replay_world.specs.Worlds.{Printed}
use Rattle.replay_world.specs.Worlds.Printed.{Answered}
use Rattle.server_counts.specs.Pieces.{IsOnePdu}
use Rattle.replay_world.specs.Printing.{ArePrinted}

-- no PDU has no octets
pdu_not_empty : (p : Pdu) → IsPdu p [] → ⊥
pdu_not_empty p is = absurd (omega (arith, pdu_long p [] is))

piece_not_empty : (piece first others : List ℕ) → IsOnePdu piece first → [] ≡ first ++ others → ⊥
piece_not_empty piece [] others is e = pdu_not_empty is.1.0 (subst (λ (x : List ℕ). IsPdu is.1.0 x) (sym is.0) is.1.1)
piece_not_empty piece (o ∷ first) others is e = absurd (cc e)

-- one front is a PDU's
pub one_piece : (a b first first' x y : List ℕ) → IsOnePdu a first → IsOnePdu b first' → first ++ x ≡ first' ++ y → (a ≡ b) × (x ≡ y)
one_piece a b first first' x y is is' e =
    let whole : IsPdu is.1.0 first = subst (λ (t : List ℕ). IsPdu is.1.0 t) (sym is.0) is.1.1 in
    let whole' : IsPdu is'.1.0 first' = subst (λ (t : List ℕ). IsPdu is'.1.0 t) (sym is'.0) is'.1.1 in
    let one = same_fronts first first' x y e (sym (pdu_size is.1.0 first x whole) ∙ ap frag_length e ∙ pdu_size is'.1.0 first' y whole') in
    (sym is.0 ∙ one.0 ∙ is'.0, one.1)

pub one_cutting : (us vs : List (List ℕ)) (octets : List ℕ) → AreSpelled IsOnePdu us octets → AreSpelled IsOnePdu vs octets → us ≡ vs
one_cutting [] [] octets h l = refl
one_cutting [] (b ∷ vs) octets h l = absurd (piece_not_empty b l.0 l.1 l.3 (sym h ∙ l.2))
one_cutting (a ∷ us) [] octets h l = absurd (piece_not_empty a h.0 h.1 h.3 (sym l ∙ h.2))
one_cutting (a ∷ us) (b ∷ vs) octets h l =
    let one = one_piece a b h.0 l.0 h.1 l.1 h.3 l.3 (sym h.2 ∙ l.2) in
    let more : us ≡ vs = one_cutting us vs l.1 (subst (λ (rest : List ℕ). AreSpelled IsOnePdu us rest) one.1 h.4) l.4 in
    λ i. one.0 i ∷ more i

pub one_printing : (c : ℕ) (octets : List ℕ) (a b : List Printed) → ArePrinted c octets a → ArePrinted c octets b → a ≡ b
one_printing c octets a b h l = h.lines_are ∙ ap (map (Answered c)) (one_cutting h.pieces l.pieces octets h.cut l.cut) ∙ sym l.lines_are
