-- The front of octets that are PDUs has a cut.
use Rattle.std.proofs.Common.{◌≡◌, ℕ, ◌<◌, inl, inr, List, [], ◌∷◌, ◌++◌, length, take, drop, Some, None, refl, sym, ap, subst, ◌∙◌, append-nil, append_assoc, arith}
use Rattle.std.proofs.lemmas.Bool.{cases_lt}
use Rattle.std.proofs.lemmas.List.{length-append, length-take-le, take-append-drop}
use Rattle.pdu_codec.specs.Constants.{header_size}
use Rattle.pdu_codec.specs.Faults.{frag_length}
use Rattle.pdu_codec.specs.declared.pdu.Pdu.{Pdu}
use Rattle.pdu_codec.specs.Pdus.{IsPdu, AreSpelled}
use Rattle.pdu_stream.specs.declared.cut.Cut.{Cut}
use Rattle.pdu_stream.specs.Cuts.{IsPartial, IsStop, IsCut}
use Rattle.pdu_stream.proofs.Heads.{tested_more, size_along}
use Rattle.pdu_stream.proofs.CutLaws.{same_fronts, head_stops, pdu_size, not_remains, cut_goes_on, fault_stays}

abbrev pub Cutting : List ℕ → Type 0
Cutting octets = (cut : Cut) × IsCut octets cut

partial_cut : (octets : List ℕ) → IsPartial octets → Cutting octets
partial_cut octets part = (record { pdus = []; rest = octets; fault = None }, record { front = []; whole = refl; pdus = refl; remains = part })

-- octets at a PDU's front that aren't all of it
pub part_of : (p : Pdu) (first others came behind : List ℕ) → IsPdu p first → came ++ behind ≡ first ++ others → length came < length first → IsPartial came
part_of p first others came behind is whole less = elim (cases_lt (length came) header_size) [
  | inl short ↦ inl short
  | inr long ↦
      let says : frag_length came ≡ length first =
      sym (size_along (came ++ behind) came (tested_more came behind long)) ∙ (ap frag_length whole ∙ pdu_size p first others is) in
      inr (
        record {
          long = long;
          sound = λ fault wrong. not_remains p first others (Some fault) is (subst (λ (x : List ℕ). IsStop x fault) whole (fault_stays came behind fault (head_stops came fault (long, wrong))));
        },
        omega (arith, says, less),
      )
]

with_pdu : (p : Pdu) (first rest came : List ℕ) → IsPdu p first → came ≡ first ++ rest → Cutting rest → Cutting came
with_pdu p first rest came is e (cut, is_cut) =
    let one : AreSpelled IsPdu (p ∷ []) first = (first, [], sym (append-nil first), is, refl) in
    (record cut { pdus = p ∷ cut.pdus }, subst (λ (x : List ℕ). IsCut x (record cut { pdus = p ∷ cut.pdus })) (sym e) (cut_goes_on first rest (p ∷ []) cut one is_cut))

pub front_cut : (pdus : List Pdu) (came behind : List ℕ) → AreSpelled IsPdu pdus (came ++ behind) → Cutting came
front_cut [] came behind none = partial_cut came (inl (omega (arith, ap length none, length-append came behind)))
front_cut (p ∷ pdus) came behind (first, others, whole, is, more) = elim (cases_lt (length came) (length first)) [
  | inl less ↦ partial_cut came (part_of p first others came behind is whole less)
  | inr long ↦
      let n = length first in
      let front = take n came in
      let rest = drop n came in
      let both : came ≡ front ++ rest = sym (take-append-drop n came) in
      let same = same_fronts front first (rest ++ behind) others (sym (append_assoc front rest behind) ∙ (ap (λ (x : List ℕ). x ++ behind) (sym both) ∙ whole)) (length-take-le n came long) in
      with_pdu p first rest came is (both ∙ ap (λ (x : List ℕ). x ++ rest) same.0) (front_cut pdus rest behind (subst (λ (x : List ℕ). AreSpelled IsPdu pdus x) (sym same.1) more))
]
