-- Headers in front of longer octets.
use Rattle.std.proofs.Common.{◌≡◌, ◌≢◌, ℕ, ◌<◌, ◌≤◌, ◌⊎◌, inl, true, false, List, ◌++◌, length, slice_index, take, drop, Option, Some, None, sym, ap, subst, ◌∙◌, arith}
use Rattle.std.specs.Int.{w16}
use Rattle.std.proofs.lemmas.List.{get_or-take, take-append-le, drop-take, take-take}
use Rattle.rpc_base.specs.declared.identifiers.Order.{Order}
use Rattle.rpc_base.specs.Fields.{number_of, order_of}
use Rattle.pdu_codec.specs.Constants.{header_size, major_version, most_minor}
use Rattle.pdu_codec.specs.declared.fault.PduFault.{PduFault}
use Rattle.pdu_codec.specs.declared.fault.PduFault.TheVariants as faults
use Rattle.pdu_codec.specs.Faults.{is_known, length_order, frag_length, IsRightLength, IsWrongLength, PassesHead, IsHeadFault}

-- what a header's tests look at
pub record Tested : Type 0 where
  pub major : ℕ
  pub minor : ℕ
  pub kind : ℕ
  pub drep : ℕ
  pub size : List ℕ
  pub auth : List ℕ

abbrev pub tested : List ℕ → Tested
tested o = record {
  major = slice_index o 0;
  minor = slice_index o 1;
  kind = slice_index o 2;
  drep = slice_index o 4;
  size = take 2 (drop 8 o);
  auth = take 2 (drop 10 o);
}

part_8 : (o : List ℕ) → take 2 (drop 8 (take header_size o)) ≡ take 2 (drop 8 o)
part_8 o = ap (take 2) (drop-take 8 8 o) ∙ take-take 2 8 (drop 8 o) (omega arith)

part_10 : (o : List ℕ) → take 2 (drop 10 (take header_size o)) ≡ take 2 (drop 10 o)
part_10 o = ap (take 2) (drop-take 10 6 o) ∙ take-take 2 6 (drop 10 o) (omega arith)

pub tested_front : (o : List ℕ) → tested (take header_size o) ≡ tested o
tested_front o = λ i. record {
  major = get_or-take header_size o 0 0 (omega arith) i;
  minor = get_or-take header_size o 1 0 (omega arith) i;
  kind = get_or-take header_size o 2 0 (omega arith) i;
  drep = get_or-take header_size o 4 0 (omega arith) i;
  size = part_8 o i;
  auth = part_10 o i;
}

-- octets after those of a header change nothing in it
pub tested_more : (o more : List ℕ) → header_size ≤ length o → tested (o ++ more) ≡ tested o
tested_more o more long = sym (tested_front (o ++ more)) ∙ ap tested (take-append-le header_size o more long) ∙ tested_front o

-- ---- the tests, by what they look at

abbrev size_in : Tested → ℕ
size_in t = number_of (length_order t.drep) w16 t.size

abbrev auth_in : Tested → ℕ
auth_in t = number_of (length_order t.drep) w16 t.auth

abbrev Versioned : Tested → Type 0
Versioned t = (t.major ≡ major_version) × (t.minor ≤ most_minor)

abbrev Kinded : Tested → Type 0
Kinded t = Versioned t × (is_known t.kind ≡ true)

abbrev Sized : Option ℕ → Tested → Type 0
Sized size t = Kinded t × IsRightLength size (size_in t)

abbrev Unauth : Option ℕ → Tested → Type 0
Unauth size t = Sized size t × (auth_in t ≡ 0)

abbrev Passed : Option ℕ → Order → Tested → Type 0
Passed size order t = Unauth size t × (order_of t.drep ≡ Some order)

abbrev Faulty : Option ℕ → Tested → PduFault → Type 0
Faulty size t faults.Version = (t.major ≢ major_version) ⊎ (most_minor < t.minor)
Faulty size t faults.Kind = Versioned t × (is_known t.kind ≡ false)
Faulty size t faults.Length = Kinded t × IsWrongLength size (size_in t)
Faulty size t faults.Auth = Sized size t × (auth_in t ≢ 0)
Faulty size t faults.Characters = Unauth size t × (order_of t.drep ≡ None)
Faulty size t faults.Body = ⊥
Faulty size t faults.Memory = ⊥

faulty : (size : Option ℕ) (o : List ℕ) (f : PduFault) → IsHeadFault size o f → Faulty size (tested o) f
faulty size o faults.Version h = h
faulty size o faults.Kind h = h
faulty size o faults.Length h = h
faulty size o faults.Auth h = h
faulty size o faults.Characters h = h
faulty size o faults.Body h = h
faulty size o faults.Memory h = h

is_faulty : (size : Option ℕ) (o : List ℕ) (f : PduFault) → Faulty size (tested o) f → IsHeadFault size o f
is_faulty size o faults.Version h = h
is_faulty size o faults.Kind h = h
is_faulty size o faults.Length h = h
is_faulty size o faults.Auth h = h
is_faulty size o faults.Characters h = h
is_faulty size o faults.Body h = h
is_faulty size o faults.Memory h = h

pub fault_along : (size : Option ℕ) (a b : List ℕ) (f : PduFault) → tested a ≡ tested b → IsHeadFault size a f → IsHeadFault size b f
fault_along size a b f e h =
    is_faulty size b f (subst (λ (t : Tested). Faulty size t f) e (faulty size a f h))

pub passes_along : (size : Option ℕ) (order : Order) (a b : List ℕ) → tested a ≡ tested b → PassesHead size order a → PassesHead size order b
passes_along size order a b e h = subst (λ (t : Tested). Passed size order t) e h

pub size_along : (a b : List ℕ) → tested a ≡ tested b → frag_length a ≡ frag_length b
size_along a b e = ap size_in e

-- a fault of a header alone is one of a PDU that has as many octets as its header says
pub fault_of_whole : (n : ℕ) (o : List ℕ) (f : PduFault) → frag_length o ≡ n → IsHeadFault None o f → IsHeadFault (Some n) o f
fault_of_whole n o faults.Version e h = h
fault_of_whole n o faults.Kind e h = h
fault_of_whole n o faults.Length e h = (h.0, inl h.1)
fault_of_whole n o faults.Auth e h = ((h.0.0, (h.0.1, e)), h.1)
fault_of_whole n o faults.Characters e h = (((h.0.0.0, (h.0.0.1, e)), h.0.1), h.1)
fault_of_whole n o faults.Body e h = h
fault_of_whole n o faults.Memory e h = h

pub passes_whole : (n : ℕ) (order : Order) (o : List ℕ) → frag_length o ≡ n → PassesHead None order o → PassesHead (Some n) order o
passes_whole n order o e h = (((h.0.0.0, (h.0.0.1, e)), h.0.1), h.1)
