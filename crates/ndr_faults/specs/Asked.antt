-- What the numbers of a message have to be: each count, tag and number with a range, in the order in which they were read, beside what it
-- has to equal or to lie in. Their indexes and numbers are those that were noted of the octets.
use Rattle.std.specs.Prelude.{◌≡◌, ℕ, suc, ◌<◌, ℤ, ◌≤ℤ◌, true, false, List, [], ◌∷◌, ◌++◌, slice_get, Option, Some, None}
use Rattle.ndr_value.specs.declared.shape.Count.{Count}
use Rattle.ndr_value.specs.declared.shape.ArrayKind.{ArrayKind}
use Rattle.ndr_value.specs.declared.shape.ArrayKind.TheVariants.{Fixed, Varying, Conformant, ConformantVarying}
use Rattle.ndr_value.specs.Forms.{Form, OfNamed, OfStruct, OfUnion, OfArray, OfRef, OfUnique, OfFull, Forms, no_form, then_form, ArmForms, holds}
use Rattle.ndr_value.specs.Fits.{arm_of}
use Rattle.ndr_value.specs.Values.{Val, VStruct, VEmpty, VUnion, VArray, VNull, VPtr, VFull, Vals, no_val, then_val}
use Rattle.ndr_table.specs.declared.operation.Bounds.{Bounds}
use Rattle.ndr_model.specs.declared.departure.Departure.{Departure}
use Rattle.ndr_model.specs.declared.departure.Departure.TheVariants.{Bound, Tag}
use Rattle.ndr_model.specs.declared.mark.Mark.{Mark}
use Rattle.ndr_model.specs.declared.mark.Mark.TheVariants.{Number, Referent, Ranged}
use Rattle.ndr_model.specs.Stub.{Entry}
use Rattle.ndr_model.specs.Named.{Call, nth, number, named}
use Rattle.ndr_model.specs.Agree.{Stood, is_plain, Fronts, stood_last}
use Rattle.ndr_model.specs.Compare.{place_of}

-- a number at an index: a count and a tag, with what they have to equal; a number, with its range
pub data Demand : Type 0 where
  a_count : ℕ → ℤ → Option ℤ → Demand
  a_tag : ℕ → ℤ → Option ℤ → Demand
  a_number : ℕ → Option ℤ → Bounds → Demand

abbrev pub LiesIn : Option ℤ → Bounds → Type 0
LiesIn None b = ⊥
LiesIn (Some z) b = (b.low ≤ℤ z) × (z ≤ℤ b.high)

abbrev pub IsMet : Demand → Type 0
IsMet (a_count i z want) = want ≡ Some z
IsMet (a_tag i z want) = want ≡ Some z
IsMet (a_number i z b) = LiesIn z b

-- what departs where it isn't met: a tag as a tag, a count and a number out of its range as a bound
abbrev pub departure_of : Demand → Departure
departure_of (a_count i z want) = Bound i
departure_of (a_tag i z want) = Tag i
departure_of (a_number i z b) = Bound i

-- each of those before that index is met
abbrev pub MetBefore : ℕ → List Demand → Type 0
MetBefore i [] = Unit {0}
MetBefore i (m ∷ ms) = (place_of (departure_of m) < i → IsMet m) × MetBefore i ms

-- of those that aren't met it is the first, in the order of the octets
pub record IsLeast (ds : List Demand) (d : Departure) : Type 0 where
  pub before : List Demand
  pub demand : Demand
  pub behind : List Demand
  pub among : ds ≡ before ++ demand ∷ behind
  pub is : departure_of demand ≡ d
  pub unmet : IsMet demand → ⊥
  pub first : MetBefore (place_of d) ds

-- a tag is what its switch names, where the union has one
abbrev pub tag_demands : Call → Vals → Option Count → ℕ → ℤ → List Demand
tag_demands call body None i tag = []
tag_demands call body (Some c) i tag = a_tag i tag (named call body c) ∷ []

pub data AsksMost (call : Call) (body : Vals) (c : Count) : Option Stood → List Mark → List Mark → List Demand → Type 0 where
  asks_most_in_front : {m : Stood} {ms : List Mark} → AsksMost call body c (Some m) ms ms (a_count m.0 m.1 (named call body c) ∷ [])
  asks_most_here : {i : ℕ} {z : ℤ} {ms : List Mark} → AsksMost call body c None (Number i z ∷ ms) ms (a_count i z (named call body c) ∷ [])

-- the counts of an array
pub data AsksCounts (call : Call) (body : Vals) (moved : Option Stood) : ArrayKind → List Mark → List Mark → List Demand → Type 0 where
  asks_fixed : {n : ℕ} {ms : List Mark} → AsksCounts call body moved (Fixed n) ms ms []
  asks_varying : {n i : ℕ} {c : Count} {z : ℤ} {ms : List Mark} → AsksCounts call body moved (Varying n c) (Number i z ∷ ms) ms (a_count i z (named call body c) ∷ [])
  asks_conformant : {c : Count} {ms ms' : List Mark} {ds : List Demand} → AsksMost call body c moved ms ms' ds → AsksCounts call body moved (Conformant c) ms ms' ds
  asks_both : {i : ℕ} {c d : Count} {z : ℤ} {ms ms' : List Mark} {ds : List Demand} → AsksMost call body c moved ms (Number i z ∷ ms') ds
      → AsksCounts call body moved (ConformantVarying c d) ms ms' (ds ++ a_count i z (named call body d) ∷ [])

mutual
  -- Asks room body link moved s v ms ms' ds: the value, in a body of those members, asks for ds of the marks before ms'. link names the tag
  -- where the value is a union; moved is a max_count that stood in front
  pub data Asks (types : List Form) (call : Call) : ℕ → Vals → Option Count → Option Stood → Form → Val → List Mark → List Mark → List Demand → Type 0 where
    asks_plain : {room : ℕ} {body : Vals} {link : Option Count} {moved : Option Stood} {s : Form} {v : Val} {ms : List Mark} → is_plain s ≡ true → Asks types call room body link moved s v ms ms []
    asks_name : {room c : ℕ} {body : Vals} {link switch : Option Count} {moved : Option Stood} {s : Form} {v : Val} {ms ms' : List Mark} {ds : List Demand} → slice_get types c ≡ Some s
        → Asks types call room body switch moved s v ms ms' ds → Asks types call room body link moved (OfNamed c switch) v ms ms' ds
    asks_members : {room : ℕ} {body : Vals} {link : Option Count} {moved own : Option Stood} {ss : Forms} {vs : Vals} {ms ms1 ms' : List Mark} {ds : List Demand} → Fronts types ss moved own ms ms1
        → AsksEach types call room vs own ss vs ms1 ms' ds → Asks types call room body link moved (OfStruct ss) (VStruct vs) ms ms' ds
    asks_empty_arm : {room i : ℕ} {body : Vals} {link : Option Count} {moved : Option Stood} {t : Form} {arms : ArmForms} {tag : ℤ} {ms : List Mark}
        → Asks types call room body link moved (OfUnion t arms) (VEmpty tag) (Number i tag ∷ ms) ms (tag_demands call body link i tag)
    asks_arm : {room i : ℕ} {body : Vals} {link : Option Count} {moved : Option Stood} {t s : Form} {arms : ArmForms} {tag : ℤ} {v : Val} {ms ms' : List Mark} {ds : List Demand}
        → arm_of (OfUnion t arms) tag ≡ Some (holds s) → Asks types call room no_val None None s v ms ms' ds
        → Asks types call room body link moved (OfUnion t arms) (VUnion tag v) (Number i tag ∷ ms) ms' (tag_demands call body link i tag ++ ds)
    asks_array : {room : ℕ} {body : Vals} {link : Option Count} {moved : Option Stood} {kind : ArrayKind} {s : Form} {vs : Vals} {ms ms1 ms' : List Mark} {ds es : List Demand}
        → AsksCounts call body moved kind ms ms1 ds → AsksAll types call room body s vs ms1 ms' es → Asks types call room body link moved (OfArray kind s) (VArray vs) ms ms' (ds ++ es)
    asks_ref : {room : ℕ} {body : Vals} {link : Option Count} {moved : Option Stood} {s : Form} {v : Val} {ms ms' : List Mark} {ds : List Demand} → Asks types call room body None None s v ms ms' ds
        → Asks types call (suc room) body link moved (OfRef s) v ms ms' ds
    asks_null : {room : ℕ} {body : Vals} {link : Option Count} {moved : Option Stood} {s : Form} {ms : List Mark} → Asks types call room body link moved (OfUnique s) VNull ms ms []
    asks_unique : {room : ℕ} {body : Vals} {link : Option Count} {moved : Option Stood} {s : Form} {v : Val} {ms ms' : List Mark} {ds : List Demand} → Asks types call room body None None s v ms ms' ds
        → Asks types call (suc room) body link moved (OfUnique s) (VPtr v) ms ms' ds
    asks_null_full : {room : ℕ} {body : Vals} {link : Option Count} {moved : Option Stood} {s : Form} {ms : List Mark} → Asks types call room body link moved (OfFull s) (VFull None) ms ms []
    -- an item of the heap asks where it was met first
    asks_new : {room n : ℕ} {body : Vals} {link : Option Count} {moved : Option Stood} {s : Form} {v : Val} {ms ms' : List Mark} {ds : List Demand} → nth call.said.heap n ≡ Some v
        → Asks types call room body None None s v ms ms' ds → Asks types call (suc room) body link moved (OfFull s) (VFull (Some n)) (Referent true ∷ ms) ms' ds
    asks_repeat : {room n : ℕ} {body : Vals} {link : Option Count} {moved : Option Stood} {s : Form} {ms : List Mark}
        → Asks types call room body link moved (OfFull s) (VFull (Some n)) (Referent false ∷ ms) ms []

  -- members, in their body
  pub data AsksEach (types : List Form) (call : Call) : ℕ → Vals → Option Stood → Forms → Vals → List Mark → List Mark → List Demand → Type 0 where
    no_member_asks : {room : ℕ} {body : Vals} {moved : Option Stood} {ms : List Mark} → AsksEach types call room body moved no_form no_val ms ms []
    member_asks : {room : ℕ} {body : Vals} {moved : Option Stood} {s : Form} {v : Val} {ss : Forms} {vs : Vals} {ms ms1 ms' : List Mark} {ds es : List Demand}
        → Asks types call room body None (stood_last ss moved) s v ms ms1 ds → AsksEach types call room body moved ss vs ms1 ms' es
        → AsksEach types call room body moved (then_form s ss) (then_val v vs) ms ms' (ds ++ es)

  -- elements of an array; plain ones ask for nothing
  pub data AsksAll (types : List Form) (call : Call) : ℕ → Vals → Form → Vals → List Mark → List Mark → List Demand → Type 0 where
    none_asks : {room : ℕ} {body : Vals} {s : Form} {vs : Vals} {ms : List Mark} → is_plain s ≡ true → AsksAll types call room body s vs ms ms []
    no_element_asks : {room : ℕ} {body : Vals} {s : Form} {ms : List Mark} → AsksAll types call room body s no_val ms ms []
    element_asks : {room : ℕ} {body : Vals} {s : Form} {v : Val} {vs : Vals} {ms ms1 ms' : List Mark} {ds es : List Demand} → is_plain s ≡ false → Asks types call room body None None s v ms ms1 ds
        → AsksAll types call room body s vs ms1 ms' es → AsksAll types call room body s (then_val v vs) ms ms' (ds ++ es)

pub data AsksRange : Option Bounds → Val → List Mark → List Mark → List Demand → Type 0 where
  asks_no_range : {v : Val} {ms : List Mark} → AsksRange None v ms ms []
  asks_range : {b : Bounds} {v : Val} {i : ℕ} {ms : List Mark} → AsksRange (Some b) v (Ranged i ∷ ms) ms (a_number i (number v) b ∷ [])

-- the parameters, and the result; no member stands beside a parameter
pub data AskTogether (types : List Form) (call : Call) : List Entry → Vals → List Mark → List Mark → List Demand → Type 0 where
  no_entry_asks : {ms : List Mark} → AskTogether types call [] no_val ms ms []
  entry_asks : {e : Entry} {es : List Entry} {v : Val} {vs : Vals} {ms ms1 ms2 ms' : List Mark} {ds rs more : List Demand} → Asks types call 256 no_val None None e.shape v ms ms1 ds
      → AsksRange e.range v ms1 ms2 rs → AskTogether types call es vs ms2 ms' more → AskTogether types call (e ∷ es) (then_val v vs) ms ms' (ds ++ (rs ++ more))
