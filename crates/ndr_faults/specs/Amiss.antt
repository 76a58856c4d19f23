-- Where a stub departs before all its values stand: how the part that departs is come to, from the parameters on, through names,
-- structures, arms, arrays and referents. What stands before it on the way is by the relations of values and of flat parts.
use Rattle.std.specs.Prelude.{◌≡◌, ℕ, suc, ◌+◌, ◌<◌, true, List, [], ◌∷◌, length, slice_get, Option, Some, None}
use Rattle.rpc_base.specs.declared.identifiers.Order.{Order}
use Rattle.ndr_value.specs.declared.shape.Count.{Count}
use Rattle.ndr_value.specs.declared.shape.ArrayKind.{ArrayKind}
use Rattle.ndr_value.specs.Forms.{Form, OfNamed, OfStruct, OfUnion, OfArray, OfRef, OfUnique, OfFull, Forms, then_form, ArmForms, holds}
use Rattle.ndr_value.specs.Fits.{arm_of}
use Rattle.ndr_value.specs.Values.{Val}
use Rattle.ndr_scalars.specs.Scalars.{Scalar}
use Rattle.ndr_arrays.specs.declared.counts.Counts.{Counts}
use Rattle.ndr_arrays.specs.Counted.{HasCounts}
use Rattle.ndr_model.specs.declared.departure.Departure.{Departure}
use Rattle.ndr_model.specs.declared.departure.Departure.TheVariants.{Trailing}
use Rattle.ndr_model.specs.declared.mark.Mark.TheVariants.{Referent}
use Rattle.ndr_model.specs.Places.{Place, past, Last, onto, noting, look}
use Rattle.ndr_model.specs.Part.{IsTag, Begins, for_last, in_place, Part, Whole, opened_marks, count_marks, tag_marks}
use Rattle.ndr_model.specs.Stub.{Entry, range_marks}
use Rattle.ndr_faults.specs.Flat.{Flat}
use Rattle.ndr_faults.specs.Causes.{Off}

module _ (types : List Form) (order : Order) (octets : List ℕ) where
  mutual
    -- Amiss room moved s p d: a flat part of shape s, which begins at p, departs so
    pub data Amiss : ℕ → Option ℕ → Form → Place → Departure → Type 0 where
      itself : {room : ℕ} {moved : Option ℕ} {s : Form} {p : Place} {d : Departure} → Off types order octets room moved s p d → Amiss room moved s p d
      of_name : {room c : ℕ} {moved : Option ℕ} {switch : Option Count} {s : Form} {p : Place} {d : Departure} → slice_get types c ≡ Some s → Amiss room moved s p d → Amiss room moved (OfNamed c switch) p d
      of_structure : {room i : ℕ} {moved own : Option ℕ} {ss : Forms} {p : Place} {d : Departure} → Begins types order octets ss moved own p.at i → AmongMembers room own ss (past p i) d
          → Amiss room moved (OfStruct ss) p d
      of_arm : {room j : ℕ} {moved : Option ℕ} {t s : Form} {arms : ArmForms} {tag : _} {p : Place} {d : Departure} → IsTag order octets t tag (in_place types (OfUnion t arms) p.at) j
          → arm_of (OfUnion t arms) tag ≡ Some (holds s) → Amiss room None s (past p j) d → Amiss room moved (OfUnion t arms) p d
      of_array : {room i : ℕ} {moved : Option ℕ} {kind : ArrayKind} {counts : Counts} {s : Form} {p : Place} {d : Departure} → HasCounts order octets moved kind counts p.at i
          → AmongElements room counts.actual s (past p i) d → Amiss room moved (OfArray kind s) p d

    pub data AmongMembers : ℕ → Option ℕ → Forms → Place → Departure → Type 0 where
      this_member : {room : ℕ} {own : Option ℕ} {s : Form} {ss : Forms} {p : Place} {d : Departure} → Amiss room (for_last ss own) s p d → AmongMembers room own (then_form s ss) p d
      later_member : {room : ℕ} {own : Option ℕ} {s : Form} {ss : Forms} {p h : Place} {d : Departure} → Flat types order octets room (for_last ss own) s p h → AmongMembers room own ss h d
          → AmongMembers room own (then_form s ss) p d

    pub data AmongElements : ℕ → ℕ → Form → Place → Departure → Type 0 where
      this_element : {room n : ℕ} {s : Form} {p : Place} {d : Departure} → Amiss room None s p d → AmongElements room (suc n) s p d
      later_element : {room n : ℕ} {s : Form} {p h : Place} {d : Departure} → Flat types order octets room None s p h → AmongElements room n s h d → AmongElements room (suc n) s p d

  mutual
    -- WholeAmiss room s q d: a value of shape s with its referents, which begins at q, departs so: its flat part does, or that stands and
    -- a referent departs
    pub data WholeAmiss : ℕ → Form → Last → Departure → Type 0 where
      in_flat_part : {room : ℕ} {s : Form} {q : Last} {d : Departure} → Amiss room None s q.here d → WholeAmiss room s q d
      in_referents : {room : ℕ} {s : Form} {q : Last} {h : Place} {d : Departure} → Flat types order octets room None s q.here h → Behind room None s q.here (onto h q) d → WholeAmiss room s q d

    -- Behind room moved s p q d: the flat part of shape s stands from p on, and of its referents, which go on at q, one departs so. Values
    -- before its pointer stand with their referents
    pub data Behind : ℕ → Option ℕ → Form → Place → Last → Departure → Type 0 where
      behind_name : {room c : ℕ} {moved : Option ℕ} {switch : Option Count} {s : Form} {p : Place} {q : Last} {d : Departure} → slice_get types c ≡ Some s → Behind room moved s p q d
          → Behind room moved (OfNamed c switch) p q d
      behind_structure : {room i : ℕ} {moved own : Option ℕ} {ss : Forms} {p : Place} {q : Last} {d : Departure} → Begins types order octets ss moved own p.at i
          → BehindMembers room own ss (past p i) (noting (opened_marks moved own p.at) q) d → Behind room moved (OfStruct ss) p q d
      behind_arm : {room j : ℕ} {moved : Option ℕ} {t s : Form} {arms : ArmForms} {tag : _} {p : Place} {q : Last} {d : Departure} → IsTag order octets t tag (in_place types (OfUnion t arms) p.at) j
          → arm_of (OfUnion t arms) tag ≡ Some (holds s) → Behind room None s (past p j) (noting (tag_marks types t (OfUnion t arms) tag p.at) q) d → Behind room moved (OfUnion t arms) p q d
      behind_array : {room i : ℕ} {moved : Option ℕ} {kind : ArrayKind} {counts : Counts} {s : Form} {p : Place} {q : Last} {d : Departure} → HasCounts order octets moved kind counts p.at i
          → BehindElements room counts.actual s (past p i) (noting (count_marks kind moved counts p.at i) q) d → Behind room moved (OfArray kind s) p q d
      behind_ref : {room n j : ℕ} {moved : Option ℕ} {s : Form} {p : Place} {q : Last} {d : Departure} → Scalar order octets 4 n p.at j → WholeAmiss room s q d → Behind (suc room) moved (OfRef s) p q d
      behind_unique : {room id j : ℕ} {moved : Option ℕ} {s : Form} {p : Place} {q : Last} {d : Departure} → Scalar order octets 4 (suc id) p.at j → WholeAmiss room s q d
          → Behind (suc room) moved (OfUnique s) p q d
      behind_full : {room id j : ℕ} {moved : Option ℕ} {s : Form} {p : Place} {q : Last} {d : Departure} → Scalar order octets 4 (suc id) p.at j → look p.met (suc id) ≡ None
          → WholeAmiss room s (noting (Referent true ∷ []) q) d → Behind (suc room) moved (OfFull s) p q d

    pub data BehindMembers : ℕ → Option ℕ → Forms → Place → Last → Departure → Type 0 where
      behind_this_member : {room : ℕ} {own : Option ℕ} {s : Form} {ss : Forms} {p : Place} {q : Last} {d : Departure} → Behind room (for_last ss own) s p q d → BehindMembers room own (then_form s ss) p q d
      behind_later_member : {room : ℕ} {own : Option ℕ} {s : Form} {v : Val} {ss : Forms} {p h : Place} {q g : Last} {d : Departure} → Part types order octets room (for_last ss own) s v p h q g
          → BehindMembers room own ss h g d → BehindMembers room own (then_form s ss) p q d

    pub data BehindElements : ℕ → ℕ → Form → Place → Last → Departure → Type 0 where
      behind_this_element : {room n : ℕ} {s : Form} {p : Place} {q : Last} {d : Departure} → Behind room None s p q d → BehindElements room (suc n) s p q d
      behind_later_element : {room n : ℕ} {s : Form} {v : Val} {p h : Place} {q g : Last} {d : Departure} → Part types order octets room None s v p h q g → BehindElements room n s h g d
          → BehindElements room (suc n) s p q d

  -- the parameters in order, and the result: one departs so, or all stand and more than seven octets behind them. Below each are 256 levels
  pub data OneAmiss : List Entry → Last → Departure → Type 0 where
    this_entry : {e : Entry} {es : List Entry} {q : Last} {d : Departure} → WholeAmiss 256 e.shape q d → OneAmiss (e ∷ es) q d
    later_entry : {e : Entry} {es : List Entry} {v : Val} {q h : Last} {d : Departure} → Whole types order octets 256 e.shape v q h → OneAmiss es (noting (range_marks e q.here.at) h) d → OneAmiss (e ∷ es) q d
    more_behind : {q : Last} {n : ℕ} → q.here.at + n ≡ length octets → 7 < n → OneAmiss [] q (Trailing n)
