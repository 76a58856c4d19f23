-- A flat part alone: where the octets of a value up to its referents end, with the full pointers and handles that are met in them.
use Rattle.std.specs.Prelude.{◌≡◌, ℕ, suc, ◌<◌, List, [], ◌∷◌, ◌++◌, slice_get, Option, Some, None}
use Rattle.rpc_base.specs.declared.identifiers.Order.{Order}
use Rattle.rpc_base.specs.declared.identifiers.WireHandle.{WireHandle}
use Rattle.ndr_value.specs.declared.shape.Count.{Count}
use Rattle.ndr_value.specs.declared.shape.ArrayKind.{ArrayKind}
use Rattle.ndr_value.specs.Forms.{Form, OfBool, OfByte, OfChar, OfInt, OfUint, OfEnum, OfNamed, OfStruct, OfUnion, OfArray, OfText, OfRef, OfUnique, OfFull, OfHandle, Forms, no_form, then_form, ArmForms, empty, holds}
use Rattle.ndr_value.specs.Fits.{arm_of}
use Rattle.ndr_scalars.specs.Scalars.{Scalar}
use Rattle.ndr_arrays.specs.declared.counts.Counts.{Counts}
use Rattle.ndr_arrays.specs.Counted.{HasCounts}
use Rattle.ndr_arrays.specs.Texts.{IsText}
use Rattle.ndr_model.specs.Places.{Place, past, look}
use Rattle.ndr_model.specs.Same.{IsSame}
use Rattle.ndr_model.specs.Part.{IsWire, IsTag, Begins, for_last, in_place}

-- the size of a number of which any is a value
abbrev pub plain_size : Form → Option ℕ
plain_size OfBool = Some 1
plain_size OfByte = Some 1
plain_size OfChar = Some 1
plain_size (OfInt size) = Some size
plain_size (OfUint size) = Some size
plain_size _ = None

-- the place behind a handle, and behind a full pointer that brought its id
abbrev pub with_wire : Place → ℕ → WireHandle → Place
with_wire p j w = record { at = j; met = p.met; wires = p.wires ++ w ∷ [] }

abbrev pub with_id : Place → ℕ → ℕ → Form → Place
with_id p j id s = record { at = j; met = p.met ++ (id, s) ∷ []; wires = p.wires }

module _ (types : List Form) (order : Order) (octets : List ℕ) where
  mutual
    -- Flat room moved s p h: a flat part of shape s stands from p to h, with so many levels left below it and a max_count in front of it
    pub data Flat : ℕ → Option ℕ → Form → Place → Place → Type 0 where
      flat_number : {room size n j : ℕ} {moved : Option ℕ} {s : Form} {p : Place} → plain_size s ≡ Some size → Scalar order octets size n p.at j → Flat room moved s p (past p j)
      flat_enum : {room count n j : ℕ} {moved : Option ℕ} {p : Place} → Scalar order octets 2 n p.at j → n < count → Flat room moved (OfEnum count) p (past p j)
      flat_handle : {room kind j : ℕ} {moved : Option ℕ} {w : WireHandle} {p : Place} → IsWire order octets w p.at j → Flat room moved (OfHandle kind) p (with_wire p j w)
      flat_text : {room j : ℕ} {moved size : Option ℕ} {text : List ℕ} {p : Place} → IsText order octets size moved text p.at j → Flat room moved (OfText size) p (past p j)
      flat_type : {room c : ℕ} {moved : Option ℕ} {switch : Option Count} {s : Form} {p h : Place} → slice_get types c ≡ Some s → Flat room moved s p h → Flat room moved (OfNamed c switch) p h
      flat_structure : {room i : ℕ} {moved own : Option ℕ} {ss : Forms} {p h : Place} → Begins types order octets ss moved own p.at i → FlatMembers room own ss (past p i) h → Flat room moved (OfStruct ss) p h
      flat_empty_arm : {room j : ℕ} {moved : Option ℕ} {t : Form} {arms : ArmForms} {tag : _} {p : Place} → IsTag order octets t tag (in_place types (OfUnion t arms) p.at) j
          → arm_of (OfUnion t arms) tag ≡ Some empty → Flat room moved (OfUnion t arms) p (past p j)
      flat_arm : {room j : ℕ} {moved : Option ℕ} {t s : Form} {arms : ArmForms} {tag : _} {p h : Place} → IsTag order octets t tag (in_place types (OfUnion t arms) p.at) j
          → arm_of (OfUnion t arms) tag ≡ Some (holds s) → Flat room None s (past p j) h → Flat room moved (OfUnion t arms) p h
      flat_array : {room i : ℕ} {moved : Option ℕ} {kind : ArrayKind} {counts : Counts} {s : Form} {p h : Place} → HasCounts order octets moved kind counts p.at i
          → FlatElements room counts.actual s (past p i) h → Flat room moved (OfArray kind s) p h
      -- a pointer that isn't null needs a level, but where its referent stands already
      flat_ref : {room n j : ℕ} {moved : Option ℕ} {s : Form} {p : Place} → Scalar order octets 4 n p.at j → Flat (suc room) moved (OfRef s) p (past p j)
      flat_null : {room j : ℕ} {moved : Option ℕ} {s : Form} {p : Place} → Scalar order octets 4 0 p.at j → Flat room moved (OfUnique s) p (past p j)
      flat_unique : {room id j : ℕ} {moved : Option ℕ} {s : Form} {p : Place} → Scalar order octets 4 (suc id) p.at j → Flat (suc room) moved (OfUnique s) p (past p j)
      flat_null_full : {room j : ℕ} {moved : Option ℕ} {s : Form} {p : Place} → Scalar order octets 4 0 p.at j → Flat room moved (OfFull s) p (past p j)
      flat_new : {room id j : ℕ} {moved : Option ℕ} {s : Form} {p : Place} → Scalar order octets 4 (suc id) p.at j → look p.met (suc id) ≡ None → Flat (suc room) moved (OfFull s) p (with_id p j (suc id) s)
      flat_repeat : {room id j n : ℕ} {moved : Option ℕ} {s t : Form} {p : Place} → Scalar order octets 4 (suc id) p.at j → look p.met (suc id) ≡ Some (n, t) → IsSame t s → Flat room moved (OfFull s) p (past p j)

    pub data FlatMembers : ℕ → Option ℕ → Forms → Place → Place → Type 0 where
      no_flat_member : {room : ℕ} {own : Option ℕ} {p : Place} → FlatMembers room own no_form p p
      flat_member_then : {room : ℕ} {own : Option ℕ} {s : Form} {ss : Forms} {p h h' : Place} → Flat room (for_last ss own) s p h → FlatMembers room own ss h h' → FlatMembers room own (then_form s ss) p h'

    pub data FlatElements : ℕ → ℕ → Form → Place → Place → Type 0 where
      no_flat_element : {room : ℕ} {s : Form} {p : Place} → FlatElements room 0 s p p
      flat_element_then : {room n : ℕ} {s : Form} {p h h' : Place} → Flat room None s p h → FlatElements room n s h h' → FlatElements room (suc n) s p h'
