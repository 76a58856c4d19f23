-- NDR as it is written: a value whose flat part stands between two places, and whose referents, each with its own, stand between
-- two others.
use Rattle.std.specs.Prelude.{◌≡◌, ℕ, suc, ◌+◌, ◌-◌, ◌^◌, ◌<◌, ◌≤◌, ℤ, pos, Bool, true, false, not, ◌==◌, List, [], ◌∷◌, ◌++◌, length, take, drop, slice_get, Option, Some, None, if◌then◌else◌}
use Rattle.rpc_base.specs.declared.identifiers.Order.{Order}
use Rattle.rpc_base.specs.declared.identifiers.WireHandle.{WireHandle}
use Rattle.rpc_base.specs.Fields.{wire_of}
use Rattle.ndr_value.specs.declared.shape.Count.{Count}
use Rattle.ndr_value.specs.declared.shape.ArrayKind.{ArrayKind}
use Rattle.ndr_value.specs.declared.shape.ArrayKind.TheVariants.{Varying, Conformant, ConformantVarying}
use Rattle.ndr_value.specs.Forms.{Form, OfBool, OfByte, OfChar, OfInt, OfUint, OfEnum, OfNamed, OfStruct, OfUnion, OfArray, OfText, OfRef, OfUnique, OfFull, OfHandle, Forms, no_form, then_form, ArmForms, empty, holds}
use Rattle.ndr_value.specs.Fits.{arm_of}
use Rattle.ndr_value.specs.Values.{Val, VBool, VByte, VChar, VInt, VUint, VEnum, VStruct, VEmpty, VUnion, VArray, VText, VNull, VPtr, VFull, VHandle, Vals, no_val, then_val}
use Rattle.ndr_table.specs.Aligned.{is_last, align_of, alignments}
use Rattle.ndr_table.specs.Tails.{ends_open, tails_of}
use Rattle.ndr_scalars.specs.Scalars.{up, octets_of, signed, Scalar}
use Rattle.ndr_arrays.specs.declared.counts.Counts.{Counts}
use Rattle.ndr_arrays.specs.Counted.{HasCounts}
use Rattle.ndr_arrays.specs.Texts.{IsText}
use Rattle.ndr_model.specs.declared.mark.Mark.{Mark}
use Rattle.ndr_model.specs.declared.mark.Mark.TheVariants.{Number, Referent}
use Rattle.ndr_model.specs.Same.{IsSame}
use Rattle.ndr_model.specs.Places.{Place, past, Last, onto, noting, keeping, look}

-- attributes and an identifier, at a multiple of four
pub record IsWire (order : Order) (octets : List ℕ) (w : WireHandle) (i j : ℕ) : Type 0 where
  pub ends : j ≡ up i 4 + 20
  pub within : j ≤ length octets
  pub is : w ≡ wire_of order (take 20 (drop (up i 4) octets))

-- a union's tag
pub data IsTag (order : Order) (octets : List ℕ) : Form → ℤ → ℕ → ℕ → Type 0 where
  tag_bool : {n i j : ℕ} → Scalar order octets 1 n i j → IsTag order octets OfBool (pos (if n == 0 then 0 else 1)) i j
  tag_char : {n i j : ℕ} → Scalar order octets 1 n i j → IsTag order octets OfChar (pos n) i j
  tag_int : {size n i j : ℕ} → Scalar order octets size n i j → IsTag order octets (OfInt size) (signed size n) i j
  tag_uint : {size n i j : ℕ} → Scalar order octets size n i j → n < 2 ^ 63 → IsTag order octets (OfUint size) (pos n) i j
  tag_enum : {count n i j : ℕ} → Scalar order octets 2 n i j → n < count → IsTag order octets (OfEnum count) (pos n) i j

-- the size of the number that a tag is
abbrev pub tag_size : Form → ℕ
tag_size (OfInt size) = octets_of size
tag_size (OfUint size) = octets_of size
tag_size (OfEnum count) = 2
tag_size _ = 1

-- a structure that ends in a conformant array or text
abbrev pub opens_with : List Form → Forms → Bool
opens_with types ss = ends_open (tails_of types) (OfStruct ss)

-- where a structure or a union begins, from index i on: at its alignment
abbrev pub in_place : List Form → Form → ℕ → ℕ
in_place types s i = up i (align_of (alignments types) s)

-- the max_count that stands in front of a structure, unless one in front of a greater one is its own
pub data Opens (types : List Form) (order : Order) (octets : List ℕ) (ss : Forms) : Option ℕ → Option ℕ → ℕ → ℕ → Type 0 where
  in_a_greater : {most i : ℕ} → Opens types order octets ss (Some most) (Some most) i i
  in_front : {most i j : ℕ} → opens_with types ss ≡ true → Scalar order octets 4 most i j → Opens types order octets ss None (Some most) i j
  not_open : {i : ℕ} → opens_with types ss ≡ false → Opens types order octets ss None None i i

-- a structure begins at its alignment, behind a max_count that has moved in front of it; its gap lies within the octets
pub record Begins (types : List Form) (order : Order) (octets : List ℕ) (ss : Forms) (moved own : Option ℕ) (i j : ℕ) : Type 0 where
  pub k : ℕ
  pub opens : Opens types order octets ss moved own i k
  pub ends : j ≡ in_place types (OfStruct ss) k
  pub within : j ≤ length octets

-- the mark of a max_count that stands in front of a structure, after index i
abbrev pub opened_marks : Option ℕ → Option ℕ → ℕ → List Mark
opened_marks None (Some most) i = Number (up i 4) (pos most) ∷ []
opened_marks _ _ i = []

-- the marks of an array's counts, which stand from index i to j
abbrev pub count_marks : ArrayKind → Option ℕ → Counts → ℕ → ℕ → List Mark
count_marks (Conformant c) None counts i j = Number (up i 4) (pos counts.most) ∷ []
count_marks (Varying n c) moved counts i j = Number (j - 4) (pos counts.actual) ∷ []
count_marks (ConformantVarying c d) None counts i j = Number (up i 4) (pos counts.most) ∷ Number (j - 4) (pos counts.actual) ∷ []
count_marks (ConformantVarying c d) (Some most) counts i j = Number (j - 4) (pos counts.actual) ∷ []
count_marks _ moved counts i j = []

-- the mark of the tag of a union, after index i
abbrev pub tag_marks : List Form → Form → Form → ℤ → ℕ → List Mark
tag_marks types t u tag i = Number (up (in_place types u i) (tag_size t)) tag ∷ []

-- the last member alone has the max_count that moved
abbrev pub for_last : Forms → Option ℕ → Option ℕ
for_last ss moved = if is_last ss then moved else None

mutual
  -- Part room moved s v p p' q q': room is how many levels are left below this part, moved a max_count that stood in front.
  -- The flat part stands from p to p', the referents with theirs from q to q'
  pub data Part (types : List Form) (order : Order) (octets : List ℕ) : ℕ → Option ℕ → Form → Val → Place → Place → Last → Last → Type 0 where
    a_bool : {room n j : ℕ} {moved : Option ℕ} {p : Place} {q : Last} → Scalar order octets 1 n p.at j
        → Part types order octets room moved OfBool (VBool (not (n == 0))) p (past p j) q q
    a_byte : {room n j : ℕ} {moved : Option ℕ} {p : Place} {q : Last} → Scalar order octets 1 n p.at j
        → Part types order octets room moved OfByte (VByte n) p (past p j) q q
    a_char : {room n j : ℕ} {moved : Option ℕ} {p : Place} {q : Last} → Scalar order octets 1 n p.at j
        → Part types order octets room moved OfChar (VChar n) p (past p j) q q
    an_int : {room size n j : ℕ} {moved : Option ℕ} {p : Place} {q : Last} → Scalar order octets size n p.at j
        → Part types order octets room moved (OfInt size) (VInt (signed size n)) p (past p j) q q
    a_uint : {room size n j : ℕ} {moved : Option ℕ} {p : Place} {q : Last} → Scalar order octets size n p.at j
        → Part types order octets room moved (OfUint size) (VUint n) p (past p j) q q
    an_enum : {room count n j : ℕ} {moved : Option ℕ} {p : Place} {q : Last} → Scalar order octets 2 n p.at j → n < count
        → Part types order octets room moved (OfEnum count) (VEnum n) p (past p j) q q
    -- a handle is numbered in the order in which they are met
    a_handle : {room kind j : ℕ} {moved : Option ℕ} {w : WireHandle} {p : Place} {q : Last} → IsWire order octets w p.at j
        → Part types order octets room moved (OfHandle kind) (VHandle (length p.wires)) p (record { at = j; met = p.met; wires = p.wires ++ w ∷ [] }) q q
    a_text : {room j : ℕ} {moved size : Option ℕ} {text : List ℕ} {p : Place} {q : Last} → IsText order octets size moved text p.at j
        → Part types order octets room moved (OfText size) (VText text) p (past p j) q q
    a_name : {room c : ℕ} {moved : Option ℕ} {switch : Option Count} {s : Form} {v : Val} {p p' : Place} {q q' : Last} → slice_get types c ≡ Some s
        → Part types order octets room moved s v p p' q q' → Part types order octets room moved (OfNamed c switch) v p p' q q'
    a_struct : {room i : ℕ} {moved own : Option ℕ} {ss : Forms} {vs : Vals} {p p' : Place} {q q' : Last} → Begins types order octets ss moved own p.at i
        → Parts types order octets room own ss vs (past p i) p' (noting (opened_marks moved own p.at) q) q'
        → Part types order octets room moved (OfStruct ss) (VStruct vs) p p' q q'
    -- a union begins at its alignment, with its tag; the arm that the tag selects may be empty
    an_empty_arm : {room j : ℕ} {moved : Option ℕ} {t : Form} {arms : ArmForms} {tag : ℤ} {p : Place} {q : Last}
        → IsTag order octets t tag (in_place types (OfUnion t arms) p.at) j → arm_of (OfUnion t arms) tag ≡ Some empty
        → Part types order octets room moved (OfUnion t arms) (VEmpty tag) p (past p j) q (noting (tag_marks types t (OfUnion t arms) tag p.at) q)
    an_arm : {room j : ℕ} {moved : Option ℕ} {t s : Form} {arms : ArmForms} {tag : ℤ} {v : Val} {p p' : Place} {q q' : Last}
        → IsTag order octets t tag (in_place types (OfUnion t arms) p.at) j → arm_of (OfUnion t arms) tag ≡ Some (holds s)
        → Part types order octets room None s v (past p j) p' (noting (tag_marks types t (OfUnion t arms) tag p.at) q) q'
        → Part types order octets room moved (OfUnion t arms) (VUnion tag v) p p' q q'
    an_array : {room i : ℕ} {moved : Option ℕ} {kind : ArrayKind} {counts : Counts} {s : Form} {vs : Vals} {p p' : Place} {q q' : Last}
        → HasCounts order octets moved kind counts p.at i
        → Items types order octets room counts.actual s vs (past p i) p' (noting (count_marks kind moved counts p.at i) q) q'
        → Part types order octets room moved (OfArray kind s) (VArray vs) p p' q q'
    -- the four octets of a reference may be anything
    a_ref : {room n j : ℕ} {moved : Option ℕ} {s : Form} {v : Val} {p h : Place} {q q' : Last} → Scalar order octets 4 n p.at j
        → Part types order octets room None s v q.here h (onto h q) q' → Part types order octets (suc room) moved (OfRef s) v p (past p j) q q'
    a_null : {room j : ℕ} {moved : Option ℕ} {s : Form} {p : Place} {q : Last} → Scalar order octets 4 0 p.at j
        → Part types order octets room moved (OfUnique s) VNull p (past p j) q q
    a_unique : {room id j : ℕ} {moved : Option ℕ} {s : Form} {v : Val} {p h : Place} {q q' : Last} → Scalar order octets 4 (suc id) p.at j
        → Part types order octets room None s v q.here h (onto h q) q'
        → Part types order octets (suc room) moved (OfUnique s) (VPtr v) p (past p j) q q'
    a_null_full : {room j : ℕ} {moved : Option ℕ} {s : Form} {p : Place} {q : Last} → Scalar order octets 4 0 p.at j
        → Part types order octets room moved (OfFull s) (VFull None) p (past p j) q q
    -- an id that wasn't met gets the next number, and its referent is that item of the heap
    a_new : {room id j : ℕ} {moved : Option ℕ} {s : Form} {v : Val} {p h : Place} {q q' : Last} → Scalar order octets 4 (suc id) p.at j → look p.met (suc id) ≡ None
        → Part types order octets room None s v q.here h (onto h (noting (Referent true ∷ []) q)) q'
        → Part types order octets (suc room) moved (OfFull s) (VFull (Some (length p.met))) p (record { at = j; met = p.met ++ (suc id, s) ∷ []; wires = p.wires })
        q (keeping (length p.met) v q')
    -- one that was met stands for the same referent, whose shape is the same; no octets follow
    a_repeat : {room id j n : ℕ} {moved : Option ℕ} {s t : Form} {p : Place} {q : Last} → Scalar order octets 4 (suc id) p.at j → look p.met (suc id) ≡ Some (n, t)
        → IsSame t s → Part types order octets room moved (OfFull s) (VFull (Some n)) p (past p j) q (noting (Referent false ∷ []) q)

  -- the members of a structure
  pub data Parts (types : List Form) (order : Order) (octets : List ℕ) : ℕ → Option ℕ → Forms → Vals → Place → Place → Last → Last → Type 0 where
    no_part : {room : ℕ} {moved : Option ℕ} {p : Place} {q : Last} → Parts types order octets room moved no_form no_val p p q q
    then_part : {room : ℕ} {moved : Option ℕ} {s : Form} {v : Val} {ss : Forms} {vs : Vals} {p h p' : Place} {q g q' : Last}
        → Part types order octets room (for_last ss moved) s v p h q g → Parts types order octets room moved ss vs h p' g q'
        → Parts types order octets room moved (then_form s ss) (then_val v vs) p p' q q'

  -- as many of one shape
  pub data Items (types : List Form) (order : Order) (octets : List ℕ) : ℕ → ℕ → Form → Vals → Place → Place → Last → Last → Type 0 where
    no_item : {room : ℕ} {s : Form} {p : Place} {q : Last} → Items types order octets room 0 s no_val p p q q
    then_item : {room n : ℕ} {s : Form} {v : Val} {vs : Vals} {p h p' : Place} {q g q' : Last} → Part types order octets room None s v p h q g
        → Items types order octets room n s vs h p' g q' → Items types order octets room (suc n) s (then_val v vs) p p' q q'

-- a value with its referents behind it
pub record Whole (types : List Form) (order : Order) (octets : List ℕ) (room : ℕ) (s : Form) (v : Val) (q q' : Last) : Type 0 where
  pub h : Place
  pub part : Part types order octets room None s v q.here h (onto h q) q'
