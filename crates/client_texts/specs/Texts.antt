-- The texts of the values of a call: value texts in which a handle stands by its name.
use Rattle.std.specs.Prelude.{◌≡◌, ◌≢◌, ℕ, suc, ◌^◌, List, [], ◌∷◌, ◌++◌, Bool, true, false, if◌then◌else◌, Some, slice_get, codes, decimal}
use Rattle.rpc_base.specs.declared.identifiers.WireHandle.{WireHandle}
use Rattle.base_words.specs.Reads.{HasNo}
use Rattle.ndr_value.specs.Forms.{Form, Forms, no_form, then_form}
use Rattle.ndr_value.specs.Values.{Msg, Vals}
use Rattle.ndr_value.specs.Typed.{EachTyped}
use Rattle.ndr_table.specs.Tables.{ParamForm}
use Rattle.value_text.specs.Marks.{heads_digit}
use Rattle.value_text.specs.Texts.{list_text, AllSized}
use Rattle.client_texts.specs.Handles.{name, has_name}
use Rattle.client_texts.specs.Heaps.{each_aims, IsHeap}

-- A text in which handles stand by their places among the wires (`$K`), and the same text in which they stand by their names
-- (`$null`, `$hN`), which are those of handles that are null or came. What stands in double quotes stays as it is.
pub data Named (known wires : List WireHandle) : List ℕ → List ℕ → Type 0 where
  the_end : Named known wires [] []
  handle : (k : ℕ) (w : WireHandle) (rest rest' : List ℕ) → slice_get wires k ≡ Some w → has_name known w ≡ true → heads_digit rest ≡ false → Named known wires rest rest'
      → Named known wires (36 ∷ decimal k ++ rest) (36 ∷ name known w ++ rest')
  quoted : (inside rest rest' : List ℕ) → HasNo 34 inside → Named known wires rest rest' → Named known wires (34 ∷ inside ++ 34 ∷ rest) (34 ∷ inside ++ 34 ∷ rest')
  other : (c : ℕ) (rest rest' : List ℕ) → c ≢ 36 → c ≢ 34 → Named known wires rest rest' → Named known wires (c ∷ rest) (c ∷ rest')

-- the values with a comma and a space between each two, in brackets
unfoldable pub row_text : Vals → List ℕ
row_text vs = codes "(" ++ (list_text vs ++ codes ")")

-- the text of these values, where handles have their names among those that came
pub record IsCallText (known wires : List WireHandle) (vs : Vals) (text : List ℕ) : Type 0 where
  pub places : List ℕ
  pub plain : places ≡ row_text vs
  pub named : Named known wires places text

-- the text of the message's values was added
abbrev pub IsWritten : List WireHandle → Msg → List ℕ → List ℕ → Type 0
IsWritten known m before now = (text : List ℕ) × IsCallText known m.wires m.values text × (now ≡ before ++ text)

-- whether it was; it wasn't where the message's values have no text
abbrev pub Writes : Bool → List WireHandle → Msg → List ℕ → List ℕ → Type 0
Writes true known m before now = IsWritten known m before now
Writes false known m before now = (text : List ℕ) → IsCallText known m.wires m.values text → ⊥

-- ---- requests

-- The same as Named, where handles have the places from k on, in the order in which they stand, and the wires are theirs.
pub data NamedFrom (known : List WireHandle) : ℕ → List WireHandle → List ℕ → List ℕ → Type 0 where
  the_end : (k : ℕ) → NamedFrom known k [] [] []
  handle : (k : ℕ) (w : WireHandle) (ws : List WireHandle) (rest rest' : List ℕ) → has_name known w ≡ true → heads_digit rest ≡ false → NamedFrom known (suc k) ws rest rest'
      → NamedFrom known k (w ∷ ws) (36 ∷ decimal k ++ rest) (36 ∷ name known w ++ rest')
  quoted : (k : ℕ) (ws : List WireHandle) (inside rest rest' : List ℕ) → HasNo 34 inside → NamedFrom known k ws rest rest'
      → NamedFrom known k ws (34 ∷ inside ++ 34 ∷ rest) (34 ∷ inside ++ 34 ∷ rest')
  other : (k : ℕ) (ws : List WireHandle) (c : ℕ) (rest rest' : List ℕ) → c ≢ 36 → c ≢ 34 → NamedFrom known k ws rest rest' → NamedFrom known k ws (c ∷ rest) (c ∷ rest')

-- the shapes of the parameters that go in, in order
abbrev pub inwards : List ParamForm → Forms
inwards [] = no_form
inwards (p ∷ ps) = if p.inward then then_form p.shape (inwards ps) else inwards ps

-- one value for each of the shapes, in order, has the text at the front of this one, which goes on with the rest
pub record IsRow (types : List Form) (shapes : Forms) (vs : Vals) (text rest : List ℕ) : Type 0 where
  pub typed : EachTyped types (2 ^ 32) 0 shapes vs
  pub sized : AllSized vs
  pub whole : text ≡ row_text vs ++ rest

-- The text of a request's message: one value for each of the shapes, and after them the items of its heap, where it has any. Each item
-- is of the shape that the first full pointer to it points to, of those in the values and in the items before it. Its handles have their
-- names among those that came.
pub record IsRequestText (types : List Form) (shapes : Forms) (known : List WireHandle) (m : Msg) (text : List ℕ) : Type 0 where
  pub places : List ℕ
  pub behind : List ℕ
  pub row : IsRow types shapes m.values places behind
  pub heap : IsHeap types (each_aims types shapes m.values) m.heap behind
  pub named : NamedFrom known 0 m.wires places text
