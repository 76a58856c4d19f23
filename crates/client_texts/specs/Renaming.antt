-- Texts that are renamed piece by piece. Only private clauses speak of this.
use Rattle.std.specs.Prelude.{◌≡◌, ℕ, Bool, true, false, List, [], ◌∷◌, ◌++◌, ◌^◌, Some, slice_get, codes, decimal}
use Rattle.rpc_base.specs.declared.identifiers.WireHandle.{WireHandle}
use Rattle.ndr_value.specs.Forms.{Form}
use Rattle.ndr_value.specs.Values.{Val}
use Rattle.value_text.specs.Stands.{Stands}
use Rattle.value_text.specs.Marks.{heads_digit}
use Rattle.client_texts.specs.Handles.{is_null, place, name, has_name}
use Rattle.client_texts.specs.Texts.{Named, NamedFrom}

-- the text was added with the names of its handles
abbrev pub IsRenamed : List WireHandle → List WireHandle → List ℕ → List ℕ → List ℕ → Type 0
IsRenamed known wires text before now = (named : List ℕ) × Named known wires text named × (now ≡ before ++ named)

-- whether it was; it wasn't where it has no text with names
abbrev pub Renames : Bool → List WireHandle → List WireHandle → List ℕ → List ℕ → List ℕ → Type 0
Renames true known wires text before now = IsRenamed known wires text before now
Renames false known wires text before now = (named : List ℕ) → Named known wires text named → ⊥

-- ---- handles in a text

-- the handle isn't null and came, at the place of these digits
abbrev pub CameAt : List WireHandle → List ℕ → WireHandle → Type 0
CameAt known digits w = (is_null w ≡ false) × (has_name known w ≡ true) × (decimal (place known w) ≡ digits)

abbrev pub NoneCameAt : List WireHandle → List ℕ → Type 0
NoneCameAt known digits = (w : WireHandle) → is_null w ≡ false → has_name known w ≡ true → decimal (place known w) ≡ digits → ⊥

-- the text begins with the name of the handle, which has one, and goes on with the rest
abbrev pub HeadsName : List WireHandle → List ℕ → WireHandle → List ℕ → Type 0
HeadsName known text w rest = (text ≡ name known w ++ rest) × (heads_digit rest ≡ false) × (has_name known w ≡ true)

abbrev pub HeadsNoName : List WireHandle → List ℕ → Type 0
HeadsNoName known text = (w : WireHandle) (rest : List ℕ) → text ≡ name known w ++ rest → heads_digit rest ≡ false → has_name known w ≡ true → ⊥

-- the text with names has this one with places, and its handles are these, and no other
abbrev pub IsOnlyNamed : List WireHandle → List WireHandle → List ℕ → List ℕ → Type 0
IsOnlyNamed known wires places text =
    NamedFrom known 0 wires places text × ((ws : List WireHandle) (ps : List ℕ) → NamedFrom known 0 ws ps text → (ws ≡ wires) × (ps ≡ places))

abbrev pub IsUnnamed : List WireHandle → List ℕ → Type 0
IsUnnamed known text = (wires : List WireHandle) (places : List ℕ) → NamedFrom known 0 wires places text → ⊥

-- the handle is among the wires, at the place of these digits
abbrev pub IsWireAt : List WireHandle → List ℕ → WireHandle → Type 0
IsWireAt wires digits w = (k : ℕ) × (decimal k ≡ digits) × (slice_get wires k ≡ Some w)

abbrev pub NoWireAt : List WireHandle → List ℕ → Type 0
NoWireAt wires digits = (k : ℕ) (w : WireHandle) → decimal k ≡ digits → slice_get wires k ≡ Some w → ⊥

-- ---- values of a list

-- there is none
abbrev pub is_none : {A : Type 0} → List A → Bool
is_none [] = true
is_none (x ∷ xs) = false

-- what stands in front of an item
abbrev pub item_mark : Bool → List ℕ
item_mark true = []
item_mark false = codes ", "

-- a value of the shape stands at the front of the text, after what stands in front of an item, and the rest follows it
abbrev pub ItemStands : List Form → Form → Bool → List ℕ → Val → List ℕ → Type 0
ItemStands types s first text v rest = (item : List ℕ) × (text ≡ item_mark first ++ item) × Stands types (2 ^ 32) 0 s item v rest
