-- Which shapes end in a conformant array or text, themselves or by their last members: its max_count stands in front of the outermost
-- structure (C706, "Transfer Syntax NDR").
use Rattle.std.specs.Prelude.{Bool, true, false, List, [], ◌∷◌, ◌++◌, ℕ, is_none, unwrap_or, slice_get, if◌then◌else◌}
use Rattle.ndr_value.specs.declared.shape.ArrayKind.{ArrayKind}
use Rattle.ndr_value.specs.declared.shape.ArrayKind.TheVariants.{Fixed, Varying, Conformant, ConformantVarying}
use Rattle.ndr_value.specs.Forms.{Form, OfNamed, OfStruct, OfArray, OfText, Forms, no_form, then_form}
use Rattle.ndr_table.specs.Aligned.{is_last}

abbrev pub is_conformant : ArrayKind → Bool
is_conformant (Fixed n) = false
is_conformant (Varying n c) = false
is_conformant (Conformant c) = true
is_conformant (ConformantVarying c d) = true

abbrev mutual
  -- by what holds of the types that it names
  pub ends_open : List Bool → Form → Bool
  ends_open tails (OfNamed number switch) = unwrap_or (slice_get tails number) false
  ends_open tails (OfStruct ss) = last_open tails ss
  ends_open tails (OfArray kind s) = is_conformant kind
  ends_open tails (OfText most) = is_none most
  ends_open tails _ = false

  pub last_open : List Bool → Forms → Bool
  last_open tails no_form = false
  last_open tails (then_form s ss) = if is_last ss then ends_open tails s else last_open tails ss

-- whether types do, behind those before them
abbrev pub tails_past : List Bool → List Form → List Bool
tails_past tails [] = tails
tails_past tails (s ∷ ss) = tails_past (tails ++ ends_open tails s ∷ []) ss

-- whether each type does, by number
abbrev pub tails_of : List Form → List Bool
tails_of types = tails_past [] types
