-- The heaps of requests: items that stand after a row of values, and to which full pointers (`@N`) lead.
use Rattle.std.specs.Prelude.{◌≡◌, ◌≢◌, ℕ, suc, ◌^◌, ◌==◌, List, [], ◌∷◌, ◌++◌, length, Option, Some, None, if◌then◌else◌, codes}
use Rattle.ndr_value.specs.Forms.{Form, Forms, no_form, then_form, Body}
use Rattle.ndr_value.specs.Values.{Val, VStruct, VUnion, VArray, VPtr, VFull, Vals, no_val, then_val}
use Rattle.ndr_value.specs.Fits.{arm_of}
use Rattle.ndr_value.specs.Judged.{plain, members, inner, is_held, held}
use Rattle.ndr_value.specs.Typed.{Typed}
use Rattle.value_text.specs.Texts.{list_text, AllSized}

-- full pointers that aren't null: of each the number of its item, and the shape that it points to
abbrev pub Aims : Type 0
Aims = List (ℕ × Form)

-- what a shape is where its names and references lead
abbrev pub named : List Form → Form → Form
named types s = plain types (length types) s

abbrev mutual
  -- those in a value of the shape, in the order in which they stand
  pub aims : List Form → Form → Val → Aims
  aims types s (VStruct vs) = each_aims types (members (named types s)) vs
  aims types s (VUnion tag v) = if is_held (arm_of (named types s) tag) then aims types (held (arm_of (named types s) tag)) v else []
  aims types s (VArray vs) = all_aims types (inner (named types s)) vs
  aims types s (VPtr v) = aims types (inner (named types s)) v
  aims types s (VFull (Some n)) = (n, inner (named types s)) ∷ []
  aims types s _ = []

  -- those in a value for each shape
  pub each_aims : List Form → Forms → Vals → Aims
  each_aims types no_form vs = []
  each_aims types (then_form s ss) no_val = []
  each_aims types (then_form s ss) (then_val v vs) = aims types s v ++ each_aims types ss vs

  -- those in values of one shape
  pub all_aims : List Form → Form → Vals → Aims
  all_aims types s no_val = []
  all_aims types s (then_val v vs) = aims types s v ++ all_aims types s vs

-- those in the value of a union's arm, where one is held
abbrev pub arm_aims : List Form → Option Body → Val → Aims
arm_aims types arm v = if is_held arm then aims types (held arm) v else []

-- the shape that the first of these points to that leads to item n
abbrev pub first_aim : Aims → ℕ → Option Form
first_aim [] n = None
first_aim (a ∷ more) n = if a.0 == n then Some a.1 else first_aim more n

-- The items of a heap from number n on. Each is of the shape that the first full pointer to it points to, of those that stand before it.
abbrev pub AreItems : List Form → Aims → ℕ → Vals → Type 0
AreItems types before n no_val = Unit {0}
AreItems types before n (then_val v vs) = (s : Form) × (first_aim before n ≡ Some s) × Typed types (2 ^ 32) 0 s v × AreItems types (before ++ aims types s v) (suc n) vs

-- what stands of a heap after the values, where it has items
unfoldable pub heap_text : Vals → List ℕ
heap_text no_val = []
heap_text (then_val v vs) = codes " heap [" ++ (list_text (then_val v vs) ++ codes "]")

-- the text of a heap, where these full pointers stand before it
pub record IsHeap (types : List Form) (before : Aims) (vs : Vals) (text : List ℕ) : Type 0 where
  pub items : AreItems types before 0 vs
  pub sized : AllSized vs
  pub whole : text ≡ heap_text vs

-- the text of the heap of such values, one for each of the shapes
abbrev pub IsHeapOf : List Form → Forms → Vals → Vals → List ℕ → Type 0
IsHeapOf types shapes values vs text = IsHeap types (each_aims types shapes values) vs text

-- The same after the opening bracket, of a heap that has items. Only private clauses speak of this
pub record AreListed (types : List Form) (before : Aims) (vs : Vals) (text : List ℕ) : Type 0 where
  pub items : AreItems types before 0 vs
  pub sized : AllSized vs
  pub some : vs ≢ no_val
  pub whole : text ≡ list_text vs ++ codes "]"
