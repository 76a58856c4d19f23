-- What is written so far, as the definitions see it.
use Rattle.std.specs.Prelude.{◌≡◌, ℕ, Bool, false, List, [], ◌∷◌, ◌++◌, map, length, Option, Result, OnOk, if◌then◌else◌}
use Rattle.rpc_base.specs.declared.fault.NoMemory.{NoMemory}
use Rattle.rpc_base.specs.declared.identifiers.Order.{Order}
use Rattle.ndr_value.specs.declared.shape.Shape.{Shape}
use Rattle.ndr_value.specs.declared.shape.Arm.{Arm}
use Rattle.ndr_value.specs.Forms.{Form, Forms, form, OfStruct}
use Rattle.ndr_value.specs.Values.{Val, Vals, VByte, val, vals}
use Rattle.ndr_table.specs.Aligned.{align_of, alignments}
use Rattle.ndr_table.specs.Tables.{result_form}
use Rattle.ndr_model.specs.Named.{Call, nth}
use Rattle.ndr_model.specs.Part.{opens_with}
use Rattle.ndr_model.specs.Pieces.{Given, Behind, Piece, only, joined, number}
use Rattle.ndr_model.specs.Fronts.{front, front_last}
use Rattle.ndr_model.specs.Written.{Writing, deep, flat, flat_at, struct_piece, union_piece, opening}
use Rattle.ndr_agree.specs.Views.{types_in, call_of, union_form}
use Rattle.ndr_write.specs.declared.state.Writer.{Writer}
use Rattle.ndr_write.specs.declared.state.Pointed.{Pointed}
use Rattle.ndr_write.specs.declared.state.Pointed.TheVariants as pointed
use Rattle.ndr_write.specs.declared.state.Pending.{Pending}
use Rattle.ndr_write.specs.declared.state.Out.{Out}

abbrev pub pointed_of : Pointed → Val
pointed_of (pointed.Value v) = val v.now
pointed_of (pointed.Byte n) = VByte n

abbrev pub behind_of : Pending → Behind
behind_of p = record { body = vals p.body.now; shape = form p.shape.now; value = pointed_of p.what }

abbrev pub given_of : Out → Given
given_of o = record { count = o.count; items = o.items.items }

-- the octets so far, and what pointers point to that isn't written yet
abbrev pub piece_of : Out → List Pending → Piece
piece_of o b = record { octets = o.octets.items; given = given_of o; behind = map behind_of b }

-- a piece from the first octet on, and one behind it
abbrev pub followed : Piece → (ℕ → Given → Piece) → Piece
followed a f = joined a (f (length a.octets) a.given)

abbrev pub octets_only : (ℕ → List ℕ) → ℕ → Given → Piece
octets_only f i g = only (f i) g

-- the max_count, where it stands in front
abbrev pub front_octets : Order → Bool → ℕ → ℕ → List ℕ
front_octets order stands n i = if stands then number order 4 n i else []

-- ---- what is written in the call of a writer, in its order

-- a definition by types, order and call, for those of a writer
abbrev pub under : {A : Type 0} → Writer → (List Form → Order → Call → A) → A
under w f = f (types_in w.call) w.order (call_of w.call)

-- how values are written, so many constructs and names deep at most
abbrev pub flat_of : Writer → ℕ → Writing
flat_of w fuel = under w flat fuel

-- the max_count in front of a value of that shape in a body of those members
abbrev pub front_of : Writer → ℕ → Vals → Form → Val → ℕ
front_of w fuel = under w front fuel

-- the max_count in front of a structure, by its last member
abbrev pub last_front : Writer → ℕ → Vals → Forms → ℕ
last_front w fuel vs ss = under w front_last (front_of w fuel) vs ss vs

-- how a value is written whose parts are written so many levels deep at most
abbrev pub one_of : Writer → ℕ → Writing
one_of w fuel = under w flat_at (front_of w fuel) (flat_of w fuel)

abbrev pub struct_of : Writer → ℕ → Bool → Forms → Val → ℕ → Given → Piece
struct_of w fuel = under w struct_piece (front_of w fuel) (flat_of w fuel)

-- the gap in front of a structure, with its max_count where that stands there
abbrev pub opening_of : Writer → ℕ → Bool → Forms → Vals → ℕ → List ℕ
opening_of w fuel = under w opening (front_of w fuel)

abbrev pub union_of : Writer → ℕ → Shape → List Arm → Val → ℕ → Given → Piece
union_of w fuel kind arms = under w union_piece (flat_of w fuel) (union_form kind arms) (form kind)

-- the flat part of what isn't written yet
abbrev pub pending_flat : Writer → Behind → ℕ → Given → Piece
pending_flat w b = flat_of w deep b.body false b.shape b.value

-- the item of the heap of that number
abbrev pub item_in : Writer → ℕ → Option Val
item_in w n = nth (call_of w.call).said.heap n

abbrev pub result_in : Writer → Option Form
result_in w = result_form w.call.op.now.result

-- the alignment of a shape
abbrev pub IsAligned : Writer → ℕ → Form → Type 0
IsAligned w align s = align ≡ align_of (alignments (types_in w.call)) s

-- where opens says whether a structure ends in a conformant array or text, and align is its alignment
abbrev pub LaidOut : Writer → Bool → ℕ → Forms → Type 0 → Type 0
LaidOut w opens align ss P = opens ≡ opens_with (types_in w.call) ss → IsAligned w align (OfStruct ss) → P

-- ---- what is added, unless memory ran out

-- a piece was added to the octets, and to what pointers point to that isn't written yet
abbrev pub Adds : {A : Type 0} → Result A NoMemory → Out → List Pending → Out → List Pending → (ℕ → Given → Piece) → Type 0
Adds result old behind new behind' what = OnOk result (piece_of new behind' ≡ followed (piece_of old behind) what)

-- octets were added, which are by the index where they begin
abbrev pub Puts : {A : Type 0} → Result A NoMemory → List ℕ → List ℕ → (ℕ → List ℕ) → Type 0
Puts result old new octets = OnOk result (new ≡ old ++ octets (length old))
