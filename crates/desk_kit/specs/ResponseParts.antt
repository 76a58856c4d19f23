-- Which parts of messages suit their shapes: identifiers, and pointers to items of the heap.
use Rattle.std.specs.Prelude.{◌≡◌, ℕ, zero, suc, ◌+◌, List, length, slice_get, Some, None}
use Rattle.rpc_base.specs.declared.identifiers.SyntaxId.{SyntaxId}
use Rattle.ndr_value.specs.Forms.{Form, OfFull}
use Rattle.ndr_value.specs.Values.{Vals, no_val, then_val, count_of}
use Rattle.ndr_model.specs.Named.{Call, nth}
use Rattle.ndr_model.specs.Fits.{Seen, with_item, Suits, SuitAll}
use Rattle.desk_kit.specs.TableParts.{named, uuid_form, syntax_form}
use Rattle.desk_kit.specs.MessageParts.{uuid_value, syntax_value, pointers}
use Rattle.desk_kit.specs.Typed.{IsUuid, IsSyntax}

-- ---- identifiers, in a table whose type 0 is a UUID

abbrev pub UuidSuits : Type 0
UuidSuits = (types : List Form) (call : Call) (room : ℕ) (body : Vals) (id : List ℕ) (p q : Seen) → slice_get types 0 ≡ Some uuid_form → IsUuid id
    → Suits types call room body None (named 0) (uuid_value id) p p q q

abbrev pub SyntaxSuits : Type 0
SyntaxSuits = (types : List Form) (call : Call) (room : ℕ) (body : Vals) (n : ℕ) (s : SyntaxId) (p q : Seen) → slice_get types 0 ≡ Some uuid_form → slice_get types n ≡ Some syntax_form → IsSyntax s
    → Suits types call room body None (named n) (syntax_value s) p p q q

-- ---- pointers to the items of the heap from a number on

-- each value suits the shape, and nothing is seen in it
abbrev pub EachSuits : List Form → Call → ℕ → Vals → Form → Vals → Type 0
EachSuits types call room body s no_val = Unit {0}
EachSuits types call room body s (then_val v vs) = ((q : Seen) → Suits types call room body None s v q q q q) × EachSuits types call room body s vs

-- what was seen, and so many more items of a shape
abbrev pub with_items : Seen → Form → ℕ → Seen
with_items p s zero = p
with_items p s (suc n) = with_items (with_item p s) s n

abbrev pub PointersSuit : Type 0
PointersSuit = (types : List Form) (call : Call) (room : ℕ) (body : Vals) (s : Form) (items : Vals) (n : ℕ) (p q : Seen) → length p.shapes ≡ n
    → ((i : ℕ) → nth call.said.heap (n + i) ≡ nth items i) → EachSuits types call room body s items
    → SuitAll types call (suc room) body (OfFull s) (pointers n (count_of items)) p (with_items p s (count_of items)) q q
