-- The canonical octets of a message (C706, "Transfer Syntax NDR"): gaps are zeros, true is 1, a text has one NUL, pointers that aren't
-- null are numbered in the order of the octets, and a full pointer's item stands where it is met first. What isn't of its shape leaves
-- out octets or is written as 0, so that another message is read from them.
use Rattle.std.specs.Prelude.{ℕ, zero, suc, ◌+◌, ◌^◌, ℤ, Bool, true, false, ◌&&◌, ◌||◌, not, ◌==◌, nat_lt, List, [], ◌∷◌, ◌++◌, length, slice_get, unwrap_or, Option, Some, None, if◌then◌else◌}
use Rattle.rpc_base.specs.declared.identifiers.Order.{Order}
use Rattle.rpc_base.specs.declared.identifiers.WireHandle.{WireHandle}
use Rattle.rpc_base.specs.Fields.{handle_octets}
use Rattle.ndr_value.specs.declared.shape.ArrayKind.{ArrayKind}
use Rattle.ndr_value.specs.Forms.{Form, OfBool, OfByte, OfChar, OfInt, OfUint, OfEnum, OfNamed, OfStruct, OfUnion, OfArray, OfText, OfRef, OfUnique, OfFull, OfHandle, Forms, then_form, Body, holds}
use Rattle.ndr_value.specs.Fits.{arm_of}
use Rattle.ndr_value.specs.Values.{Val, VBool, VByte, VChar, VInt, VUint, VEnum, VStruct, VEmpty, VUnion, VArray, VText, VNull, VPtr, VFull, VHandle, Vals, no_val, then_val, count_of, Msg}
use Rattle.ndr_table.specs.Aligned.{is_last, align_of, alignments}
use Rattle.ndr_table.specs.Tables.{OpForm}
use Rattle.ndr_arrays.specs.Written.{both, text_octets}
use Rattle.ndr_model.specs.declared.way.Way.{Way}
use Rattle.ndr_model.specs.Part.{opens_with}
use Rattle.ndr_model.specs.Stub.{Entry, entries}
use Rattle.ndr_model.specs.Named.{Call, nth}
use Rattle.ndr_model.specs.Pieces.{natural, gap, Given, Behind, Piece, only, then_piece, next_id, one_given, item_given, number, signed_number}
use Rattle.ndr_model.specs.Fronts.{array_counts, front_last, front}

-- how a part is written: in a body of those members, with its max_count in front of it or not, of that shape, at an index
abbrev pub Writing : Type 0
Writing = Vals → Bool → Form → Val → ℕ → Given → Piece

-- types, parameters and results nest by value 256 levels at most, so there are fewer constructs and names between two pointers
abbrev pub deep : ℕ
deep = 1024

module _ (types : List Form) (order : Order) (call : Call) where
  abbrev pub wire : Option WireHandle → ℕ → List ℕ
  wire None i = []
  wire (Some w) i = gap 4 i ++ handle_octets order w

  abbrev pub text : Option ℕ → List ℕ → Bool → ℕ → List ℕ
  text size octets moved i = if nat_lt (length octets + 1) (2 ^ 32) then text_octets order size octets (not moved) i else []

  -- a part without parts and pointers
  abbrev pub leaf : Bool → Form → Val → ℕ → List ℕ
  leaf moved OfBool (VBool b) i = number order 1 (if b then 1 else 0) i
  leaf moved OfByte (VByte n) i = number order 1 n i
  leaf moved OfChar (VChar n) i = number order 1 n i
  leaf moved (OfInt size) (VInt z) i = signed_number order size z i
  leaf moved (OfUint size) (VUint n) i = number order size n i
  leaf moved (OfEnum count) (VEnum n) i = number order 2 n i
  leaf moved (OfText size) (VText octets) i = text size octets moved i
  leaf moved (OfHandle kind) (VHandle slot) i = wire (slice_get call.said.wires slot) i
  leaf moved _ v i = []

  -- a pointer that isn't null, to what isn't written yet
  abbrev pub pointing : Vals → Form → Val → ℕ → Given → Piece
  pointing body s v i g = record { octets = number order 4 (next_id g) i; given = one_given g; behind = record { body = body; shape = s; value = v } ∷ [] }

  abbrev pub unique_piece : Vals → Form → Val → ℕ → Given → Piece
  unique_piece body s VNull i g = only (number order 4 0 i) g
  unique_piece body s (VPtr v) i g = pointing body s v i g
  unique_piece body s _ i g = only [] g

  abbrev pub item_behind : Vals → Form → Option Val → List Behind
  item_behind body s None = []
  item_behind body s (Some v) = record { body = body; shape = s; value = v } ∷ []

  -- a full pointer to the item of that number, which is new where it is the next one
  abbrev pub item_piece : Bool → Vals → Form → ℕ → ℕ → Given → Piece
  item_piece true body s n i g = record { octets = number order 4 (next_id g) i; given = item_given g; behind = item_behind body s (nth call.said.heap n) }
  item_piece false body s n i g = only (number order 4 (unwrap_or (slice_get g.items n) 0) i) g

  abbrev pub full_piece : Vals → Form → Val → ℕ → Given → Piece
  full_piece body s (VFull None) i g = only (number order 4 0 i) g
  full_piece body s (VFull (Some n)) i g = item_piece (n == length g.items) body s n i g
  full_piece body s _ i g = only [] g

  abbrev pub tag : Form → ℤ → ℕ → List ℕ
  tag (OfInt size) z i = signed_number order size z i
  tag (OfUint size) z i = number order size (natural z) i
  tag (OfEnum count) z i = number order 2 (natural z) i
  tag _ z i = number order 1 (natural z) i

  -- a union's tag, at the union's alignment; u is the union
  abbrev pub tag_piece : Form → Form → ℤ → ℕ → Given → Piece
  tag_piece u t z i g = only (both (gap (align_of (alignments types) u)) (tag t z) i) g

  abbrev pub arm_piece : Writing → Option Body → Val → ℕ → Given → Piece
  arm_piece go (Some (holds s)) v i g = go no_val false s v i g
  arm_piece go _ v i g = only [] g

  abbrev pub union_piece : Writing → Form → Form → Val → ℕ → Given → Piece
  union_piece go u t (VEmpty z) i g = tag_piece u t z i g
  union_piece go u t (VUnion z v) i g = then_piece (tag_piece u t z i g) i (arm_piece go (arm_of u z) v)
  union_piece go u t _ i g = only [] g

  -- members, the last of which may have its max_count in front
  abbrev pub members : Writing → Vals → Bool → Forms → Vals → ℕ → Given → Piece
  members go body moved (then_form s ss) (then_val v vs) i g = then_piece (go body (moved && is_last ss) s v i g) i (members go body moved ss vs)
  members go body moved _ _ i g = only [] g

  -- the max_count in front of a structure that ends in a conformant array or text, and the structure's gap
  abbrev pub opening : (Vals → Form → Val → ℕ) → Bool → Forms → Vals → ℕ → List ℕ
  opening size moved ss vs i = both (if not moved && opens_with types ss then number order 4 (front_last types order call size vs ss vs) else (λ i. [])) (gap (align_of (alignments types) (OfStruct ss))) i

  abbrev pub struct_piece : (Vals → Form → Val → ℕ) → Writing → Bool → Forms → Val → ℕ → Given → Piece
  struct_piece size go moved ss (VStruct vs) i g = then_piece (only (opening size moved ss vs i) g) i (members go vs (moved || opens_with types ss) ss vs)
  struct_piece size go moved ss _ i g = only [] g

  abbrev pub elements : Writing → Vals → Form → Vals → ℕ → Given → Piece
  elements go body s no_val i g = only [] g
  elements go body s (then_val v vs) i g = then_piece (go body false s v i g) i (elements go body s vs)

  abbrev pub array_piece : Writing → Vals → Bool → ArrayKind → Form → Val → ℕ → Given → Piece
  array_piece go body moved kind s (VArray vs) i g = then_piece (only (array_counts types order call body moved kind (count_of vs) i) g) i (elements go body s vs)
  array_piece go body moved kind s _ i g = only [] g

  abbrev pub type_piece : Writing → Vals → Bool → Option Form → Val → ℕ → Given → Piece
  type_piece go body moved None v i g = only [] g
  type_piece go body moved (Some s) v i g = go body moved s v i g

  -- one step, where go does the parts
  abbrev pub flat_at : (Vals → Form → Val → ℕ) → Writing → Writing
  flat_at size go body moved (OfNamed c switch) v i g = type_piece go body moved (slice_get types c) v i g
  flat_at size go body moved (OfStruct ss) v i g = struct_piece size go moved ss v i g
  flat_at size go body moved (OfUnion t arms) v i g = union_piece go (OfUnion t arms) t v i g
  flat_at size go body moved (OfArray kind s) v i g = array_piece go body moved kind s v i g
  flat_at size go body moved (OfRef s) v i g = pointing body s v i g
  flat_at size go body moved (OfUnique s) v i g = unique_piece body s v i g
  flat_at size go body moved (OfFull s) v i g = full_piece body s v i g
  flat_at size go body moved s v i g = only (leaf moved s v i) g

  -- at most n constructs deep
  unfoldable pub flat : ℕ → Writing
  flat zero body moved s v i g = only [] g
  flat (suc n) body moved s v i g = flat_at (front types order call n) (flat n) body moved s v i g

  -- ---- referents

  -- what pointers point to, in the order of the pointers
  abbrev pub each_behind : (Behind → ℕ → Given → Piece) → List Behind → ℕ → Given → Piece
  each_behind go [] i g = only [] g
  each_behind go (b ∷ bs) i g = then_piece (go b i g) i (each_behind go bs)

  -- a flat part, and what its pointers point to
  abbrev pub with_behind : (Behind → ℕ → Given → Piece) → Piece → ℕ → Piece
  with_behind go a i = then_piece (only a.octets a.given) i (each_behind go a.behind)

  -- a value with its referents, on at most so many levels of pointers
  unfoldable pub whole : ℕ → Behind → ℕ → Given → Piece
  whole zero b i g = only [] g
  whole (suc levels) b i g = with_behind (whole levels) (flat deep b.body false b.shape b.value i g) i

  -- the parameters, and the result: each stands on level 0 and has 256 below it; no member stands beside it
  abbrev pub each_entry : List Entry → Vals → ℕ → Given → Piece
  each_entry (e ∷ es) (then_val v vs) i g = then_piece (whole 257 (record { body = no_val; shape = e.shape; value = v }) i g) i (each_entry es vs)
  each_entry _ _ i g = only [] g

abbrev pub call_of : OpForm → Way → Option Msg → Msg → Call
call_of op way asked m = record { op = op; way = way; asked = asked; said = m }

-- the canonical octets
unfoldable pub stub : List Form → OpForm → Way → Order → Option Msg → Msg → List ℕ
stub types op way order asked m = (each_entry types order (call_of op way asked m) (entries way op) m.values 0 (record { count = 0; items = [] })).octets
