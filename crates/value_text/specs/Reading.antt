-- How a value of a shape is read from the front of a text, with the first departure.
use Rattle.std.specs.Prelude.{ℕ, zero, suc, ◌+◌, ◌^◌, ℤ, Bool, true, false, not, ◌&&◌, nat_lt, List, length, slice_get, codes, Option, Some, None, Result, Ok, Err, if◌then◌else◌}
use Rattle.ndr_value.specs.declared.shape.ArrayKind.{ArrayKind}
use Rattle.ndr_value.specs.declared.shape.ArrayKind.TheVariants.{Fixed, Varying, Conformant, ConformantVarying}
use Rattle.ndr_value.specs.Forms.{Form, OfBool, OfByte, OfChar, OfInt, OfUint, OfEnum, OfNamed, OfStruct, OfUnion, OfArray, OfText, OfRef, OfUnique, OfFull, OfHandle, Forms, no_form, then_form, Body, empty, holds}
use Rattle.ndr_value.specs.Values.{Val, VBool, VByte, VChar, VInt, VUint, VEnum, VStruct, VEmpty, VUnion, VArray, VText, VNull, VPtr, VFull, VHandle, Vals, no_val, then_val}
use Rattle.ndr_value.specs.Fits.{limit, fits_count, arm_of}
use Rattle.value_text.specs.declared.departure.Departure.{Departure}
use Rattle.value_text.specs.declared.departure.Departure.TheVariants.{Syntax, Kind, Range, TooDeep}
use Rattle.value_text.specs.declared.numbers.Numeral.{Numeral}
use Rattle.value_text.specs.Bind.{◌>>=◌}
use Rattle.value_text.specs.Marks.{heads, wrong, mark, marks, opened, closed}
use Rattle.value_text.specs.Numbers.{number_at, unsigned_at, signed_at, index_at, is_signed, signed}
use Rattle.value_text.specs.Quoted.{text_at}

abbrev pub Found : Type 0
Found = Result (Val × List ℕ) Departure

abbrev pub Row : Type 0
Row = Result (Vals × List ℕ) Departure

abbrev pub bool_at : List ℕ → Found
bool_at t = if heads 116 t then (marks (codes "true") t >>= λ u. Ok (VBool true, u))
    else (if heads 102 t then (marks (codes "false") t >>= λ u. Ok (VBool false, u)) else Err (wrong t))

abbrev pub octet_at : List ℕ → Result (ℕ × List ℕ) Departure
octet_at t = unsigned_at (2 ^ 8) t

abbrev pub byte_at : List ℕ → Found
byte_at t = octet_at t >>= λ x. Ok (VByte x.0, x.1)

abbrev pub character_at : List ℕ → Found
character_at t = unsigned_at (2 ^ 8) t >>= λ x. Ok (VChar x.0, x.1)

abbrev pub integer_at : ℕ → List ℕ → Found
integer_at size t = signed_at size t >>= λ x. Ok (VInt x.0, x.1)

abbrev pub natural_number_at : ℕ → List ℕ → Found
natural_number_at size t = unsigned_at (limit size) t >>= λ x. Ok (VUint x.0, x.1)

abbrev pub name_at : ℕ → List ℕ → Found
name_at count t = unsigned_at count t >>= λ x. Ok (VEnum x.0, x.1)

abbrev pub words_at : Option ℕ → List ℕ → Found
words_at most t = text_at most t >>= λ x. Ok (VText x.0, x.1)

abbrev pub handle_at : List ℕ → Found
handle_at t = opened 36 t >>= λ u. index_at (2 ^ 8) u >>= λ x. Ok (VHandle x.0, x.1)

abbrev pub full_at : List ℕ → Found
full_at t = if heads 110 t then (marks (codes "null") t >>= λ u. Ok (VFull None, u))
    else (opened 64 t >>= λ u. index_at (2 ^ 32) u >>= λ x. Ok (VFull (Some x.0), x.1))

-- what a name stands for goes on; a name of nothing has no values
abbrev pub of_type : Option Form → List ℕ → (Form → Found) → Found
of_type None t go = Err (wrong t)
of_type (Some s) t go = go s

-- an array of that kind with so many elements may have one more
abbrev pub takes : ArrayKind → ℕ → Bool
takes (Fixed n) m = nat_lt m n
takes (Varying n _) m = nat_lt m n
takes (Conformant _) m = nat_lt (m + 1) (2 ^ 32)
takes (ConformantVarying _ _) m = nat_lt (m + 1) (2 ^ 32)

-- where a further element begins, if there may be one
abbrev pub next_at : Bool → List ℕ → Result (List ℕ) Departure
next_at may t = if heads 44 t && not may then Err (Kind (length t)) else marks (codes ", ") t

abbrev pub with_item : Val → Row → Row
with_item v row = row >>= λ y. Ok (then_val v y.0, y.1)

-- a member behind others
abbrev pub member_at : (List ℕ → Found) → List ℕ → Found
member_at go t = if heads 125 t then Err (Kind (length t)) else (marks (codes ", ") t >>= λ u. go u)

-- behind the last member
abbrev pub members_end : List ℕ → Result (List ℕ) Departure
members_end t = if heads 44 t then Err (Kind (length t)) else mark 125 t

-- members behind others
abbrev pub members_on : (Form → List ℕ → Found) → Forms → List ℕ → Row
members_on go no_form t = members_end t >>= λ u. Ok (no_val, u)
members_on go (then_form s ss) t = member_at (go s) t >>= λ x. with_item x.0 (members_on go ss x.1)

-- all members
abbrev pub members_at : (Form → List ℕ → Found) → Forms → List ℕ → Row
members_at go no_form t = opened 125 t >>= λ u. Ok (no_val, u)
members_at go (then_form s ss) t = if heads 125 t then Err (Kind (length t)) else (go s t >>= λ x. with_item x.0 (members_on go ss x.1))

-- an element behind others
abbrev pub item_at : (List ℕ → Found) → Bool → List ℕ → Found
item_at go may t = next_at may t >>= λ u. go u

-- elements behind m others, at most n of them
unfoldable pub items_on : ℕ → (List ℕ → Found) → ArrayKind → ℕ → List ℕ → Row
items_on zero go kind m t = Err (Syntax (length t))
items_on (suc n) go kind m t = if heads 93 t then (closed (fits_count kind m) t >>= λ u. Ok (no_val, u))
    else (item_at go (takes kind m) t >>= λ x. with_item x.0 (items_on n go kind (m + 1) x.1))

-- all elements
abbrev pub items_at : (List ℕ → Found) → ArrayKind → List ℕ → Row
items_at go kind t = if heads 93 t then (closed (fits_count kind 0) t >>= λ u. Ok (no_val, u))
    else (if takes kind 0 then (go t >>= λ x. with_item x.0 (items_on (length x.1 + 1) go kind 1 x.1)) else Err (wrong t))

-- the arm that a number selects, which has to be a tag
abbrev pub arm_by : Form → Numeral → Option Body
arm_by s n = if is_signed 8 n then arm_of s (signed n) else None

abbrev pub empty_at : ℤ → List ℕ → Found
empty_at tag t = if heads 58 t then Err (Kind (length t)) else (mark 41 t >>= λ u. Ok (VEmpty tag, u))

abbrev pub held_at : ℤ → (List ℕ → Found) → List ℕ → Found
held_at tag go t = if heads 41 t then Err (Kind (length t))
    else (marks (codes ": ") t >>= λ u. go u >>= λ x. mark 41 x.1 >>= λ r. Ok (VUnion tag x.0, r))

abbrev pub arm_at : Option Body → ℤ → ℕ → (Form → List ℕ → Found) → List ℕ → Found
arm_at None tag left go t = Err (Range left)
arm_at (Some empty) tag left go t = empty_at tag t
arm_at (Some (holds s)) tag left go t = held_at tag (go s) t

abbrev pub union_at : (Form → List ℕ → Found) → Form → List ℕ → Found
union_at go s t = opened 40 t >>= λ u. number_at u >>= λ x. arm_at (arm_by s x.0) (signed x.0) (length u) go x.1

-- a pointer under so many others
abbrev pub pointer_at : ℕ → (List ℕ → Found) → List ℕ → Found
pointer_at level go t = if heads 110 t then (marks (codes "null") t >>= λ u. Ok (VNull, u))
    else (opened 38 t >>= λ u. if nat_lt level 256 then (go u >>= λ x. Ok (VPtr x.0, x.1)) else Err (Kind (length t)))

abbrev pub in_struct : Row → Found
in_struct row = row >>= λ x. Ok (VStruct x.0, x.1)

abbrev pub in_array : Row → Found
in_array row = row >>= λ x. Ok (VArray x.0, x.1)

abbrev pub struct_at : (Form → List ℕ → Found) → Forms → List ℕ → Found
struct_at go ss t = opened 123 t >>= λ u. in_struct (members_at go ss u)

abbrev pub array_at : (List ℕ → Found) → ArrayKind → List ℕ → Found
array_at go kind t = opened 91 t >>= λ u. in_array (items_at go kind u)

module _ (types : List Form) where
  -- one step, where go does the parts
  abbrev pub read_at : (ℕ → Form → List ℕ → Found) → ℕ → Form → List ℕ → Found
  read_at go level OfBool t = bool_at t
  read_at go level OfByte t = byte_at t
  read_at go level OfChar t = character_at t
  read_at go level (OfInt size) t = integer_at size t
  read_at go level (OfUint size) t = natural_number_at size t
  read_at go level (OfEnum count) t = name_at count t
  read_at go level (OfNamed c switch) t = of_type (slice_get types c) t (λ s. go level s t)
  read_at go level (OfStruct ss) t = struct_at (go level) ss t
  read_at go level (OfUnion k arms) t = union_at (go level) (OfUnion k arms) t
  read_at go level (OfArray kind s) t = array_at (go level s) kind t
  read_at go level (OfText most) t = words_at most t
  read_at go level (OfRef s) t = go level s t
  read_at go level (OfUnique s) t = pointer_at level (go (level + 1) s) t
  read_at go level (OfFull s) t = full_at t
  read_at go level (OfHandle kind) t = handle_at t

  -- at most n constructs deep
  unfoldable pub read : ℕ → ℕ → Form → List ℕ → Found
  read zero level s t = Err TooDeep
  read (suc n) level s t = read_at (read n) level s t
