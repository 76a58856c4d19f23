-- The tokens that the parts of a tree stand for.
use Rattle.std.specs.Prelude.{◌≡◌, ℕ, zero, suc, eqb, List, [], ◌∷◌, ◌++◌, None, Some, Option, Bool, cond}
use Rattle.std.specs.List.{flat_map}
use Rattle.idl_tokens.specs.declared.words.Word.{Word}
use Rattle.idl_tokens.specs.declared.words.Word.TheVariants as words
use Rattle.idl_tokens.specs.declared.marks.Mark.{Mark}
use Rattle.idl_tokens.specs.declared.marks.Mark.TheVariants as marks
use Rattle.idl_tokens.specs.declared.marks.Bracket.{Bracket}
use Rattle.idl_tokens.specs.declared.marks.Bracket.TheVariants as brackets
use Rattle.idl_tokens.specs.declared.kinds.Kind.{Kind}
use Rattle.idl_tokens.specs.declared.kinds.Kind.TheVariants as kinds
use Rattle.idl_tokens.specs.declared.kinds.Token.{Token}
use Rattle.idl_tokens.specs.Terminals.{range_text}
use Rattle.uuid.specs.declared.Uuid.{Uuid}
use Rattle.idl_tree.specs.declared.leaf.Ident.{Ident}
use Rattle.idl_tree.specs.declared.leaf.Num.{Num}
use Rattle.idl_tree.specs.declared.leaf.Pk.{Pk}
use Rattle.idl_tree.specs.declared.leaf.Pk.TheVariants as pks
use Rattle.idl_tree.specs.declared.leaf.Base.{Base}
use Rattle.idl_tree.specs.declared.leaf.Base.TheVariants as bases
use Rattle.idl_tree.specs.declared.leaf.SizeRef.{SizeRef}
use Rattle.idl_tree.specs.declared.leaf.SizeRef.TheVariants as refs
use Rattle.idl_tree.specs.declared.leaf.ArraySize.{ArraySize}
use Rattle.idl_tree.specs.declared.leaf.ArraySize.TheVariants as sizes
use Rattle.idl_tree.specs.declared.leaf.Dtor.{Dtor}

-- What a token has to be, but for an opening bracket's level.
pub data What : Type 0 where
  Of : Kind → What
  Opens : Bracket → What

-- a token of a tree, and the places that the tree gives it
pub record Piece : Type 0 where
  pub what : What
  pub places : List ℕ

abbrev pub Pieces : Type 0
Pieces = List Piece

abbrev pub Stands : Kind → What → Type 0
Stands k (Of j) = k ≡ j
Stands k (Opens b) = (level : ℕ) × (k ≡ kinds.Open b level)

abbrev pub AreAt : ℕ → List ℕ → Type 0
AreAt at [] = Unit {0}
AreAt at (p ∷ ps) = (p ≡ at) × AreAt at ps

-- The tokens ts are those of the pieces, each at its places, and then rest.
abbrev pub Front : List Token → Pieces → List Token → Type 0
Front ts [] rest = ts ≡ rest
Front [] (p ∷ ps) rest = ⊥
Front (t ∷ ts) (p ∷ ps) rest = Stands t.kind p.what × AreAt t.at p.places × Front ts ps rest

-- From ts come the pieces, and then rest.
pub record Written (pieces : Pieces) (ts rest : List Token) : Type 0 where
  pub front : Front ts pieces rest

-- the tokens begin at this octet
pub record BeginsAt (at : ℕ) (ts : List Token) : Type 0 where
  pub place : (t : Token) (rest : List Token) → ts ≡ t ∷ rest → at ≡ t.at

-- ---- single tokens

abbrev pub alone : Kind → Piece
alone k = record { what = Of k; places = [] }

unfoldable pub word_pieces : Word → Pieces
word_pieces w = alone (kinds.Word w) ∷ []

unfoldable pub mark_pieces : Mark → Pieces
mark_pieces m = alone (kinds.Mark m) ∷ []

unfoldable pub open_pieces : Bracket → Pieces
open_pieces b = record { what = Opens b; places = [] } ∷ []

unfoldable pub shut_pieces : Bracket → Pieces
shut_pieces b = alone (kinds.Shut b) ∷ []

unfoldable pub end_pieces : Pieces
end_pieces = alone kinds.End ∷ []

unfoldable pub text_pieces : List ℕ → Pieces
text_pieces text = alone (kinds.Text text) ∷ []

unfoldable pub uuid_pieces : Uuid → Pieces
uuid_pieces id = alone (kinds.Uuid id) ∷ []

-- the word `range`, which is a name elsewhere
unfoldable pub range_pieces : Pieces
range_pieces = alone (kinds.Name range_text) ∷ []

-- a number alone, at its octet
unfoldable pub number_pieces : ℕ → ℕ → Pieces
number_pieces at n = record { what = Of (kinds.Number (Some n)); places = at ∷ [] } ∷ []

unfoldable pub ident_pieces : Ident → Pieces
ident_pieces i = record { what = Of (kinds.Name i.text); places = i.at ∷ [] } ∷ []

-- the node's place is that of its first token
abbrev pub placed : ℕ → Pieces → Pieces
placed at [] = []
placed at (p ∷ ps) = record { what = p.what; places = at ∷ p.places } ∷ ps

-- a word, a mark or a name that may be left out
unfoldable pub if_word : Bool → Word → Pieces
if_word b w = cond b (word_pieces w) []

unfoldable pub if_mark : Bool → Mark → Pieces
if_mark b m = cond b (mark_pieces m) []

unfoldable pub if_ident : Option Ident → Pieces
if_ident None = []
if_ident (Some i) = ident_pieces i

abbrev pub within : Bracket → Pieces → Pieces
within b ps = open_pieces b ++ (ps ++ shut_pieces b)

-- the first, and each further one behind a comma
abbrev pub commas : {A : Type 0} → (A → Pieces) → List A → Pieces
commas f [] = []
commas f (x ∷ xs) = f x ++ flat_map (λ y. mark_pieces marks.Comma ++ f y) xs

-- ---- numbers and base types

-- the place is the minus's, where there is one
unfoldable pub num_pieces : Num → Pieces
num_pieces n = cond n.minus (placed n.at (mark_pieces marks.Minus) ++ alone (kinds.Number (Some n.value)) ∷ []) (number_pieces n.at n.value)

unfoldable pub pk_word : Pk → Word
pk_word pks.Ref = words.Ref
pk_word pks.Unique = words.Unique
pk_word pks.Ptr = words.Ptr

unfoldable pub pk_pieces : Pk → Pieces
pk_pieces p = word_pieces (pk_word p)

-- the word of an integer of so many octets; for any other number what no grammar takes
unfoldable pub int_size_pieces : ℕ → Pieces
int_size_pieces n =
    cond (eqb n 1) (word_pieces words.Small) (cond (eqb n 2) (word_pieces words.Short) (cond (eqb n 4) (word_pieces words.Long) (cond (eqb n 8) (word_pieces words.Hyper) (alone kinds.Bad ∷ []))))

unfoldable pub base_pieces : Base → Pieces
base_pieces bases.Boolean = word_pieces words.Boolean
base_pieces bases.Byte = word_pieces words.Byte
base_pieces (bases.Char u) = if_word u words.Unsigned ++ word_pieces words.Char
base_pieces (bases.Int u size w) = if_word u words.Unsigned ++ (int_size_pieces size ++ if_word w words.Int)

unfoldable pub bounds_pieces : Num → Num → Pieces
bounds_pieces low high = num_pieces low ++ (mark_pieces marks.Comma ++ num_pieces high)

-- ---- declarators and sizes

unfoldable pub size_pieces : ArraySize → Pieces
size_pieces sizes.Empty = []
size_pieces (sizes.Number n) = num_pieces n
size_pieces (sizes.Named i) = ident_pieces i
size_pieces sizes.Star = mark_pieces marks.Star

unfoldable pub array_pieces : Option ArraySize → Pieces
array_pieces None = []
array_pieces (Some s) = within brackets.Square (size_pieces s)

unfoldable pub star_pieces : ℕ → Pieces
star_pieces zero = []
star_pieces (suc n) = mark_pieces marks.Star ++ star_pieces n

unfoldable pub dtor_pieces : Dtor → Pieces
dtor_pieces d = star_pieces d.stars ++ (ident_pieces d.name ++ array_pieces d.array)

unfoldable pub ref_pieces : SizeRef → Pieces
ref_pieces (refs.Named star i) = if_mark star marks.Star ++ ident_pieces i
ref_pieces (refs.Number n) = num_pieces n
