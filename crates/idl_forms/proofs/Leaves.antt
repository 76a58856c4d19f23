-- The parts that hold no others of their kind, off their tokens.
use Rattle.std.proofs.Common.{◌≡◌, ℕ, zero, suc, Bool, true, false, eqb, cond, List, [], ◌∷◌, ◌++◌, length, map, refl, ap, sym, None, Some, Option}
use Rattle.std.specs.Prelude.{if◌then◌else◌}
use Rattle.std.specs.List.{flat_map}
use Rattle.std.proofs.lemmas.Bool.{eqb-true}
use Rattle.idl_tokens.specs.declared.words.Word.{Word}
use Rattle.idl_tokens.specs.declared.words.Word.TheVariants as words
use Rattle.idl_tokens.specs.declared.marks.Mark.{Mark}
use Rattle.idl_tokens.specs.declared.marks.Mark.TheVariants as marks
use Rattle.idl_tokens.specs.declared.marks.Bracket.{Bracket}
use Rattle.idl_tokens.specs.declared.marks.Bracket.TheVariants as brackets
use Rattle.idl_tokens.specs.declared.kinds.Kind.TheVariants as kinds
use Rattle.idl_tokens.specs.Terminals.{of_word, of_mark, opening, number_class, text_class, bad_class, range_class, of_name}
use Rattle.uuid.specs.declared.Uuid.{Uuid}
use Rattle.idl_tree.specs.declared.leaf.Ident.{Ident}
use Rattle.idl_tree.specs.declared.leaf.Num.{Num}
use Rattle.idl_tree.specs.declared.leaf.Pk.{Pk}
use Rattle.idl_tree.specs.declared.leaf.Pk.TheVariants as pks
use Rattle.idl_tree.specs.declared.leaf.Base.{Base}
use Rattle.idl_tree.specs.declared.leaf.Base.TheVariants as bases
use Rattle.idl_tree.specs.declared.leaf.SizeRef.{SizeRef}
use Rattle.idl_tree.specs.declared.leaf.SizeRef.TheVariants as refs
use Rattle.idl_tree.specs.declared.leaf.ArraySize.{ArraySize}
use Rattle.idl_tree.specs.declared.leaf.ArraySize.TheVariants as sizes
use Rattle.idl_tree.specs.declared.leaf.Dtor.{Dtor}
use Rattle.idl_tree.specs.declared.spec.Label.{Label}
use Rattle.idl_tree.specs.declared.spec.LabelKind.{LabelKind}
use Rattle.idl_tree.specs.declared.spec.LabelKind.TheVariants as labels
use Rattle.idl_tree.specs.Pieces.{What, Of, Pieces, alone, placed, word_pieces, mark_pieces, open_pieces, text_pieces, uuid_pieces, number_pieces, ident_pieces, if_ident, num_pieces, pk_word, pk_pieces, int_size_pieces, base_pieces, if_word, if_mark, size_pieces, array_pieces, star_pieces, dtor_pieces, ref_pieces, range_pieces, bounds_pieces, within}
use Rattle.idl_tree.specs.Trees.{label_kind_pieces, label_pieces, dtors_pieces, names_pieces}
use Rattle.idl_forms.specs.Forms.{if_there}
use Rattle.idl_forms.specs.Moved.{ident_moved, num_moved, ref_moved, size_moved, dtor_moved, label_kind_moved, label_moved}
use Rattle.idl_forms.proofs.Stream.{has_itself, Seen, class, heads}
use Rattle.idl_forms.proofs.Readers.{mapped, both, behind, upto, split, single, flag, maybe, loop, listed, maybe_listed, at_place}
use Rattle.idl_forms.proofs.Reading.{Reads, heads_append, heads_placed, heads_right, reads_as, reads_any, reads_right, reads_fewer, reads_mapped, reads_both, reads_then, behind_word, behind_mark, upto_mark, inside, split_yes, split_no, split_none, reads_single, reads_bad, flag_word, flag_mark, maybe_none, maybe_some, reads_placed, reads_loop, reads_listed, reads_maybe_listed}
use Rattle.idl_tree.specs.Combinators.{name_classes}
use Rattle.idl_tree.proofs.Classes.{is_name_class}
use Rattle.idl_tokens.proofs.Sets.{has_right}

-- ---- what tokens hold

abbrev name_of : What → List ℕ
name_of (Of (kinds.Name text)) = text
name_of w = []

abbrev text_of : What → List ℕ
text_of (Of (kinds.Text text)) = text
text_of w = []

abbrev uuid_of : What → Uuid
uuid_of (Of (kinds.Uuid id)) = id
uuid_of w = []

abbrev number_of : What → ℕ
number_of (Of (kinds.Number (Some n))) = n
number_of w = 0

-- ---- how each is read

abbrev as_ident : Seen → Ident
as_ident s = record { at = s.at; text = name_of s.what }

abbrev pub a_name : List Seen → Ident × List Seen
a_name = single as_ident (record { at = 0; text = [] })

abbrev pub a_text : List Seen → List ℕ × List Seen
a_text = single (λ s. text_of s.what) []

abbrev pub a_uuid : List Seen → Uuid × List Seen
a_uuid = single (λ s. uuid_of s.what) []

abbrev pub a_token : {A : Type 0} → A → List Seen → A × List Seen
a_token x = single (λ s. x) x

abbrev a_value : List Seen → ℕ × List Seen
a_value = single (λ s. number_of s.what) 0

abbrev as_num_of : ℕ × (Bool × ℕ) → Num
as_num_of p = record { at = p.0; minus = p.1.0; value = p.1.1 }

-- with its minus, or alone
abbrev pub a_num : List Seen → Num × List Seen
a_num = mapped as_num_of (at_place (both (flag (of_mark marks.Minus)) a_value))

abbrev pk_by : ℕ → Pk
pk_by c = if eqb c (of_word words.Ref) then pks.Ref else (if eqb c (of_word words.Unique) then pks.Unique else pks.Ptr)

abbrev pub a_pk : List Seen → Pk × List Seen
a_pk = single (λ s. pk_by (class s.what)) pks.Ref

abbrev size_by : ℕ → ℕ
size_by c = if eqb c (of_word words.Small) then 1 else (if eqb c (of_word words.Short) then 2 else (if eqb c (of_word words.Long) then 4 else 8))

abbrev an_int_size : List Seen → ℕ × List Seen
an_int_size = single (λ s. size_by (class s.what)) 0

abbrev as_base : Bool → Option (ℕ × Bool) → Base
as_base u None = bases.Char u
as_base u (Some p) = bases.Int u p.0 p.1

abbrev an_int : List Seen → Base × List Seen
an_int = mapped (λ p. as_base p.0 p.1) (both (flag (of_word words.Unsigned)) (split (of_word words.Char ∷ []) (a_token None) (mapped Some (both an_int_size (flag (of_word words.Int))))))

abbrev pub a_base : List Seen → Base × List Seen
a_base = split (of_word words.Boolean ∷ []) (a_token bases.Boolean) (split (of_word words.Byte ∷ []) (a_token bases.Byte) an_int)

abbrev a_size : List Seen → ArraySize × List Seen
a_size = split (number_class ∷ of_mark marks.Minus ∷ []) (mapped sizes.Number a_num) (split name_classes (mapped sizes.Named a_name) (mapped (λ star. if star then sizes.Star else sizes.Empty) (flag (of_mark marks.Star))))

abbrev an_array : List Seen → Option ArraySize × List Seen
an_array = maybe (opening brackets.Square ∷ []) (behind (upto a_size))

abbrev stars : ℕ → List Seen → ℕ × List Seen
stars n = mapped length (loop n (of_mark marks.Star ∷ []) (a_token zero))

abbrev as_dtor : ℕ × (Ident × Option ArraySize) → Dtor
as_dtor p = record { stars = p.0; name = p.1.0; array = p.1.1 }

abbrev pub a_dtor : ℕ → List Seen → Dtor × List Seen
a_dtor n = mapped as_dtor (both (stars n) (both a_name an_array))

abbrev pub a_ref : List Seen → SizeRef × List Seen
a_ref = split (number_class ∷ of_mark marks.Minus ∷ []) (mapped refs.Number a_num) (mapped (λ p. refs.Named p.0 p.1) (both (flag (of_mark marks.Star)) a_name))

-- the two about a comma
abbrev pub a_bounds : List Seen → (Num × Num) × List Seen
a_bounds = both a_num (behind a_num)

abbrev a_label_kind : List Seen → LabelKind × List Seen
a_label_kind = split (of_word words.Default ∷ []) (behind (a_token labels.Default)) (behind (upto (split (number_class ∷ of_mark marks.Minus ∷ []) (mapped labels.Number a_num) (mapped labels.Named a_name))))

abbrev as_label : ℕ × LabelKind → Label
as_label p = record { at = p.0; what = p.1 }

abbrev pub a_label : List Seen → Label × List Seen
a_label = mapped as_label (at_place a_label_kind)

abbrev pub a_tag : List Seen → Option Ident × List Seen
a_tag = maybe name_classes a_name

-- ---- first tokens

pub word_then : (w : Word) (ps : Pieces) → heads (of_word w ∷ []) (word_pieces w ++ ps) ≡ true
unfolding word_pieces
word_then w ps = has_itself (of_word w)

pub word_heads : (w : Word) → heads (of_word w ∷ []) (word_pieces w) ≡ true
unfolding word_pieces
word_heads w = has_itself (of_word w)

pub mark_heads : (m : Mark) → heads (of_mark m ∷ []) (mark_pieces m) ≡ true
unfolding mark_pieces
mark_heads m = has_itself (of_mark m)

pub mark_then : (m : Mark) (ps : Pieces) → heads (of_mark m ∷ []) (mark_pieces m ++ ps) ≡ true
unfolding mark_pieces
mark_then m ps = has_itself (of_mark m)

pub open_heads : (b : Bracket) (ps : Pieces) → heads (opening b ∷ []) (within b ps) ≡ true
unfolding open_pieces
open_heads b ps = has_itself (opening b)

num_heads : (n : Num) → heads (number_class ∷ of_mark marks.Minus ∷ []) (num_pieces n) ≡ true
unfolding num_pieces number_pieces mark_pieces
num_heads n = elim n.minus as (λ b. heads (number_class ∷ of_mark marks.Minus ∷ []) (cond b (placed n.at (mark_pieces marks.Minus) ++ alone (kinds.Number (Some n.value)) ∷ []) (number_pieces n.at n.value)) ≡ true) [ true ↦ refl | false ↦ refl ]

pub ident_heads : (i : Ident) → heads name_classes (ident_pieces i) ≡ true
unfolding ident_pieces
ident_heads i = has_right (of_name i.text) (bad_class ∷ []) name_classes (is_name_class i.text)

pub range_heads : (ps : Pieces) → heads (range_class ∷ []) (range_pieces ++ ps) ≡ true
unfolding range_pieces
range_heads ps = refl

pub text_heads : (t : List ℕ) → heads (text_class ∷ []) (text_pieces t) ≡ true
unfolding text_pieces
text_heads t = refl

label_kind_heads : (k : LabelKind) → heads (of_word words.Case ∷ of_word words.Default ∷ []) (label_kind_pieces k) ≡ true
unfolding label_kind_pieces word_pieces
label_kind_heads (labels.Number n) = refl
label_kind_heads (labels.Named i) = refl
label_kind_heads labels.Default = refl

pub label_heads : (l : Label) → heads (of_word words.Case ∷ of_word words.Default ∷ []) (label_pieces l) ≡ true
unfolding label_pieces
label_heads l = heads_placed (of_word words.Case ∷ of_word words.Default ∷ []) l.at (label_kind_pieces l.what) (label_kind_heads l.what)

-- behind stars a name
pub dtor_heads : (d : Dtor) → heads (of_mark marks.Star ∷ name_classes) (dtor_pieces d) ≡ true
unfolding dtor_pieces star_pieces mark_pieces
dtor_heads d = elim d.stars as (λ n. heads (of_mark marks.Star ∷ name_classes) (star_pieces n ++ (ident_pieces d.name ++ array_pieces d.array)) ≡ true) [
  | zero ↦ heads_append (of_mark marks.Star ∷ name_classes) (ident_pieces d.name) (array_pieces d.array) (heads_right (of_mark marks.Star ∷ []) name_classes (ident_pieces d.name) (ident_heads d.name))
  | suc n ↦ refl
]

pub dtors_heads : (ds : List Dtor) → heads (of_mark marks.Star ∷ name_classes) (dtors_pieces ds) ≡ true
unfolding dtors_pieces
dtors_heads [] = refl
dtors_heads (d ∷ ds) = heads_append (of_mark marks.Star ∷ name_classes) (dtor_pieces d) _ (dtor_heads d)

pick : (P : Pieces → Type 0) (b : Bool) (x y : Pieces) → P x → P y → P (cond b x y)
pick P true x y p q = p
pick P false x y p q = q

int_case : (P : Pieces → Type 0) → P (word_pieces words.Small) → P (word_pieces words.Short) → P (word_pieces words.Long) → P (word_pieces words.Hyper) → P (alone kinds.Bad ∷ []) → (n : ℕ) → P (int_size_pieces n)
unfolding int_size_pieces
int_case P s1 s2 s4 s8 bad n = pick P (eqb n 1) _ _ s1 (pick P (eqb n 2) _ _ s2 (pick P (eqb n 4) _ _ s4 (pick P (eqb n 8) _ _ s8 bad)))

int_heads : (n : ℕ) → heads (of_word words.Small ∷ of_word words.Short ∷ of_word words.Long ∷ of_word words.Hyper ∷ []) (int_size_pieces n) ≡ true
unfolding word_pieces
int_heads n = int_case (λ ps. heads (of_word words.Small ∷ of_word words.Short ∷ of_word words.Long ∷ of_word words.Hyper ∷ []) ps ≡ true) refl refl refl refl refl n

pub base_heads : (b : Base) → heads (of_word words.Boolean ∷ of_word words.Byte ∷ of_word words.Unsigned ∷ of_word words.Char ∷ of_word words.Small ∷ of_word words.Short ∷ of_word words.Long ∷ of_word words.Hyper ∷ []) (base_pieces b) ≡ true
unfolding base_pieces if_word word_pieces
base_heads bases.Boolean = refl
base_heads bases.Byte = refl
base_heads (bases.Char true) = refl
base_heads (bases.Char false) = refl
base_heads (bases.Int true size w) = refl
base_heads (bases.Int false size w) = heads_append (of_word words.Boolean ∷ of_word words.Byte ∷ of_word words.Unsigned ∷ of_word words.Char ∷ of_word words.Small ∷ of_word words.Short ∷ of_word words.Long ∷ of_word words.Hyper ∷ []) (int_size_pieces size) _ (int_case (λ ps. heads (of_word words.Boolean ∷ of_word words.Byte ∷ of_word words.Unsigned ∷ of_word words.Char ∷ of_word words.Small ∷ of_word words.Short ∷ of_word words.Long ∷ of_word words.Hyper ∷ []) ps ≡ true) refl refl refl refl refl size)

char_heads : (u : Bool) → heads (of_word words.Unsigned ∷ of_word words.Char ∷ []) (if_word u words.Unsigned ++ word_pieces words.Char) ≡ true
unfolding if_word word_pieces
char_heads true = refl
char_heads false = refl

whole_int_heads : (u : Bool) (size : ℕ) (w : Bool) → heads (of_word words.Unsigned ∷ of_word words.Small ∷ of_word words.Short ∷ of_word words.Long ∷ of_word words.Hyper ∷ []) (if_word u words.Unsigned ++ (int_size_pieces size ++ if_word w words.Int)) ≡ true
unfolding if_word word_pieces
whole_int_heads true size w = refl
whole_int_heads false size w = heads_append (of_word words.Unsigned ∷ of_word words.Small ∷ of_word words.Short ∷ of_word words.Long ∷ of_word words.Hyper ∷ []) (int_size_pieces size) _ (int_case (λ ps. heads (of_word words.Unsigned ∷ of_word words.Small ∷ of_word words.Short ∷ of_word words.Long ∷ of_word words.Hyper ∷ []) ps ≡ true) refl refl refl refl refl size)

starred_heads : (star : Bool) (i : Ident) → heads (of_mark marks.Star ∷ name_classes) (if_mark star marks.Star ++ ident_pieces i) ≡ true
unfolding if_mark mark_pieces
starred_heads true i = refl
starred_heads false i = heads_right (of_mark marks.Star ∷ []) name_classes (ident_pieces i) (ident_heads i)

-- ---- stars as a list

zeros : ℕ → List ℕ
zeros zero = []
zeros (suc n) = zero ∷ zeros n

star_list : (n : ℕ) → star_pieces n ≡ flat_map (λ (x : ℕ). mark_pieces marks.Star) (zeros n)
unfolding star_pieces zeros
star_list zero = refl
star_list (suc n) = ap (λ ps. mark_pieces marks.Star ++ ps) (star_list n)

zeros_length : (n : ℕ) → length (map (λ (x : ℕ). zero) (zeros n)) ≡ n
unfolding zeros
zeros_length zero = refl
zeros_length (suc n) = ap suc (zeros_length n)

-- ---- each is read off its tokens

module _ {f : ℕ → ℕ} where
  pub reads_name : {n : ℕ} (i : Ident) → Reads f n [] a_name (ident_pieces i) (ident_moved f i)
  unfolding ident_pieces
  reads_name i = reads_single as_ident _ _ (λ s what at. cc)

  pub reads_text : {n : ℕ} (t : List ℕ) → Reads f n [] a_text (text_pieces t) t
  unfolding text_pieces
  reads_text t = reads_single (λ s. text_of s.what) _ _ (λ s what at. ap text_of what)

  pub reads_uuid : {n : ℕ} (id : Uuid) → Reads f n [] a_uuid (uuid_pieces id) id
  unfolding uuid_pieces
  reads_uuid id = reads_single (λ s. uuid_of s.what) _ _ (λ s what at. ap uuid_of what)

  pub word_as : {A : Type 0} {n : ℕ} (x : A) (w : Word) → Reads f n [] (a_token x) (word_pieces w) x
  unfolding word_pieces
  word_as x w = reads_single (λ s. x) x _ (λ s what at. refl)

  pub mark_as : {A : Type 0} {n : ℕ} (x : A) (m : Mark) → Reads f n [] (a_token x) (mark_pieces m) x
  unfolding mark_pieces
  mark_as x m = reads_single (λ s. x) x _ (λ s what at. refl)

  reads_value : {n : ℕ} (v : ℕ) → Reads f n [] a_value (alone (kinds.Number (Some v)) ∷ []) v
  reads_value v = reads_single (λ s. number_of s.what) _ _ (λ s what at. ap number_of what)

  num_of : {n : ℕ} (at : ℕ) (b : Bool) (v : ℕ) → Reads f n [] a_num (num_pieces (record { at = at; minus = b; value = v })) (record { at = f at; minus = b; value = v })
  unfolding num_pieces number_pieces mark_pieces if_mark
  num_of at true v = reads_mapped as_num_of (reads_placed (of_mark marks.Minus ∷ []) at refl (reads_both (number_class ∷ []) refl refl (flag_mark true marks.Minus) (reads_value v)))
  num_of at false v = reads_mapped as_num_of (reads_placed (number_class ∷ []) at refl (reads_both (number_class ∷ []) refl refl (flag_mark false marks.Minus) (reads_value v)))

  pub reads_num : {n : ℕ} (x : Num) → Reads f n [] a_num (num_pieces x) (num_moved f x)
  reads_num x = num_of x.at x.minus x.value

  pub reads_pk : {n : ℕ} (p : Pk) → Reads f n [] a_pk (pk_pieces p) p
  unfolding pk_pieces pk_word word_pieces
  reads_pk pks.Ref = reads_single (λ s. pk_by (class s.what)) _ _ (λ s what at. ap (λ w. pk_by (class w)) what)
  reads_pk pks.Unique = reads_single (λ s. pk_by (class s.what)) _ _ (λ s what at. ap (λ w. pk_by (class w)) what)
  reads_pk pks.Ptr = reads_single (λ s. pk_by (class s.what)) _ _ (λ s what at. ap (λ w. pk_by (class w)) what)

  -- ---- base types

  size_as : {n : ℕ} (w : Word) → Reads f n [] an_int_size (word_pieces w) (size_by (of_word w))
  unfolding word_pieces
  size_as w = reads_single (λ s. size_by (class s.what)) _ _ (λ s what at. ap (λ v. size_by (class v)) what)

  int_size_of : {n : ℕ} (size : ℕ) (b1 b2 b4 b8 : Bool) → eqb size 1 ≡ b1 → eqb size 2 ≡ b2 → eqb size 4 ≡ b4 → eqb size 8 ≡ b8
      → Reads f n [] an_int_size (cond b1 (word_pieces words.Small) (cond b2 (word_pieces words.Short) (cond b4 (word_pieces words.Long) (cond b8 (word_pieces words.Hyper) (alone kinds.Bad ∷ []))))) size
  int_size_of size true b2 b4 b8 e1 e2 e4 e8 = reads_as refl (eqb-true size 1 e1) (size_as words.Small)
  int_size_of size false true b4 b8 e1 e2 e4 e8 = reads_as refl (eqb-true size 2 e2) (size_as words.Short)
  int_size_of size false false true b8 e1 e2 e4 e8 = reads_as refl (eqb-true size 4 e4) (size_as words.Long)
  int_size_of size false false false true e1 e2 e4 e8 = reads_as refl (eqb-true size 8 e8) (size_as words.Hyper)
  int_size_of size false false false false e1 e2 e4 e8 = reads_bad

  reads_int_size : {n : ℕ} (size : ℕ) → Reads f n [] an_int_size (int_size_pieces size) size
  unfolding int_size_pieces
  reads_int_size size = int_size_of size (eqb size 1) (eqb size 2) (eqb size 4) (eqb size 8) refl refl refl refl

  -- a spec's base type may be followed by anything but "int"
  pub reads_base : {n : ℕ} (b : Base) → Reads f n (of_word words.Int ∷ []) a_base (base_pieces b) b
  unfolding base_pieces
  reads_base bases.Boolean = split_yes (of_word words.Boolean ∷ []) _ (word_heads words.Boolean) (reads_any (of_word words.Int ∷ []) (word_as bases.Boolean words.Boolean))
  reads_base bases.Byte = split_no (of_word words.Boolean ∷ []) (of_word words.Byte ∷ []) _ (word_heads words.Byte) refl (split_yes (of_word words.Byte ∷ []) _ (word_heads words.Byte) (reads_any (of_word words.Int ∷ []) (word_as bases.Byte words.Byte)))
  reads_base (bases.Char u) =
      split_no (of_word words.Boolean ∷ []) (of_word words.Unsigned ∷ of_word words.Char ∷ []) _ (char_heads u) refl (split_no (of_word words.Byte ∷ []) (of_word words.Unsigned ∷ of_word words.Char ∷ []) _ (char_heads u) refl
      (reads_mapped (λ p. as_base p.0 p.1) (reads_both (of_word words.Char ∷ []) (word_heads words.Char) refl (flag_word u words.Unsigned) (split_yes (of_word words.Char ∷ []) _ (word_heads words.Char) (reads_any (of_word words.Int ∷ []) (word_as None words.Char))))))
  reads_base (bases.Int u size w) =
      let ints : List ℕ = of_word words.Small ∷ of_word words.Short ∷ of_word words.Long ∷ of_word words.Hyper ∷ [] in
      let sized : heads ints (int_size_pieces size ++ if_word w words.Int) ≡ true = heads_append ints (int_size_pieces size) (if_word w words.Int) (int_heads size) in
      split_no (of_word words.Boolean ∷ []) (of_word words.Unsigned ∷ ints) _ (whole_int_heads u size w) refl (split_no (of_word words.Byte ∷ []) (of_word words.Unsigned ∷ ints) _ (whole_int_heads u size w) refl
      (reads_mapped (λ p. as_base p.0 p.1) (reads_both ints sized refl (flag_word u words.Unsigned) (split_no (of_word words.Char ∷ []) ints _ sized refl (reads_mapped Some (reads_then (reads_int_size size) (flag_word w words.Int)))))))

  -- ---- declarators and sizes

  reads_size : {n : ℕ} (s : ArraySize) → Reads f n (number_class ∷ of_mark marks.Minus ∷ (name_classes ++ (of_mark marks.Star ∷ []))) a_size (size_pieces s) (size_moved f s)
  unfolding size_pieces if_mark
  reads_size sizes.Empty = split_none (number_class ∷ of_mark marks.Minus ∷ []) _ (split_none name_classes _ (reads_mapped (λ star. if star then sizes.Star else sizes.Empty) (flag_mark false marks.Star)))
  reads_size (sizes.Number n) = split_yes (number_class ∷ of_mark marks.Minus ∷ []) _ (num_heads n) (reads_any _ (reads_mapped sizes.Number (reads_num n)))
  reads_size (sizes.Named i) = split_no (number_class ∷ of_mark marks.Minus ∷ []) name_classes _ (ident_heads i) refl (split_yes name_classes _ (ident_heads i) (reads_any _ (reads_mapped sizes.Named (reads_name i))))
  reads_size sizes.Star = split_no (number_class ∷ of_mark marks.Minus ∷ []) (of_mark marks.Star ∷ []) _ (mark_heads marks.Star) refl (split_no name_classes (of_mark marks.Star ∷ []) _ (mark_heads marks.Star) refl
      (reads_right (number_class ∷ of_mark marks.Minus ∷ name_classes) (reads_mapped (λ star. if star then sizes.Star else sizes.Empty) (flag_mark true marks.Star))))

  reads_array : {n : ℕ} (a : Option ArraySize) → Reads f n (opening brackets.Square ∷ []) an_array (array_pieces a) (if_there (size_moved f) a)
  unfolding array_pieces
  reads_array None = maybe_none (opening brackets.Square ∷ []) _
  reads_array (Some s) = maybe_some (opening brackets.Square ∷ []) (open_heads brackets.Square (size_pieces s)) (reads_any (opening brackets.Square ∷ []) (reads_fewer (inside brackets.Square refl (reads_size s))))

  reads_stars : (n stars' : ℕ) → Reads f n (of_mark marks.Star ∷ []) (stars n) (star_pieces stars') stars'
  reads_stars n stars' =
      reads_as (star_list stars') (sym (zeros_length stars')) (reads_mapped length (reads_loop (λ (x : ℕ). mark_pieces marks.Star) (λ (x : ℕ). zero) n (of_mark marks.Star ∷ []) [] (a_token zero) (λ x. mark_heads marks.Star) refl (λ x. mark_as zero marks.Star) (zeros stars')))

  pub reads_dtor : (n : ℕ) (d : Dtor) → Reads f n (opening brackets.Square ∷ []) (a_dtor n) (dtor_pieces d) (dtor_moved f d)
  unfolding dtor_pieces
  reads_dtor n d = reads_mapped as_dtor (reads_both name_classes (heads_append name_classes (ident_pieces d.name) (array_pieces d.array) (ident_heads d.name)) refl (reads_stars n d.stars) (reads_then (reads_name d.name) (reads_array d.array)))

  pub reads_dtors : (n : ℕ) (ds : List Dtor) → Reads f n (of_mark marks.Comma ∷ opening brackets.Square ∷ []) (listed n (a_dtor n)) (dtors_pieces ds) (map (dtor_moved f) ds)
  unfolding dtors_pieces
  reads_dtors n [] = reads_bad
  reads_dtors n (d ∷ ds) = reads_listed dtor_pieces (dtor_moved f) n (opening brackets.Square ∷ []) (a_dtor n) refl (reads_dtor n) d ds

  pub reads_names : (n : ℕ) (is : List Ident) → Reads f n (name_classes ++ (of_mark marks.Comma ∷ [])) (maybe_listed name_classes n a_name) (names_pieces is) (map (ident_moved f) is)
  unfolding names_pieces
  reads_names n is = reads_maybe_listed ident_pieces (ident_moved f) n [] a_name refl reads_name name_classes ident_heads is

  pub reads_tag : {n : ℕ} (o : Option Ident) → Reads f n name_classes a_tag (if_ident o) (if_there (ident_moved f) o)
  unfolding if_ident
  reads_tag None = maybe_none name_classes _
  reads_tag (Some i) = maybe_some name_classes (ident_heads i) (reads_any name_classes (reads_name i))

  -- ---- attributes' sizes, and labels

  pub reads_starred : {n : ℕ} (star : Bool) (i : Ident) → Reads f n [] (both (flag (of_mark marks.Star)) a_name) (if_mark star marks.Star ++ ident_pieces i) (star, ident_moved f i)
  reads_starred star i = reads_both name_classes (ident_heads i) refl (flag_mark star marks.Star) (reads_name i)

  pub reads_ref : {n : ℕ} (r : SizeRef) → Reads f n [] a_ref (ref_pieces r) (ref_moved f r)
  unfolding ref_pieces
  reads_ref (refs.Named star i) = split_no (number_class ∷ of_mark marks.Minus ∷ []) (of_mark marks.Star ∷ name_classes) _ (starred_heads star i) refl (reads_mapped (λ p. refs.Named p.0 p.1) (reads_starred star i))
  reads_ref (refs.Number n) = split_yes (number_class ∷ of_mark marks.Minus ∷ []) _ (num_heads n) (reads_mapped refs.Number (reads_num n))

  reads_label_kind : {n : ℕ} (k : LabelKind) → Reads f n [] a_label_kind (label_kind_pieces k) (label_kind_moved f k)
  unfolding label_kind_pieces
  reads_label_kind (labels.Number n) = split_no (of_word words.Default ∷ []) (of_word words.Case ∷ []) _ (word_then words.Case _) refl (behind_word words.Case (upto_mark marks.Colon refl (split_yes (number_class ∷ of_mark marks.Minus ∷ []) _ (num_heads n) (reads_mapped labels.Number (reads_num n)))))
  reads_label_kind (labels.Named i) = split_no (of_word words.Default ∷ []) (of_word words.Case ∷ []) _ (word_then words.Case _) refl (behind_word words.Case (upto_mark marks.Colon refl (split_no (number_class ∷ of_mark marks.Minus ∷ []) name_classes _ (ident_heads i) refl (reads_mapped labels.Named (reads_name i)))))
  reads_label_kind labels.Default = split_yes (of_word words.Default ∷ []) _ (word_then words.Default _) (behind_word words.Default (mark_as labels.Default marks.Colon))

  -- a range's bounds
  pub reads_bounds : {n : ℕ} (low high : Num) → Reads f n [] a_bounds (bounds_pieces low high) (num_moved f low, num_moved f high)
  unfolding bounds_pieces
  reads_bounds low high = reads_then (reads_num low) (behind_mark marks.Comma (reads_num high))

  pub reads_label : {n : ℕ} (l : Label) → Reads f n [] a_label (label_pieces l) (label_moved f l)
  unfolding label_pieces
  reads_label l = reads_mapped as_label (reads_placed (of_word words.Case ∷ of_word words.Default ∷ []) l.at (label_kind_heads l.what) (reads_label_kind l.what))
