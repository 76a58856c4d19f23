-- What rules and tables read of one list of attributes, and of declarators behind it.
use Rattle.std.proofs.Common.{◌≡◌, ℕ, ◌+◌, List, [], ◌∷◌, Bool, true, false, Option, None, Some, refl, ap, sym, ◌∙◌}
use Rattle.std.specs.Prelude.{◌==◌, ◌||◌, ◌&&◌, not, is_some}
use Rattle.std.specs.List.{list_any, list_all, flat_map}
use Rattle.idl_tree.specs.declared.leaf.Ident.{Ident}
use Rattle.idl_tree.specs.declared.leaf.Num.{Num}
use Rattle.idl_tree.specs.declared.leaf.Pk.{Pk}
use Rattle.idl_tree.specs.declared.leaf.SizeRef.{SizeRef}
use Rattle.idl_tree.specs.declared.leaf.SizeRef.TheVariants as refs
use Rattle.idl_tree.specs.declared.leaf.ArraySize.{ArraySize}
use Rattle.idl_tree.specs.declared.leaf.ArraySize.TheVariants as sizes
use Rattle.idl_tree.specs.declared.leaf.Dtor.{Dtor}
use Rattle.idl_outline.specs.declared.ty.DataType.{DataType}
use Rattle.idl_outline.specs.declared.manner.Manner.{Manner}
use Rattle.idl_outline.specs.declared.field.NameRef.{NameRef}
use Rattle.idl_outline.specs.declared.field.Declared.{Declared}
use Rattle.idl_outline.specs.declared.field.Field.{Field}
use Rattle.idl_outline.specs.Names.{Past, constants_of, each_declared, declared as outline_declared}
use Rattle.idl_names.specs.Declarators.{extent_of}
use Rattle.idl_outline.specs.Parts.{size_of}
use Rattle.idl_outline.specs.Specs.{mark_of, attributes, attr_past}
use Rattle.idl_forms.specs.Forms as idl
use Rattle.idl_rules.specs.declared.asked.Asked.{Asked}
use Rattle.idl_rules.specs.declared.asked.Asked.TheVariants as asks
use Rattle.idl_rules.specs.Places.{at_if}
use Rattle.idl_rules.specs.Types.{is_open_extent, is_parameter, says_string as rule_string, says_most as rule_most}
use Rattle.idl_rules.specs.BadAttribute as bad
use Rattle.idl_rules.specs.SizeName as size
use Rattle.idl_names.specs.Symbols.{ByName}
use Rattle.idl_names.specs.Attributes.{says, says_string}
use Rattle.marshal_table.specs.Stands.{is_among, ref_stands, count_stands, counts_stand, says_most, is_sized, array_stands, dtors_stand}
use Rattle.marshal_table.proofs.Nothing.{nil_left, nil_right}

-- ---- places where nothing is broken

pub there : (b : Bool) (at : ℕ) → at_if (not b) at ≡ [] → b ≡ true
there true at e = refl
there false at e = absurd cc

pub not_there : (b : Bool) (at : ℕ) → at_if b at ≡ [] → b ≡ false
not_there true at e = absurd cc
not_there false at e = refl

pub both : (a b : Bool) → a ≡ true → b ≡ true → (a && b) ≡ true
both true b e f = f
both false b e f = absurd cc

pub right_false : (a b : Bool) → (a || b) ≡ false → b ≡ false
right_false true b e = absurd cc
right_false false b e = e

pub left_false : (a b : Bool) → (a || b) ≡ false → a ≡ false
left_false true b e = absurd cc
left_false false b e = refl

pub or_more : (a b c d : Bool) → (a ≡ true → c ≡ true) → (b ≡ true → d ≡ true) → (a || b) ≡ true → (c || d) ≡ true
or_more true b true d f g e = refl
or_more true b false d f g e = absurd (let no = f refl in cc)
or_more false b true d f g e = refl
or_more false b false d f g e = g e

pub any_more : {X : Type 0} (f g : X → Bool) (xs : List X) → ((x : X) → f x ≡ true → g x ≡ true) → list_any f xs ≡ true → list_any g xs ≡ true
any_more f g [] h e = e
any_more f g (x ∷ xs) h e = or_more (f x) (list_any f xs) (g x) (list_any g xs) (h x) (any_more f g xs h) e

-- ---- attributes

most_is : (k : Pk) (m : idl.AttrKindForm) (p : Past) → rule_most (mark_of k m p) ≡ says_most m
most_is k idl.OfIn p = refl
most_is k _ p = refl

string_is : (k : Pk) (m : idl.AttrKindForm) (p : Past) → rule_string (mark_of k m p) ≡ says_string m
string_is k idl.OfIn p = refl
string_is k _ p = refl

pub most_said : (k : Pk) (as' : idl.AttrForms) (p : Past) → list_any (λ a. rule_most a.mark) (attributes k as' p) ≡ says says_most as'
most_said k idl.no_attr p = refl
most_said k (idl.then_attr (idl.an_attr at m) rest) p = λ j. most_is k m p j || most_said k rest (attr_past k (idl.an_attr at m) p) j

pub string_said : (k : Pk) (as' : idl.AttrForms) (p : Past) → list_any (λ a. rule_string a.mark) (attributes k as' p) ≡ says says_string as'
string_said k idl.no_attr p = refl
string_said k (idl.then_attr (idl.an_attr at m) rest) p = λ j. string_is k m p j || string_said k rest (attr_past k (idl.an_attr at m) p) j

-- ---- what sizes and switches name

-- what the attributes of the field may name in that list is one of the names
abbrev pub Offered : List Field → Field → List Ident → Type 0
Offered list f names = (asked : Asked) (n : NameRef) → list_any (size.offers asked f n) list ≡ true → is_among names n.name ≡ true

ref_found : (list : List Field) (f : Field) (names : List Ident) (r : SizeRef) → Offered list f names → size.size_places list f (size_of r) ≡ [] → ref_stands names r ≡ true
ref_found list f names (refs.Number n) h e = refl
ref_found list f names (refs.Named star i) h e = h asks.Integer (record { star = star; name = i }) (there (list_any (size.offers asks.Integer f (record { star = star; name = i })) list) i.at e)

mark_found : (k : Pk) (list : List Field) (f : Field) (names : List Ident) (m : idl.AttrKindForm) (p : Past) → Offered list f names → size.mark_places list f (mark_of k m p) ≡ [] → count_stands names m ≡ true
mark_found k list f names (idl.OfSizeIs r) p h e = ref_found list f names r h e
mark_found k list f names (idl.OfMaxIs r) p h e = ref_found list f names r h e
mark_found k list f names (idl.OfLengthIs r) p h e = ref_found list f names r h e
mark_found k list f names (idl.OfSwitchIs star i) p h e =
    h asks.Tag (record { star = star; name = i }) (there (list_any (size.offers asks.Tag f (record { star = star; name = i })) list) i.at e)
mark_found k list f names _ p h e = refl

pub counts_found : (k : Pk) (list : List Field) (f : Field) (names : List Ident) (as' : idl.AttrForms) (p : Past) → Offered list f names → flat_map (size.attribute_places list f) (attributes k as' p) ≡ []
    → counts_stand names as' ≡ true
counts_found k list f names idl.no_attr p h e = refl
counts_found k list f names (idl.then_attr (idl.an_attr at m) rest) p h e =
    let others : List ℕ = flat_map (size.attribute_places list f) (attributes k rest (attr_past k (idl.an_attr at m) p)) in
    both (count_stands names m) (counts_stand names rest)
    (mark_found k list f names m p h (nil_left (size.mark_places list f (mark_of k m p)) others e))
    (counts_found k list f names rest (attr_past k (idl.an_attr at m) p) h (nil_right (size.mark_places list f (mark_of k m p)) others e))

-- ---- arrays

-- the constant that an array's size names
abbrev pub is_constant : ByName Num → Option ArraySize → Bool
is_constant constants (Some (sizes.Named i)) = is_some (constants i.text)
is_constant constants _ = true

abbrev pub are_constants : ByName Num → List Dtor → Bool
are_constants constants ds = list_all (λ d. is_constant constants d.array) ds

-- a conformant array that breaks no rule has a size
open_sized : (b c : Bool) → (true && (not b || c)) ≡ false → b ≡ true
open_sized true c e = refl
open_sized false c e = absurd cc

array_found : (past : Past) (constants : ByName Num) (o : Option ArraySize) (sized other : Bool) → (is_open_extent (extent_of (constants_of past) o) && (not sized || other)) ≡ false → is_constant constants o ≡ true
    → array_stands sized constants o ≡ true
array_found past constants None sized other e c = refl
array_found past constants (Some sizes.Empty) sized other e c = open_sized sized other e
array_found past constants (Some sizes.Star) sized other e c = open_sized sized other e
array_found past constants (Some (sizes.Number n)) sized other e c = refl
array_found past constants (Some (sizes.Named i)) sized other e c = c

-- the size that a field says, as the table reads its attributes
abbrev pub SizedAs : Field → idl.AttrForms → Type 0
SizedAs f as' = (list_any (λ a. rule_most a.mark) f.attributes ≡ says says_most as') × (list_any (λ a. rule_string a.mark) f.attributes ≡ says says_string as')

pub first_of_both : (a b : Bool) → (a && b) ≡ true → a ≡ true
first_of_both true b e = refl
first_of_both false b e = absurd cc

pub second_of_both : (a b : Bool) → (a && b) ≡ true → b ≡ true
second_of_both true b e = e
second_of_both false b e = absurd cc

pub dtors_found : (f : Field) (as' : idl.AttrForms) (more : Bool) (past : Past) (handle : Bool) (kind : ℕ) (m : Manner) (t : DataType) (constants : ByName Num) (ds : List Dtor) → SizedAs f as'
    → bad.each_declared f more (each_declared past handle kind m t ds) ≡ [] → are_constants constants ds ≡ true → dtors_stand constants as' ds ≡ true
dtors_found f as' more past handle kind m t constants [] h e c = refl
dtors_found f as' more past handle kind m t constants (d ∷ ds) h e c =
    let x : Declared = outline_declared past handle kind m t d in
    let rest : List Declared = each_declared past handle (kind + 1) m t ds in
    let followed : Bool = bad.is_more rest || more in
    let elsewhere : Bool = bad.is_bad_element f x || bad.is_bad_struct f followed x in
    let parameter : Bool = is_parameter f.place && bad.is_bad_parameter f x in
    let here = nil_left (bad.declared_places f followed x) (bad.each_declared f more rest) e in
    let later = nil_right (bad.declared_places f followed x) (bad.each_declared f more rest) e in
    let kept = not_there (parameter || (bad.is_bad_array f followed x || elsewhere)) d.name.at here in
    let array : bad.is_bad_array f followed x ≡ false = left_false (bad.is_bad_array f followed x) elsewhere (right_false parameter (bad.is_bad_array f followed x || elsewhere) kept) in
    let as_read : bad.is_sized f x ≡ is_sized as' d = λ j. h.0 j || (h.1 j && d.stars == 0) in
    let found : array_stands (bad.is_sized f x) constants d.array ≡ true =
    array_found past constants d.array (bad.is_sized f x) (not (bad.may_be_open f followed)) array (first_of_both (is_constant constants d.array) (are_constants constants ds) c) in
    both (array_stands (is_sized as' d) constants d.array) (dtors_stand constants as' ds)
    (sym (ap (λ (b : Bool). array_stands b constants d.array) as_read) ∙ found)
    (dtors_found f as' more past handle (kind + 1) m t constants ds h later (second_of_both (is_constant constants d.array) (are_constants constants ds) c))
