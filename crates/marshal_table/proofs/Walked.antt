-- Each part of the outline's walk adds as many bodies as stand within it, and keeps what makes its events a table.
use Rattle.std.proofs.Common.{◌≡◌, ℕ, ◌+◌, ◌<◌, ◌≤◌, List, [], ◌∷◌, map, length, refl, ap, ◌∙◌, Bool, true, false, Option, None, Some}
use Rattle.std.specs.Prelude.{◌==◌, not, ◌&&◌, ◌||◌, if◌then◌else◌}
use Rattle.std.specs.List.{list_any, flat_map}
use Rattle.idl_tree.specs.declared.leaf.Ident.{Ident}
use Rattle.idl_tree.specs.declared.leaf.Base.{Base}
use Rattle.idl_tree.specs.declared.leaf.Base.TheVariants as bases
use Rattle.idl_tree.specs.declared.leaf.Dtor.{Dtor}
use Rattle.idl_tree.specs.declared.leaf.ArraySize.{ArraySize}
use Rattle.idl_tree.specs.declared.leaf.ArraySize.TheVariants as sizes
use Rattle.idl_tree.specs.declared.spec.Label.{Label as LabelNode}
use Rattle.idl_tree.specs.declared.spec.LabelKind.{LabelKind}
use Rattle.idl_tree.specs.declared.spec.LabelKind.TheVariants as label_kinds
use Rattle.idl_names.specs.declared.symbols.Tag.{Tag as NamedTag}
use Rattle.idl_names.specs.Symbols.{found}
use Rattle.idl_names.specs.Declarators.{all_pointed}
use Rattle.idl_outline.specs.declared.ty.DataType.{DataType}
use Rattle.idl_outline.specs.declared.manner.Manner.{Manner}
use Rattle.idl_outline.specs.declared.manner.Structure.{Structure}
use Rattle.idl_outline.specs.declared.field.Declared.{Declared}
use Rattle.idl_outline.specs.declared.field.Field.{Field}
use Rattle.idl_outline.specs.declared.event.Event.{Event}
use Rattle.idl_outline.specs.declared.event.Event.TheVariants as events
use Rattle.idl_outline.specs.Names.{Past, each_declared}
use Rattle.idl_outline.specs.Types.{core_of, or_unknown, struct_type}
use Rattle.idl_outline.specs.Parts.{array_past, size_past, sizes_past, label_past, labels_past, other_tag_past, names_past}
use Rattle.ndr_table.specs.Ordered.{is_size}
use Rattle.marshal_table.specs.declared.said.Terms.{Terms}
use Rattle.marshal_table.specs.Shapes.{type_form, terms, declared_form}
use Rattle.marshal_table.specs.Bodies.{field_forms, face}
use Rattle.marshal_table.proofs.Fitting.{TypeFits, shape_fits, declared_fits, fits_more, less_is, AllFit, all_join, held_fits, FacesFit}
use Rattle.marshal_table.proofs.Sounds.{NamedFits, TagFits, Sound, Goes, stays, then_goes, plain}

-- ---- what declares no type, no operation and no body

array_goes : (far : ℕ) (s : ArraySize) (p : Past) → Sound far p → Goes far 0 p (array_past s p)
array_goes far sizes.Empty p ok = stays far p ok
array_goes far sizes.Star p ok = stays far p ok
array_goes far (sizes.Number n) p ok = stays far p ok
array_goes far (sizes.Named i) p ok = plain far (events.ConstantUsed i) p refl refl refl (λ name. refl) (λ name. refl) ok

size_goes : (far : ℕ) (o : Option ArraySize) (p : Past) → Sound far p → Goes far 0 p (size_past o p)
size_goes far None p ok = stays far p ok
size_goes far (Some s) p ok = array_goes far s p ok

pub sizes_go : (far : ℕ) (ds : List Dtor) (p : Past) → Sound far p → Goes far 0 p (sizes_past ds p)
sizes_go far [] p ok = stays far p ok
sizes_go far (d ∷ ds) p ok =
    let a = size_goes far d.array p ok in
    then_goes far 0 0 p (size_past d.array p) (sizes_past ds (size_past d.array p)) a (sizes_go far ds (size_past d.array p) a.sound)

label_goes : (far : ℕ) (l : LabelKind) (p : Past) → Sound far p → Goes far 0 p (label_past l p)
label_goes far (label_kinds.Number n) p ok = stays far p ok
label_goes far (label_kinds.Named i) p ok = plain far (events.ConstantUsed i) p refl refl refl (λ name. refl) (λ name. refl) ok
label_goes far label_kinds.Default p ok = stays far p ok

pub labels_go : (far : ℕ) (ls : List LabelNode) (p : Past) → Sound far p → Goes far 0 p (labels_past ls p)
labels_go far [] p ok = stays far p ok
labels_go far (l ∷ ls) p ok =
    let a = label_goes far l.what p ok in
    then_goes far 0 0 p (label_past l.what p) (labels_past ls (label_past l.what p)) a (labels_go far ls (label_past l.what p) a.sound)

pub void_goes : (far : ℕ) (b : Bool) (at : ℕ) (p : Past) → Sound far p → Goes far 0 p (if b then p else events.VoidUsed at ∷ p)
void_goes far true at p ok = stays far p ok
void_goes far false at p ok = plain far (events.VoidUsed at) p refl refl refl (λ name. refl) (λ name. refl) ok

pub other_goes : (far : ℕ) (tag : Option Ident) (p : Past) → Sound far p → Goes far 0 p (other_tag_past tag p)
other_goes far None p ok = stays far p ok
other_goes far (Some i) p ok = plain far (events.OtherTag i) p refl refl refl (λ name. refl) (λ name. refl) ok

pub names_go : (far n : ℕ) (is : List Ident) (p : Past) → Sound far p → Goes far 0 p (names_past n is p)
names_go far n [] p ok = stays far p ok
names_go far n (i ∷ is) p ok =
    let e : Event = events.EnumName i (record { at = i.at; minus = false; value = n }) in
    let a = plain far e p refl refl refl (λ name. refl) (λ name. refl) ok in
    then_goes far 0 0 p (e ∷ p) (names_past (n + 1) is (e ∷ p)) a (names_go far (n + 1) is (e ∷ p) a.sound)

-- ---- types. Behind a pointer any type may stand

abbrev pub reach : Bool → ℕ → ℕ → ℕ
reach true near far = far
reach false near far = near

pub reach_fits : (b : Bool) (near far : ℕ) → near ≤ far → (t : DataType) → TypeFits near far t.layers t.core → TypeFits (reach b near far) far t.layers t.core
reach_fits true near far le t h = fits_more near far far le (type_form t) h
reach_fits false near far le t h = h

pub reach_far : (b : Bool) (near far : ℕ) → near ≤ far → (t : DataType) → TypeFits (reach b near far) far t.layers t.core → TypeFits far far t.layers t.core
reach_far true near far le t h = h
reach_far false near far le t h = fits_more near far far le (type_form t) h

pub reach_near : (b : Bool) (near far : ℕ) (t : DataType) → b ≡ false → TypeFits (reach b near far) far t.layers t.core → TypeFits near far t.layers t.core
reach_near true near far t is h = absurd cc
reach_near false near far t is h = h

octets_cases : (a b c : Bool) → is_size (if a then 1 else (if b then 2 else (if c then 4 else 8))) ≡ true
octets_cases true b c = refl
octets_cases false true c = refl
octets_cases false false true = refl
octets_cases false false false = refl

pub base_fits : (near far : ℕ) (b : Base) → TypeFits near far [] (core_of b)
base_fits near far bases.Boolean = refl
base_fits near far bases.Byte = refl
base_fits near far (bases.Char unsigned) = refl
base_fits near far (bases.Int true size int_word) = octets_cases (size == 1) (size == 2) (size == 4)
base_fits near far (bases.Int false size int_word) = octets_cases (size == 1) (size == 2) (size == 4)

pub named_fits : (near far : ℕ) (o : Option DataType) → NamedFits near far o → TypeFits near far (or_unknown o).layers (or_unknown o).core
named_fits near far None h = refl
named_fits near far (Some t) h = h

found_any : (near far : ℕ) (pointed whole : Bool) (s : Structure) → (whole ≡ true → s.number < near) → s.number < far
    → TypeFits (reach pointed near far) far (struct_type (if whole || pointed then Some s else None)).layers (struct_type (if whole || pointed then Some s else None)).core
found_any near far true true s here there = less_is s.number far there
found_any near far true false s here there = less_is s.number far there
found_any near far false true s here there = less_is s.number near (here refl)
found_any near far false false s here there = refl

pub found_fits : (near far : ℕ) (pointed : Bool) (o : Option (NamedTag Structure)) → TagFits near far o
    → TypeFits (reach pointed near far) far (struct_type (found pointed o)).layers (struct_type (found pointed o)).core
found_fits near far true None h = refl
found_fits near far false None h = refl
found_fits near far pointed (Some t) h = found_any near far pointed t.whole t.known h.0 h.1

-- ---- declarators and fields

abbrev pub AllTyped : ℕ → ℕ → List Declared → Type 0
AllTyped near far [] = Unit {0}
AllTyped near far (d ∷ ds) = TypeFits near far d.ty.layers d.ty.core × AllTyped near far ds

abbrev pub AllFields : ℕ → ℕ → List Field → Type 0
AllFields near far [] = Unit {0}
AllFields near far (f ∷ fs) = AllTyped near far f.declared × AllFields near far fs

pub typed_more : (near more far : ℕ) → near ≤ more → (ds : List Declared) → AllTyped near far ds → AllTyped more far ds
typed_more near more far le [] h = tt
typed_more near more far le (d ∷ ds) h = (fits_more near more far le (type_form d.ty) h.0, typed_more near more far le ds h.1)

pub fields_more : (near more far : ℕ) → near ≤ more → (fs : List Field) → AllFields near far fs → AllFields more far fs
fields_more near more far le [] h = tt
fields_more near more far le (f ∷ fs) h = (typed_more near more far le f.declared h.0, fields_more near more far le fs h.1)

and_no : (b : Bool) → (b && false) ≡ false
and_no true = refl
and_no false = refl

-- a spec with a declarator by value stands behind no pointer
pub pointed_not : (ds : List Dtor) → list_any (λ d. d.stars == 0) ds ≡ true → all_pointed ds ≡ false
pointed_not ds e = ap (λ (b : Bool). not (length ds == 0) && not b) e ∙ and_no (not (length ds == 0))

or_left : (a b : Bool) → a ≡ true → (a || b) ≡ true
or_left true b e = refl
or_left false b e = absurd cc

or_right : (a b : Bool) → b ≡ true → (a || b) ≡ true
or_right true b e = refl
or_right false b e = e

pub each_typed : (near far : ℕ) (p : Past) (handle : Bool) (kind : ℕ) (m : Manner) (t : DataType) (ds : List Dtor) → (list_any (λ d. d.stars == 0) ds ≡ true → TypeFits near far t.layers t.core) → TypeFits far far t.layers t.core
    → AllTyped near far (each_declared p handle kind m t ds)
each_typed near far p handle kind m t [] here there = tt
each_typed near far p handle kind m t (d ∷ ds) here there = (
  declared_fits near far handle kind m d.stars _ t (λ h. here (or_left (d.stars == 0) (list_any (λ x. x.stars == 0) ds) h)) there,
  each_typed near far p handle (kind + 1) m t ds (λ h. here (or_right (d.stars == 0) (list_any (λ x. x.stars == 0) ds) h)) there,
)

forms_fit : (near far : ℕ) (t : Terms) (ds : List Declared) → AllTyped near far ds → AllFit near far (map (declared_form t) ds)
forms_fit near far t [] h = tt
forms_fit near far t (d ∷ ds) h = (shape_fits near far t d.extent d.ty.layers d.ty.core h.0, forms_fit near far t ds h.1)

pub members_fit : (near far : ℕ) (names : List Ident) (fs : List Field) → AllFields near far fs → AllFit near far (flat_map (field_forms names) fs)
members_fit near far names [] h = tt
members_fit near far names (f ∷ fs) h =
    all_join near far (field_forms names f) (flat_map (field_forms names) fs) (forms_fit near far (terms f.place names f.attributes) f.declared h.0) (members_fit near far names fs h.1)

pub faces_fit : (near far : ℕ) (names : List Ident) (fs : List Field) → AllFields near far fs → FacesFit near far (map (face names) fs)
faces_fit near far names [] h = tt
faces_fit near far names (f ∷ fs) h =
    (held_fits near far (field_forms names f) (forms_fit near far (terms f.place names f.attributes) f.declared h.0), faces_fit near far names fs h.1)
