-- Each name of an interface that keeps the rules stands for something where its outline reads it.
use Rattle.std.proofs.Common.{◌≡◌, ℕ, ◌+◌, List, [], ◌∷◌, ◌++◌, Bool, true, false, Option, None, Some, refl, ap, sym, ◌∙◌}
use Rattle.std.specs.Prelude.{◌||◌, ◌&&◌, is_some, is_none, bytes_eq}
use Rattle.std.specs.List.{list_any, flat_map}
use Rattle.std.proofs.lemmas.List.Folds.{list_any-append}
use Rattle.idl_tree.specs.declared.leaf.Ident.{Ident}
use Rattle.idl_tree.specs.declared.leaf.Num.{Num}
use Rattle.idl_tree.specs.declared.leaf.Pk.{Pk}
use Rattle.idl_tree.specs.declared.leaf.ArraySize.{ArraySize}
use Rattle.idl_tree.specs.declared.leaf.ArraySize.TheVariants as sizes
use Rattle.idl_tree.specs.declared.leaf.Dtor.{Dtor}
use Rattle.idl_tree.specs.declared.spec.Label.{Label as LabelNode}
use Rattle.idl_tree.specs.declared.spec.LabelKind.{LabelKind}
use Rattle.idl_tree.specs.declared.spec.LabelKind.TheVariants as label_kinds
use Rattle.idl_names.specs.declared.place.Place.{Place}
use Rattle.idl_names.specs.declared.place.Place.TheVariants as places
use Rattle.idl_names.specs.Attributes.{says, says_handle}
use Rattle.idl_names.specs.Symbols.{ByName}
use Rattle.idl_outline.specs.declared.ty.DataType.{DataType}
use Rattle.idl_outline.specs.declared.manner.Manner.{Manner}
use Rattle.idl_outline.specs.declared.field.NameRef.{NameRef}
use Rattle.idl_outline.specs.declared.field.Field.{Field}
use Rattle.idl_outline.specs.declared.event.Tag.{Tag}
use Rattle.idl_outline.specs.declared.event.Label.{Label}
use Rattle.idl_outline.specs.declared.event.Event.{Event}
use Rattle.idl_outline.specs.declared.event.Event.TheVariants as events
use Rattle.idl_outline.specs.declared.setting.Setting.{Setting}
use Rattle.idl_forms.specs.Forms as idl
use Rattle.idl_outline.specs.Names.{Past, bodies, kinds, constants_of, type_named, constant_named, tag_named, is_typedef, tag_given, manner_of, each_declared}
use Rattle.idl_outline.specs.Within.{members_within}
use Rattle.idl_outline.specs.Parts.{setting_at, alone, size_past, sizes_past, label_past, labels_past, tag_used_past, other_tag_past, struct_past, struct_end, with_labels}
use Rattle.idl_outline.specs.Holding.{tag_holds}
use Rattle.idl_outline.specs.Specs.{attributes, spec_past, spec_type, switch_past, switch_tag, attr_past, attrs_past, member_past, members_past, member_field, member_fields, arm_past, arms_past, arm_field, arm_fields, arm_labels}
use Rattle.idl_rules.specs.declared.asked.Asked.{Asked}
use Rattle.idl_rules.specs.Places.{at_if, gathered}
use Rattle.idl_rules.specs.Unknown.{unknown}
use Rattle.idl_rules.specs.BadAttribute as bad
use Rattle.idl_rules.specs.SizeName as size
use Rattle.marshal_table.specs.Stands.{dtor_names, names_of, member_names, arm_dtors, arm_names, tag_stands, label_stands, labels_stand, is_among, counts_stand, dtors_stand, spec_stands, switch_stands, mark_stands, attr_stands, attrs_stand, member_stands, members_stand, arm_stands, arms_stand}
use Rattle.marshal_table.proofs.Quiet.{Behind, back, sizes_quiet, labels_quiet, spec_quiet, attrs_quiet, member_quiet, members_quiet, arms_quiet}
use Rattle.marshal_table.proofs.Nothing.{nil_left, nil_right}
use Rattle.marshal_table.proofs.Found.{both, first_of_both, any_more, most_said, string_said, Offered, counts_found, is_constant, are_constants, dtors_found}

-- ---- no event of a past breaks the rules on unknown names, attributes and sizes

pub record Kept (p : Past) : Type 0 where
  pub unknown : gathered unknown p ≡ []
  pub attributes : gathered bad.bad_attribute p ≡ []
  pub sizes : gathered size.size_name p ≡ []

pub kept_tail : (e : Event) (p : Past) → Kept (e ∷ p) → Kept p
kept_tail e p h =
    record {
      unknown = nil_right (unknown p e) (gathered unknown p) h.unknown;
      attributes = nil_right (bad.bad_attribute p e) (gathered bad.bad_attribute p) h.attributes;
      sizes = nil_right (size.size_name p e) (gathered size.size_name p) h.sizes;
    }

pub kept_before : (p q : Past) → Behind p q → Kept q → Kept p
kept_before p q a h = back Kept kept_tail p q a h

-- ---- names

known_there : {X : Type 0} (o : Option X) (at : ℕ) (xs : List ℕ) → at_if (is_none o) at ++ xs ≡ [] → is_some o ≡ true
known_there None at xs e = absurd cc
known_there (Some x) at xs e = refl

or_first : (a b : Bool) → a ≡ true → (a || b) ≡ true
or_first true b e = refl
or_first false b e = absurd cc

or_last : (a b : Bool) → b ≡ true → (a || b) ≡ true
or_last true b e = refl
or_last false b e = e

alone_true : (b : Bool) → (b || false) ≡ true → b ≡ true
alone_true true e = refl
alone_true false e = absurd cc

label_found : (l : LabelKind) (p : Past) → Kept (label_past l p) → label_stands (constants_of p) l ≡ true
label_found (label_kinds.Number n) p c = refl
label_found (label_kinds.Named i) p c = known_there (constant_named i.text p) i.at (gathered unknown p) c.unknown
label_found label_kinds.Default p c = refl

-- using a constant declares none
label_same : (l : LabelKind) (p : Past) → constants_of (label_past l p) ≡ constants_of p
label_same (label_kinds.Number n) p = refl
label_same (label_kinds.Named i) p = refl
label_same label_kinds.Default p = refl

labels_found : (ls : List LabelNode) (p : Past) → Kept (labels_past ls p) → labels_stand (constants_of p) ls ≡ true
labels_found [] p c = refl
labels_found (l ∷ ls) p c =
    both (label_stands (constants_of p) l.what) (labels_stand (constants_of p) ls)
    (label_found l.what p (kept_before (label_past l.what p) (labels_past ls (label_past l.what p)) (labels_quiet ls (label_past l.what p)).behind c))
    (sym (ap (λ (k : ByName Num). labels_stand k ls) (label_same l.what p)) ∙ labels_found ls (label_past l.what p) c)

size_found : (o : Option ArraySize) (p : Past) → Kept (size_past o p) → is_constant (constants_of p) o ≡ true
size_found None p c = refl
size_found (Some sizes.Empty) p c = refl
size_found (Some sizes.Star) p c = refl
size_found (Some (sizes.Number n)) p c = refl
size_found (Some (sizes.Named i)) p c = known_there (constant_named i.text p) i.at (gathered unknown p) c.unknown

size_same : (o : Option ArraySize) (p : Past) → constants_of (size_past o p) ≡ constants_of p
size_same None p = refl
size_same (Some sizes.Empty) p = refl
size_same (Some sizes.Star) p = refl
size_same (Some (sizes.Number n)) p = refl
size_same (Some (sizes.Named i)) p = refl

sizes_found : (ds : List Dtor) (p : Past) → Kept (sizes_past ds p) → are_constants (constants_of p) ds ≡ true
sizes_found [] p c = refl
sizes_found (d ∷ ds) p c =
    both (is_constant (constants_of p) d.array) (are_constants (constants_of p) ds)
    (size_found d.array p (kept_before (size_past d.array p) (sizes_past ds (size_past d.array p)) (sizes_quiet ds (size_past d.array p)).behind c))
    (sym (ap (λ (k : ByName Num). are_constants k ds) (size_same d.array p)) ∙ sizes_found ds (size_past d.array p) c)

-- ---- what a list of fields offers

-- a declarator of the list has the name
abbrev pub names_it : NameRef → Field → Bool
names_it n g = list_any (λ d. bytes_eq d.name.text n.name.text) g.declared

pub offer_names : (asked : Asked) (f : Field) (n : NameRef) (g : Field) → size.offers asked f n g ≡ true → names_it n g ≡ true
offer_names asked f n g e =
    any_more (size.is_it asked n g) (λ d. bytes_eq d.name.text n.name.text) g.declared (λ d. first_of_both (bytes_eq d.name.text n.name.text) _) (first_of_both (list_any (size.is_it asked n g) g.declared) _ e)

pub offered_by : (list : List Field) (f : Field) (names : List Ident) → ((n : NameRef) → list_any (names_it n) list ≡ true → is_among names n.name ≡ true) → Offered list f names
offered_by list f names h asked n e = h n (any_more (size.offers asked f n) (names_it n) list (offer_names asked f n) e)

declared_among : (past : Past) (handle : Bool) (kind : ℕ) (m : Manner) (t : DataType) (ds : List Dtor) (n : NameRef)
    → list_any (λ d. bytes_eq d.name.text n.name.text) (each_declared past handle kind m t ds) ≡ is_among (dtor_names ds) n.name
declared_among past handle kind m t [] n = refl
declared_among past handle kind m t (d ∷ ds) n = ap {B = Bool} (λ (b : Bool). bytes_eq d.name.text n.name.text || b) (declared_among past handle (kind + 1) m t ds n)

pub field_among : (k : Pk) (place : Place) (m : idl.MemberForm) (p : Past) (n : NameRef) → names_it n (member_field k place m p) ≡ is_among (names_of m) n.name
field_among k place (idl.a_member as' s ds) p n =
    let r : Past = attrs_past k as' p in
    let g : Setting = setting_at k place as' ds (tag_given (attributes k as' p)) in
    declared_among (spec_past g s r) (is_typedef place && says says_handle as') (kinds (spec_past g s r)) (manner_of k place as') (spec_type g s r) ds n

among_append : (xs ys : List Ident) (i : Ident) → is_among (xs ++ ys) i ≡ (is_among xs i || is_among ys i)
among_append xs ys i = list_any-append (λ x. bytes_eq x.text i.text) xs ys

members_among : (k : Pk) (ms : idl.MemberForms) (p : Past) (n : NameRef) → list_any (names_it n) (member_fields k ms p) ≡ is_among (member_names ms) n.name
members_among k idl.no_member p n = refl
members_among k (idl.then_member m ms) p n =
    (λ j. field_among k places.Member m p n j || members_among k ms (member_past k places.Member m p) n j) ∙ sym (among_append (names_of m) (member_names ms) n.name)

-- one of an arm's names is one of all arms'
pub left_among : (xs ys : List Ident) (i : Ident) → is_among xs i ≡ true → is_among (xs ++ ys) i ≡ true
left_among xs ys i e = among_append xs ys i ∙ or_first (is_among xs i) (is_among ys i) e

pub right_among : (xs ys : List Ident) (i : Ident) → is_among ys i ≡ true → is_among (xs ++ ys) i ≡ true
right_among xs ys i e = among_append xs ys i ∙ or_last (is_among xs i) (is_among ys i) e

-- ---- a field that breaks no rule; list: where its attributes find names; more: another field follows it

pub record Fits (list : List Field) (more : Bool) (f : Field) : Type 0 where
  pub attributes : flat_map (bad.attribute_places f) f.attributes ≡ []
  pub declared : bad.each_declared f more f.declared ≡ []
  pub sizes : flat_map (size.attribute_places list f) f.attributes ≡ []

pub fits : (list : List Field) (more : Bool) (f : Field) → bad.field_places f more ≡ [] → size.field_places list f ≡ [] → Fits list more f
fits list more f a s =
    let behind = nil_right _ (flat_map (bad.attribute_places f) f.attributes ++ bad.each_declared f more f.declared) a in
    record {
      attributes = nil_left (flat_map (bad.attribute_places f) f.attributes) (bad.each_declared f more f.declared) behind;
      declared = nil_right (flat_map (bad.attribute_places f) f.attributes) (bad.each_declared f more f.declared) behind;
      sizes = s;
    }

-- the fields of a list break no rule
pub record AllFit (list fs : List Field) : Type 0 where
  pub attributes : bad.each_field fs ≡ []
  pub sizes : flat_map (size.listed_places list) fs ≡ []

pub first_fits : (list : List Field) (f : Field) (fs : List Field) → AllFit list (f ∷ fs) → Fits (size.list_for list f) (bad.is_more fs) f
first_fits list f fs h =
    fits (size.list_for list f) (bad.is_more fs) f (nil_left (bad.field_places f (bad.is_more fs)) (bad.each_field fs) h.attributes)
    (nil_left (size.listed_places list f) (flat_map (size.listed_places list) fs) h.sizes)

pub others_fit : (list : List Field) (f : Field) (fs : List Field) → AllFit list (f ∷ fs) → AllFit list fs
others_fit list f fs h =
    record {
      attributes = nil_right (bad.field_places f (bad.is_more fs)) (bad.each_field fs) h.attributes;
      sizes = nil_right (size.listed_places list f) (flat_map (size.listed_places list) fs) h.sizes;
    }

member_fits : (default : Pk) (list : List Field) (m : idl.MemberForm) (rest : List Field) (p : Past) → AllFit list (member_field default places.Member m p ∷ rest) → Fits list (bad.is_more rest) (member_field default places.Member m p)
member_fits default list (idl.a_member as' s ds) rest p h = first_fits list (member_field default places.Member (idl.a_member as' s ds) p) rest h

-- labels are asked by none of these rules
arm_fits : (default : Pk) (list : List Field) (ls : List Label) (m : idl.MemberForm) (rest : List Field) (p : Past) → AllFit list (with_labels ls (member_field default places.Arm m p) ∷ rest)
    → Fits (member_field default places.Arm m p ∷ []) (bad.is_more rest) (member_field default places.Arm m p)
arm_fits default list ls (idl.a_member as' s ds) rest p h =
    let f = first_fits list (with_labels ls (member_field default places.Arm (idl.a_member as' s ds) p)) rest h in
    record { attributes = f.attributes; declared = f.declared; sizes = f.sizes }

pub body_fits : (tag : Option Tag) (fs : List Field) (p : Past) → Kept (events.Body tag fs ∷ p) → AllFit fs fs
body_fits tag fs p c =
    record { attributes = nil_left (bad.each_field fs) (gathered bad.bad_attribute p) c.attributes; sizes = nil_left (flat_map (size.listed_places fs) fs) (gathered size.size_name p) c.sizes }

-- a structure's body, and what is known of it at its end
pub ended_kept : (tag : Option Ident) (fs : List Field) (p : Past) → Kept (struct_end tag fs p) → Kept (events.Body None fs ∷ p)
ended_kept None fs p c = c
ended_kept (Some i) fs p c = kept_tail (events.StructEnds i _ _) (events.Body None fs ∷ p) c

-- ---- specs, attributes and what they hold

used_stands : (g : Setting) (tag : Option Ident) (p : Past) → Kept (tag_used_past g tag p) → tag_stands g.pointed tag p ≡ true
used_stands g None p c = refl
used_stands g (Some i) p c = known_there (tag_named g.pointed i.text p) i.at (gathered unknown p) c.unknown

mutual
  spec_stand : (g : Setting) (s : idl.SpecForm) (p : Past) → Kept (spec_past g s p) → spec_stands g s p ≡ true
  spec_stand g (idl.a_spec at (idl.OfName i)) p c = known_there (type_named i.text p) i.at (gathered unknown p) c.unknown
  spec_stand g (idl.a_spec at (idl.OfTag tag)) p c = used_stands g tag p c
  spec_stand g (idl.a_spec at (idl.OfStruct tag ms)) p c =
      let r : Past = struct_past tag (tag_holds tag ms) (bodies p + members_within ms) p in
      let fs : List Field = member_fields g.default ms r in
      let body = ended_kept tag fs (members_past g.default ms r) c in
      members_stand_all g.default fs (member_names ms) ms r (kept_tail (events.Body None fs) (members_past g.default ms r) body)
      (λ n e. sym (members_among g.default ms r n) ∙ e) (body_fits None fs (members_past g.default ms r) body)
  spec_stand g (idl.a_spec at (idl.OfUnion tag s arms)) p c =
      let before : Past = other_tag_past tag p in
      let r : Past = switch_past g s before in
      let fs : List Field = arm_fields g.default arms r in
      let tag_is : Option Tag = Some (switch_tag g s before) in
      let body = kept_tail (events.Union (switch_tag g s before) (arm_labels g.default arms r)) (events.Body tag_is fs ∷ arms_past g.default arms r) c in
      let inside = kept_tail (events.Body tag_is fs) (arms_past g.default arms r) body in
      both (switch_stands g s before) (arms_stand g.default (arm_names arms) arms r)
      (switch_stand g s before (kept_before r (arms_past g.default arms r) (arms_quiet g.default arms r).behind inside))
      (arms_stand_all g.default fs (arm_names arms) arms r inside (λ i e. e) (body_fits tag_is fs (arms_past g.default arms r) body))
  spec_stand g (idl.a_spec at _) p c = refl

  switch_stand : (g : Setting) (s : idl.SwitchForm) (p : Past) → Kept (switch_past g s p) → switch_stands g s p ≡ true
  switch_stand g idl.no_switch p c = refl
  switch_stand g (idl.a_switch s i body) p c = spec_stand (alone g.default) s p (kept_tail (events.Single _) (spec_past (alone g.default) s p) c)

  mark_stand : (default : Pk) (m : idl.AttrKindForm) (p : Past) → Kept (attr_past default (idl.an_attr 0 m) p) → mark_stands default m p ≡ true
  mark_stand default (idl.OfSwitchType s) p c = spec_stand (alone default) s p c
  mark_stand default _ p c = refl

  attr_stand : (default : Pk) (a : idl.AttrForm) (p : Past) → Kept (attr_past default a p) → attr_stands default a p ≡ true
  attr_stand default (idl.an_attr at m) p c = mark_stand default m p c

  attrs_stand_all : (default : Pk) (as' : idl.AttrForms) (p : Past) → Kept (attrs_past default as' p) → attrs_stand default as' p ≡ true
  attrs_stand_all default idl.no_attr p c = refl
  attrs_stand_all default (idl.then_attr a rest) p c =
      let r : Past = attr_past default a p in
      both (attr_stands default a p) (attrs_stand default rest r)
      (attr_stand default a p (kept_before r (attrs_past default rest r) (attrs_quiet default rest r).behind c))
      (attrs_stand_all default rest r c)

  pub member_stand : (default : Pk) (place : Place) (list : List Field) (more : Bool) (names : List Ident) (m : idl.MemberForm) (p : Past) → Kept (member_past default place m p)
      → Offered list (member_field default place m p) names → Fits list more (member_field default place m p) → member_stands default place names m p ≡ true
  member_stand default place list more names (idl.a_member as' s ds) p c o f =
      let r : Past = attrs_past default as' p in
      let g : Setting = setting_at default place as' ds (tag_given (attributes default as' p)) in
      let z : Past = spec_past g s r in
      let of_spec = kept_before z (sizes_past ds z) (sizes_quiet ds z).behind c in
      let of_attrs = kept_before r z (spec_quiet g s r).behind of_spec in
      let field : Field = member_field default place (idl.a_member as' s ds) p in
      both (attrs_stand default as' p) _ (attrs_stand_all default as' p of_attrs)
      (both (spec_stands g s r) _ (spec_stand g s r of_spec)
      (both (counts_stand names as') (dtors_stand (constants_of z) as' ds) (counts_found default list field names as' p o f.sizes)
      (dtors_found field as' more z (is_typedef place && says says_handle as') (kinds z) (manner_of default place as') (spec_type g s r) (constants_of z) ds (most_said default as' p, string_said default as' p) f.declared
      (sizes_found ds z c))))

  members_stand_all : (default : Pk) (list : List Field) (names : List Ident) (ms : idl.MemberForms) (p : Past) → Kept (members_past default ms p)
      → ((n : NameRef) → list_any (names_it n) list ≡ true → is_among names n.name ≡ true) → AllFit list (member_fields default ms p) → members_stand default names ms p ≡ true
  members_stand_all default list names idl.no_member p c o f = refl
  members_stand_all default list names (idl.then_member m ms) p c o f =
      let r : Past = member_past default places.Member m p in
      let field : Field = member_field default places.Member m p in
      let rest : List Field = member_fields default ms r in
      both (member_stands default places.Member names m p) (members_stand default names ms r)
      (member_stand default places.Member list (bad.is_more rest) names m p (kept_before r (members_past default ms r) (members_quiet default ms r).behind c) (offered_by list field names o) (member_fits default list m rest p f))
      (members_stand_all default list names ms r c o (others_fit list field rest f))

  -- the names of an arm's declarators are among all the arms'
  arm_stand : (default : Pk) (list rest : List Field) (names : List Ident) (a : idl.ArmForm) (p : Past) → Kept (arm_past default a p)
      → ((i : Ident) → is_among (arm_dtors a) i ≡ true → is_among names i ≡ true) → AllFit list (arm_field default a p ∷ rest) → arm_stands default names a p ≡ true
  arm_stand default list rest names (idl.member_arm ls m) p c o f =
      let r : Past = labels_past ls p in
      let field : Field = member_field default places.Arm m r in
      both (labels_stand (constants_of p) ls) (member_stands default places.Arm names m r)
      (labels_found ls p (kept_before r (member_past default places.Arm m r) (member_quiet default places.Arm m r).behind c))
      (member_stand default places.Arm (field ∷ []) (bad.is_more rest) names m r c
      (offered_by (field ∷ []) field names (λ n e. o n.name (sym (field_among default places.Arm m r n) ∙ alone_true (names_it n field) e))) (arm_fits default list _ m rest r f))
  arm_stand default list rest names (idl.empty_arm ls) p c o f = labels_found ls p c

  arms_stand_all : (default : Pk) (list : List Field) (names : List Ident) (as' : idl.ArmForms) (p : Past) → Kept (arms_past default as' p)
      → ((i : Ident) → is_among (arm_names as') i ≡ true → is_among names i ≡ true) → AllFit list (arm_fields default as' p) → arms_stand default names as' p ≡ true
  arms_stand_all default list names idl.no_arm p c o f = refl
  arms_stand_all default list names (idl.then_arm a rest) p c o f =
      let r : Past = arm_past default a p in
      let others : List Field = arm_fields default rest r in
      both (arm_stands default names a p) (arms_stand default names rest r)
      (arm_stand default list others names a p (kept_before r (arms_past default rest r) (arms_quiet default rest r).behind c) (λ i e. o i (left_among (arm_dtors a) (arm_names rest) i e)) f)
      (arms_stand_all default list names rest r c (λ i e. o i (right_among (arm_dtors a) (arm_names rest) i e)) (others_fit list (arm_field default a p) others f))
