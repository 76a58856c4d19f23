-- What the outline of an interface gives is a table.
use Rattle.std.proofs.Common.{◌≡◌, ℕ, ◌+◌, ◌<◌, ◌≤◌, List, [], ◌∷◌, map, length, refl, ap, subst, sym, ◌∙◌, arith, Bool, true, false, Option, None, Some}
use Rattle.std.specs.Prelude.{◌&&◌, nat_le, nat_lt, is_none, if◌then◌else◌}
use Rattle.std.specs.List.{list_all, flat_map}
use Rattle.idl_tree.specs.declared.leaf.Ident.{Ident}
use Rattle.idl_tree.specs.declared.leaf.Pk.{Pk}
use Rattle.idl_names.specs.declared.place.Place.{Place}
use Rattle.idl_names.specs.declared.place.Place.TheVariants as places
use Rattle.idl_names.specs.Declarators.{all_pointed}
use Rattle.idl_names.specs.Attributes.{pointer_default, says, says_handle}
use Rattle.idl_names.specs.Members.{lone_member, result_member, param_member}
use Rattle.idl_forms.specs.Forms as idl
use Rattle.idl_outline.specs.declared.ty.DataType.{DataType}
use Rattle.idl_outline.specs.declared.ty.Core.{Core}
use Rattle.idl_outline.specs.declared.ty.Core.TheVariants as cores
use Rattle.idl_outline.specs.declared.ty.Layer.{Layer}
use Rattle.idl_outline.specs.declared.field.Declared.{Declared}
use Rattle.idl_outline.specs.declared.field.Field.{Field}
use Rattle.idl_outline.specs.declared.event.Tag.{Tag}
use Rattle.idl_outline.specs.declared.event.Label.{Label}
use Rattle.idl_outline.specs.declared.event.Event.{Event}
use Rattle.idl_outline.specs.declared.event.Event.TheVariants as events
use Rattle.idl_outline.specs.declared.setting.Setting.{Setting}
use Rattle.idl_outline.specs.Names.{Past, bodies, kinds, symbols_of, type_named, is_typedef, tag_of, first_tag, tag_given, or_missing, manner_of}
use Rattle.idl_outline.specs.Types.{outer, of_tag, or_unknown}
use Rattle.idl_outline.specs.Within.{within, kind_within, switch_within, mark_within, attr_within, attrs_within, member_within, members_within, arm_within, arms_within}
use Rattle.idl_outline.specs.Holding.{tag_holds}
use Rattle.idl_outline.specs.Parts.{setting_at, alone, sizes_past, labels_past, tag_used_past, tag_used_type, other_tag_past, struct_past, struct_end, field_of, bare_spec}
use Rattle.idl_outline.specs.Specs.{attributes, mark_of, mark_past, attribute, spec_past, spec_type, kind_past, kind_type, switch_past, switch_tag, attr_past, attrs_past, member_past, members_past, member_field, member_fields, arm_past, arms_past, arm_field, arm_fields, arm_labels}
use Rattle.std.specs.Option.{option_or}
use Rattle.idl_outline.specs.Outline.{types_past, own_past, params_past, param_fields, op_past, decl_past, decls_past, outline}
use Rattle.ndr_value.specs.Forms.{Form}
use Rattle.ndr_table.specs.declared.operation.HandleUse.{HandleUse}
use Rattle.ndr_table.specs.Tables.{ParamForm, OpForm, IsTable, param_below, result_below, op_below}
use Rattle.ndr_table.specs.Ordered.{is_below, ordered_from}
use Rattle.marshal_table.specs.Shapes.{nothing, core_form, layered, terms}
use Rattle.marshal_table.specs.Bodies.{names_of, tag_type_form, tag_form, type_in}
use Rattle.marshal_table.specs.Interfaces.{is_listed, one_param, params_listed, names_listed, params_of, core_result, op_of, op_in, uses_in, collected}
use Rattle.marshal_table.proofs.Collecting.{each_has_uses}
use Rattle.marshal_table.proofs.Fitting.{and_of, TypeFits, fits_more, less_is, shape_fits, row_fits, arm_row_fits}
use Rattle.marshal_table.proofs.Sounds.{NamedFits, TagFits as NameTagFits, Sound, Goes, stays, then_goes, plain, body_goes, typedef_goes, tag_goes, still, same_types, types_count, all_true_join}
use Rattle.marshal_table.proofs.Walked.{sizes_go, labels_go, void_goes, other_goes, names_go, reach, reach_fits, reach_far, reach_near, pointed_not, base_fits, named_fits, found_fits, AllTyped, AllFields, typed_more, each_typed, members_fit, faces_fit}

-- what gives a union its tag fits
abbrev TagFits : ℕ → ℕ → Tag → Type 0
TagFits near far t = is_below near far (tag_form t) ≡ true

-- a type by value is its core
tag_value : (near far : ℕ) (b : Bool) (c : Core) → is_below near far (core_form None c) ≡ true → is_below near far (if b then core_form None c else nothing) ≡ true
tag_value near far true c h = h
tag_value near far false c h = refl

by_layers : (near far : ℕ) (ls : List Layer) (c : Core) → TypeFits near far ls c → is_below near far (tag_type_form (of_tag (record { core = c; layers = ls }))) ≡ true
by_layers near far [] c h = tag_value near far (is_none (outer (record { core = c; layers = [] }))) c h
by_layers near far (l ∷ ls) c h = refl

by_value : (near far : ℕ) (t : DataType) → TypeFits near far t.layers t.core → is_below near far (tag_type_form (of_tag t)) ≡ true
by_value near far t h = by_layers near far t.layers t.core h

tag_more : (near more far : ℕ) → near ≤ more → (t : Tag) → TagFits near far t → TagFits more far t
tag_more near more far le t h = fits_more near more far le (tag_form t) h

-- ---- structures and unions

begun_goes : (far : ℕ) (tag : Option Ident) (itself : Bool) (number : ℕ) (p : Past) → Sound far p → number < far → Goes far 0 p (struct_past tag itself number p)
begun_goes far None itself number p ok room = stays far p ok
begun_goes far (Some i) itself number p ok room =
    tag_goes far (events.StructBegins i itself number) i false (record { ends_open = false; number = number }) p refl refl refl (λ name. refl) (λ name. refl) ok (λ w. absurd cc) room

ended_goes : (far : ℕ) (tag : Option Ident) (fs : List Field) (p : Past) → Sound far p → bodies p + 1 ≤ far → AllFields (bodies p) far fs → Goes far 1 p (struct_end tag fs p)
ended_goes far None fs p ok room h = body_goes far None fs p ok room (row_fits (bodies p) far _ (members_fit (bodies p) far (names_of fs) fs h))
ended_goes far (Some i) fs p ok room h =
    let a = body_goes far None fs p ok room (row_fits (bodies p) far _ (members_fit (bodies p) far (names_of fs) fs h)) in
    let q : Past = events.Body None fs ∷ p in
    let count = a.count in
    let b = tag_goes far (events.StructEnds i _ (bodies p)) i true (record { ends_open = _; number = bodies p }) q refl refl refl (λ name. refl) (λ name. refl) a.sound (λ w. omega (arith, count)) (omega (arith, room)) in
    then_goes far 1 0 p q (struct_end (Some i) fs p) a b

union_goes : (far : ℕ) (t : Tag) (ls : List Label) (fs : List Field) (p : Past) → Sound far p → bodies p + 1 ≤ far → TagFits (bodies p) far t → AllFields (bodies p) far fs
    → Goes far 1 p (events.Union t ls ∷ events.Body (Some t) fs ∷ p)
union_goes far t ls fs p ok room f h =
    let a = body_goes far (Some t) fs p ok room (and_of (is_below (bodies p) far (tag_form t)) _ f (arm_row_fits (bodies p) far _ (faces_fit (bodies p) far (names_of fs) fs h))) in
    let q : Past = events.Body (Some t) fs ∷ p in
    then_goes far 1 0 p q (events.Union t ls ∷ q) a (plain far (events.Union t ls) q refl refl refl (λ name. refl) (λ name. refl) a.sound)

-- ---- specs

-- a part adds so many bodies, and its type fits
abbrev SpecGoes : ℕ → ℕ → Bool → Past → Past → DataType → Type 0
SpecGoes far n pointed p q t = Goes far n p q × TypeFits (reach pointed (bodies q) far) far t.layers t.core

number_fits : (b : Bool) (near far n : ℕ) → n < near → n < far → nat_lt n (reach b near far) ≡ true
number_fits true near far n here there = less_is n far there
number_fits false near far n here there = less_is n near here

used_goes : (far : ℕ) (g : Setting) (tag : Option Ident) (p : Past) → Sound far p → SpecGoes far 0 g.pointed p (tag_used_past g tag p) (tag_used_type g tag p)
used_goes far g None p ok = (stays far p ok, nothing_fits g.pointed (bodies p) far)
  where
    nothing_fits : (b : Bool) (near far : ℕ) → TypeFits (reach b near far) far [] cores.Unknown
    nothing_fits true near far = refl
    nothing_fits false near far = refl
used_goes far g (Some i) p ok =
    let e : Event = events.TagUsed i g.pointed in
    let a = plain far e p refl refl refl (λ name. refl) (λ name. refl) ok in
    (a, found_fits (bodies (e ∷ p)) far g.pointed ((symbols_of p).tags i.text) (a.sound.tags i.text))

first_or : (near far : ℕ) (a b : Option Tag) → TagFits near far (or_missing a) → TagFits near far (or_missing b) → TagFits near far (or_missing (option_or a b))
first_or near far None b h k = k
first_or near far (Some t) b h k = h

-- a switch's spec is a field that declares nothing
abbrev switch_field : Setting → idl.SpecForm → Past → Field
switch_field g s p = field_of g.default places.Alone idl.no_attr [] (spec_type (alone g.default) s p) (bare_spec s) [] (spec_past (alone g.default) s p)

mutual
  spec_goes : (far : ℕ) (g : Setting) (s : idl.SpecForm) (p : Past) → Sound far p → bodies p + within s ≤ far → TagFits (bodies p) far g.given → SpecGoes far (within s) g.pointed p (spec_past g s p) (spec_type g s p)
  spec_goes far g (idl.a_spec at k) p ok room f = kind_goes far g at k p ok room f

  kind_goes : (far : ℕ) (g : Setting) (at : ℕ) (k : idl.KindForm) (p : Past) → Sound far p → bodies p + kind_within k ≤ far → TagFits (bodies p) far g.given → SpecGoes far (kind_within k) g.pointed p (kind_past g at k p) (kind_type g at k p)
  kind_goes far g at (idl.OfBase b) p ok room f = (stays far p ok, base_fits (reach g.pointed (bodies p) far) far b)
  kind_goes far g at (idl.OfName i) p ok room f =
      let e : Event = events.TypeUsed i in
      let a = plain far e p refl refl refl (λ name. refl) (λ name. refl) ok in
      let few = a.sound.few in
      (a, reach_fits g.pointed (bodies (e ∷ p)) far few (or_unknown (type_named i.text p)) (named_fits (bodies (e ∷ p)) far (type_named i.text p) (a.sound.named i.text)))
  kind_goes far g at idl.OfVoid p ok room f = (void_goes far g.void_allowed at p ok, refl)
  kind_goes far g at idl.OfHandle p ok room f = (stays far p ok, refl)
  kind_goes far g at idl.OfStatus p ok room f = (stays far p ok, refl)
  kind_goes far g at (idl.OfTag tag) p ok room f = used_goes far g tag p ok
  kind_goes far g at (idl.OfStruct tag ms) p ok room f =
      let number : ℕ = bodies p + members_within ms in
      let r : Past = struct_past tag (tag_holds tag ms) number p in
      let a = begun_goes far tag (tag_holds tag ms) number p ok (omega (arith, room)) in
      let start = a.count in
      let inside = members_go far g.default ms r a.sound (omega (arith, start, room)) in
      let fs : List Field = member_fields g.default ms r in
      let q : Past = members_past g.default ms r in
      let middle = inside.0.count in
      let b = ended_goes far tag fs q inside.0.sound (omega (arith, start, middle, room)) inside.1 in
      let end = b.count in (
        record { count = omega (arith, start, middle, end); sound = b.sound },
        number_fits g.pointed (bodies (struct_end tag fs q)) far (bodies q) (omega (arith, end)) (omega (arith, start, middle, room)),
      )
  kind_goes far g at (idl.OfUnion tag s arms) p ok room f =
      let before : Past = other_tag_past tag p in
      let a = other_goes far tag p ok in
      let start = a.count in
      let t = switch_goes far g s before a.sound (omega (arith, start, room)) (tag_more (bodies p) (bodies before) far (omega (arith, start)) g.given f) in
      let r : Past = switch_past g s before in
      let switched = t.0.count in
      let inside = arms_go far g.default arms r t.0.sound (omega (arith, start, switched, room)) in
      let q : Past = arms_past g.default arms r in
      let middle = inside.0.count in
      let fs : List Field = arm_fields g.default arms r in
      let labels : List Label = arm_labels g.default arms r in
      let b = union_goes far (switch_tag g s before) labels fs q inside.0.sound (omega (arith, start, switched, middle, room)) (tag_more (bodies r) (bodies q) far (omega (arith, middle)) (switch_tag g s before) t.1) inside.1 in
      let end = b.count in (
        record { count = omega (arith, start, switched, middle, end); sound = b.sound },
        number_fits g.pointed (bodies (events.Union (switch_tag g s before) labels ∷ events.Body (Some (switch_tag g s before)) fs ∷ q)) far (bodies q) (omega (arith, end)) (omega (arith, start, switched, middle, room)),
      )
  kind_goes far g at (idl.OfEnum tag names) p ok room f =
      let a = other_goes far tag p ok in
      (then_goes far 0 0 p (other_tag_past tag p) _ a (names_go far 0 names (other_tag_past tag p) a.sound), refl)

  switch_goes : (far : ℕ) (g : Setting) (s : idl.SwitchForm) (p : Past) → Sound far p → bodies p + switch_within s ≤ far → TagFits (bodies p) far g.given
      → Goes far (switch_within s) p (switch_past g s p) × TagFits (bodies (switch_past g s p)) far (switch_tag g s p)
  switch_goes far g idl.no_switch p ok room f = (stays far p ok, f)
  switch_goes far g (idl.a_switch s i body) p ok room f =
      let a = spec_goes far (alone g.default) s p ok room refl in
      let q : Past = spec_past (alone g.default) s p in
      let t : DataType = spec_type (alone g.default) s p in
      let e : Event = events.Single (switch_field g s p) in
      let b = plain far e q refl refl refl (λ name. refl) (λ name. refl) a.0.sound in
      let same = b.count in
      let count = a.0.count in
      (record { count = omega (arith, count, same); sound = b.sound }, fits_more (bodies q) (bodies (e ∷ q)) far (omega (arith, same)) (tag_type_form (of_tag t)) (by_value (bodies q) far t a.1))

  mark_goes : (far : ℕ) (k : Pk) (m : idl.AttrKindForm) (p : Past) → Sound far p → bodies p + mark_within m ≤ far
      → Goes far (mark_within m) p (mark_past k m p) × TagFits (bodies (mark_past k m p)) far (or_missing (tag_of (mark_of k m p)))
  mark_goes far k (idl.OfSwitchType s) p ok room =
      let a = spec_goes far (alone k) s p ok room refl in
      (a.0, by_value (bodies (spec_past (alone k) s p)) far (spec_type (alone k) s p) a.1)
  mark_goes far k idl.OfIn p ok room = (stays far p ok, refl)
  mark_goes far k _ p ok room = (stays far p ok, refl)

  attr_goes : (far : ℕ) (k : Pk) (a : idl.AttrForm) (p : Past) → Sound far p → bodies p + attr_within a ≤ far
      → Goes far (attr_within a) p (attr_past k a p) × TagFits (bodies (attr_past k a p)) far (or_missing (tag_of (attribute k a p).mark))
  attr_goes far k (idl.an_attr at m) p ok room = mark_goes far k m p ok room

  attrs_go : (far : ℕ) (k : Pk) (as' : idl.AttrForms) (p : Past) → Sound far p → bodies p + attrs_within as' ≤ far
      → Goes far (attrs_within as') p (attrs_past k as' p) × TagFits (bodies (attrs_past k as' p)) far (tag_given (attributes k as' p))
  attrs_go far k idl.no_attr p ok room = (stays far p ok, refl)
  attrs_go far k (idl.then_attr a rest) p ok room =
      let first = attr_goes far k a p ok (omega (arith, room)) in
      let r : Past = attr_past k a p in
      let before = first.0.count in
      let others = attrs_go far k rest r first.0.sound (omega (arith, before, room)) in
      let q : Past = attrs_past k rest r in
      let count = others.0.count in (
        record { count = omega (arith, before, count); sound = others.0.sound },
        first_or (bodies q) far (tag_of (attribute k a p).mark) (first_tag (attributes k rest r)) (tag_more (bodies r) (bodies q) far (omega (arith, count)) (or_missing (tag_of (attribute k a p).mark)) first.1) others.1,
      )

  -- and behind pointers the type of its spec fits
  member_goes : (far : ℕ) (k : Pk) (place : Place) (m : idl.MemberForm) (p : Past) → Sound far p → bodies p + member_within m ≤ far
      → Goes far (member_within m) p (member_past k place m p)
      × (AllTyped (bodies (member_past k place m p)) far (member_field k place m p).declared × TypeFits far far (member_field k place m p).spec.layers (member_field k place m p).spec.core)
  member_goes far k place (idl.a_member as' s ds) p ok room =
      let r : Past = attrs_past k as' p in
      let g : Setting = setting_at k place as' ds (tag_given (attributes k as' p)) in
      let z : Past = spec_past g s r in
      let t : DataType = spec_type g s r in
      let q : Past = sizes_past ds z in
      let a = attrs_go far k as' p ok (omega (arith, room)) in
      let before = a.0.count in
      let b = spec_goes far g s r a.0.sound (omega (arith, before, room)) a.1 in
      let middle = b.0.count in
      let few = b.0.sound.few in
      let c = sizes_go far ds z b.0.sound in
      let end = c.count in
      let behind : TypeFits far far t.layers t.core = reach_far (all_pointed ds) (bodies z) far few t b.1 in
      let typed = each_typed (bodies z) far z (is_typedef place && says says_handle as') (kinds z) (manner_of k place as') t ds (λ e. reach_near (all_pointed ds) (bodies z) far t (pointed_not ds e) b.1) behind in
      (record { count = omega (arith, before, middle, end); sound = c.sound }, (typed_more (bodies z) (bodies q) far (omega (arith, end)) (member_field k place (idl.a_member as' s ds) p).declared typed, behind))

  members_go : (far : ℕ) (k : Pk) (ms : idl.MemberForms) (p : Past) → Sound far p → bodies p + members_within ms ≤ far
      → Goes far (members_within ms) p (members_past k ms p) × AllFields (bodies (members_past k ms p)) far (member_fields k ms p)
  members_go far k idl.no_member p ok room = (stays far p ok, tt)
  members_go far k (idl.then_member m ms) p ok room =
      let first = member_goes far k places.Member m p ok (omega (arith, room)) in
      let r : Past = member_past k places.Member m p in
      let before = first.0.count in
      let others = members_go far k ms r first.0.sound (omega (arith, before, room)) in
      let count = others.0.count in
      (record { count = omega (arith, before, count); sound = others.0.sound }, (typed_more (bodies r) (bodies (members_past k ms r)) far (omega (arith, count)) (member_field k places.Member m p).declared first.1.0, others.1))

  arm_goes : (far : ℕ) (k : Pk) (a : idl.ArmForm) (p : Past) → Sound far p → bodies p + arm_within a ≤ far
      → Goes far (arm_within a) p (arm_past k a p) × AllTyped (bodies (arm_past k a p)) far (arm_field k a p).declared
  arm_goes far k (idl.member_arm ls m) p ok room =
      let a = labels_go far ls p ok in
      let r : Past = labels_past ls p in
      let same = a.count in
      let b = member_goes far k places.Arm m r a.sound (omega (arith, same, room)) in
      let count = b.0.count in
      (record { count = omega (arith, same, count); sound = b.0.sound }, b.1.0)
  arm_goes far k (idl.empty_arm ls) p ok room = (labels_go far ls p ok, tt)

  arms_go : (far : ℕ) (k : Pk) (as' : idl.ArmForms) (p : Past) → Sound far p → bodies p + arms_within as' ≤ far
      → Goes far (arms_within as') p (arms_past k as' p) × AllFields (bodies (arms_past k as' p)) far (arm_fields k as' p)
  arms_go far k idl.no_arm p ok room = (stays far p ok, tt)
  arms_go far k (idl.then_arm a rest) p ok room =
      let first = arm_goes far k a p ok (omega (arith, room)) in
      let r : Past = arm_past k a p in
      let before = first.0.count in
      let others = arms_go far k rest r first.0.sound (omega (arith, before, room)) in
      let count = others.0.count in
      (record { count = omega (arith, before, count); sound = others.0.sound }, (typed_more (bodies r) (bodies (arms_past k rest r)) far (omega (arith, count)) (arm_field k a p).declared first.1, others.1))

-- ---- declarations

types_go : (far : ℕ) (ds : List Declared) (p : Past) → Sound far p → AllTyped (bodies p) far ds → Goes far 0 p (types_past ds p)
types_go far [] p ok h = stays far p ok
types_go far (d ∷ ds) p ok h =
    let e : Event = events.Typedef d.name d.ty in
    let a = typedef_goes far d.name d.ty p ok h.0 in
    let same = a.count in
    then_goes far 0 0 p (e ∷ p) (types_past ds (e ∷ p)) a (types_go far ds (e ∷ p) a.sound (typed_more (bodies p) (bodies (e ∷ p)) far (omega (arith, same)) ds h.1))

own_goes : (far : ℕ) (k : Pk) (place : Place) (m : idl.MemberForm) (p : Past) → Sound far p → bodies p + member_within m ≤ far → Goes far (member_within m) p (own_past k place m p)
own_goes far k place m p ok room =
    let f : Field = member_field k place m p in
    let q : Past = member_past k place m p in
    let a = member_goes far k place m p ok room in
    let b = types_go far f.declared q a.0.sound a.1.0 in
    let c = plain far (events.Single f) (types_past f.declared q) refl refl refl (λ name. refl) (λ name. refl) b.sound in
    let x = a.0.count in
    let y = b.count in
    let z = c.count in
    record { count = omega (arith, x, y, z); sound = c.sound }

abbrev params_within : List idl.ParamForm → ℕ
params_within [] = 0
params_within (n ∷ ns) = member_within (param_member n) + params_within ns

params_go : (far : ℕ) (k : Pk) (ns : List idl.ParamForm) (p : Past) → Sound far p → bodies p + params_within ns ≤ far
    → Goes far (params_within ns) p (params_past k ns p) × AllFields (bodies (params_past k ns p)) far (param_fields k ns p)
params_go far k [] p ok room = (stays far p ok, tt)
params_go far k (n ∷ ns) p ok room =
    let first = member_goes far k places.Parameter (param_member n) p ok (omega (arith, room)) in
    let r : Past = member_past k places.Parameter (param_member n) p in
    let before = first.0.count in
    let others = params_go far k ns r first.0.sound (omega (arith, before, room)) in
    let count = others.0.count in
    (record { count = omega (arith, before, count); sound = others.0.sound }, (typed_more (bodies r) (bodies (params_past k ns r)) far (omega (arith, count)) (member_field k places.Parameter (param_member n) p).declared first.1.0, others.1))

forms_below : (near far : ℕ) → near ≤ far → (names : List Ident) (f : Field) (ds : List Declared) → AllTyped near far ds → list_all (param_below far) (map (one_param names f) ds) ≡ true
forms_below near far le names f [] h = refl
forms_below near far le names f (d ∷ ds) h =
    and_of (is_below far far (one_param names f d).shape) _ (fits_more near far far le (one_param names f d).shape (shape_fits near far (terms f.place names f.attributes) d.extent d.ty.layers d.ty.core h.0)) (forms_below near far le names f ds h.1)

listed_below : (b : Bool) (far : ℕ) (xs : List ParamForm) → list_all (param_below far) xs ≡ true → list_all (param_below far) (if b then xs else []) ≡ true
listed_below true far xs h = h
listed_below false far xs h = refl

params_below : (near far : ℕ) → near ≤ far → (names : List Ident) (fs : List Field) → AllFields near far fs → list_all (param_below far) (flat_map (params_listed names) fs) ≡ true
params_below near far le names [] h = refl
params_below near far le names (f ∷ fs) h =
    all_true_join (param_below far) (params_listed names f) (flat_map (params_listed names) fs) (listed_below (is_listed f) far _ (forms_below near far le names f f.declared h.0)) (params_below near far le names fs h.1)

result_is_below : (far : ℕ) (c : Core) (ls : List Layer) → TypeFits far far ls c → result_below far (core_result c (layered ls (core_form None c))) ≡ true
result_is_below far cores.Void ls h = refl
result_is_below far c ls h = h

call_goes : (far : ℕ) (r : Field) (fs : List Field) (p : Past) → Sound far p → TypeFits far far r.spec.layers r.spec.core → AllFields (bodies p) far fs → Goes far 0 p (events.Call r fs ∷ p)
call_goes far r fs p ok h k =
    let e : Event = events.Call r fs in
    let same = still e p refl in
    let few = ok.few in
    let fit : op_below far (op_of r fs) ≡ true = and_of (list_all (param_below far) (params_of fs)) _ (params_below (bodies p) far few (names_listed fs) fs k) (result_is_below far r.spec.core r.spec.layers h) in
    record {
      count = omega (arith, same);
      sound = record {
        types = same_types far p ok;
        ops = all_true_join (op_below far) (collected op_in p) (op_of r fs ∷ []) ok.ops (and_of (op_below far (op_of r fs)) true fit refl);
        few = omega (arith, same, few);
        named = λ name. subst (λ (n : ℕ). NamedFits n far (type_named name p)) (sym same) (ok.named name);
        tags = λ name. subst (λ (n : ℕ). NameTagFits n far ((symbols_of p).tags name)) (sym same) (ok.tags name);
      };
    }

op_goes : (far : ℕ) (k : Pk) (r : idl.MemberForm) (name : Ident) (ns : List idl.ParamForm) (p : Past) → Sound far p → bodies p + (member_within r + params_within ns) ≤ far → Goes far (member_within r + params_within ns) p (op_past k r name ns p)
op_goes far k r name ns p ok room =
    let q : Past = member_past k places.Operation r p in
    let a = member_goes far k places.Operation r p ok (omega (arith, room)) in
    let x = a.0.count in
    let b = plain far (events.Operation name) q refl refl refl (λ n. refl) (λ n. refl) a.0.sound in
    let y = b.count in
    let c = params_go far k ns (events.Operation name ∷ q) b.sound (omega (arith, x, y, room)) in
    let z = c.0.count in
    let d = call_goes far (member_field k places.Operation r p) (param_fields k ns (events.Operation name ∷ q)) (params_past k ns (events.Operation name ∷ q)) c.0.sound a.1.1 c.1 in
    let w = d.count in
    record { count = omega (arith, x, y, z, w); sound = d.sound }

abbrev decl_within : idl.DeclKindForm → ℕ
decl_within (idl.OfConst base name value) = 0
decl_within (idl.OfTypedef as' s ds) = attrs_within as' + within s
decl_within (idl.OfLone as' s) = attrs_within as' + within s
decl_within (idl.OfOp as' s name void ps) = attrs_within as' + within s + params_within ps

abbrev decls_within : List idl.DeclForm → ℕ
decls_within [] = 0
decls_within (x ∷ xs) = decl_within x.what + decls_within xs

decl_goes : (far : ℕ) (k : Pk) (x : idl.DeclKindForm) (p : Past) → Sound far p → bodies p + decl_within x ≤ far → Goes far (decl_within x) p (decl_past k x p)
decl_goes far k (idl.OfConst base name value) p ok room = plain far (events.Constant base name value) p refl refl refl (λ n. refl) (λ n. refl) ok
decl_goes far k (idl.OfTypedef as' s ds) p ok room = own_goes far k places.Typedef (idl.a_member as' s ds) p ok room
decl_goes far k (idl.OfLone as' s) p ok room = own_goes far k places.Alone (lone_member as' s) p ok room
decl_goes far k (idl.OfOp as' s name void ps) p ok room = op_goes far k (result_member as' s name) name ps p ok room

decls_go : (far : ℕ) (k : Pk) (xs : List idl.DeclForm) (p : Past) → Sound far p → bodies p + decls_within xs ≤ far → Goes far (decls_within xs) p (decls_past k xs p)
decls_go far k [] p ok room = stays far p ok
decls_go far k (x ∷ xs) p ok room =
    let first = decl_goes far k x.what p ok (omega (arith, room)) in
    let before = first.count in
    let others = decls_go far k xs (decl_past k x.what p) first.sound (omega (arith, before, room)) in
    let count = others.count in
    record { count = omega (arith, before, count); sound = others.sound }

pub outline_sound : (tree : idl.TreeForm) → Sound (bodies (outline tree)) (outline tree)
outline_sound tree =
    let n : ℕ = decls_within tree.decls in
    let goes = decls_go n (pointer_default tree.attributes) tree.decls [] (record { types = refl; ops = refl; few = omega arith; named = λ name. tt; tags = λ name. tt }) (omega arith) in
    let count = goes.count in
    let same : bodies (outline tree) ≡ n = omega (arith, count) in
    subst (λ (m : ℕ). Sound m (outline tree)) (sym same) goes.sound

-- what build has made, and tested
pub is_table : (tree : idl.TreeForm) (types : List Form) (ops : List OpForm) (uses : List (List HandleUse)) → types ≡ collected type_in (outline tree) → ops ≡ collected op_in (outline tree) → uses ≡ collected uses_in (outline tree)
    → length ops < 65536 → list_all (λ us. nat_le (length us) 4) uses ≡ true → IsTable types ops uses
is_table tree types ops uses t o u few each =
    let p : Past = outline tree in
    let ok = outline_sound tree in
    let far : bodies p ≡ length types = sym (types_count p) ∙ ap (λ (ts : List Form). length ts) (sym t) in
    let sound = subst (λ (n : ℕ). Sound n p) far ok in
    record {
      few = few;
      of_each = ap (λ (us : List (List HandleUse)). length us) u ∙ (each_has_uses p ∙ ap (λ (os : List OpForm). length os) (sym o));
      few_uses = each;
      types_are = subst (λ (ts : List Form). ordered_from 0 (length types) ts ≡ true) (sym t) sound.types;
      ops_are = subst (λ (os : List OpForm). list_all (op_below (length types)) os ≡ true) (sym o) sound.ops;
    }
