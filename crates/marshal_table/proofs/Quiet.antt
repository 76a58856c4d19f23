-- Between two places of a text no operation is declared: specs, attributes, members and arms declare none.
use Rattle.std.proofs.Common.{◌≡◌, ℕ, ◌+◌, List, [], ◌∷◌, ◌++◌, Option, None, Some, Bool, true, false, refl, ap, sym, subst, ◌∙◌, append_assoc, append-nil}
use Rattle.std.specs.Prelude.{if◌then◌else◌}
use Rattle.idl_tree.specs.declared.leaf.Ident.{Ident}
use Rattle.idl_tree.specs.declared.leaf.Pk.{Pk}
use Rattle.idl_tree.specs.declared.leaf.ArraySize.{ArraySize}
use Rattle.idl_tree.specs.declared.leaf.ArraySize.TheVariants as sizes
use Rattle.idl_tree.specs.declared.leaf.Dtor.{Dtor}
use Rattle.idl_tree.specs.declared.spec.Label.{Label as LabelNode}
use Rattle.idl_tree.specs.declared.spec.LabelKind.{LabelKind}
use Rattle.idl_tree.specs.declared.spec.LabelKind.TheVariants as label_kinds
use Rattle.idl_names.specs.declared.place.Place.{Place}
use Rattle.idl_names.specs.declared.place.Place.TheVariants as places
use Rattle.idl_names.specs.Members.{dtors_of, param_member}
use Rattle.idl_names.specs.Walk.{Around, read_at, after}
use Rattle.idl_names.proofs.Walks.{Keep, spec_kept, switch_kept, attr_kept, attrs_kept, read_kept, members_kept, arms_kept, KeepText, decls_kept}
use Rattle.idl_outline.specs.declared.field.Declared.{Declared}
use Rattle.idl_outline.specs.declared.field.Field.{Field}
use Rattle.idl_outline.specs.declared.field.Mark.{Mark}
use Rattle.idl_outline.specs.declared.event.Event.{Event}
use Rattle.idl_outline.specs.declared.event.Event.TheVariants as events
use Rattle.idl_outline.specs.declared.setting.Setting.{Setting}
use Rattle.idl_forms.specs.Forms as idl
use Rattle.idl_outline.specs.Names.{Past, bodies}
use Rattle.idl_outline.specs.Within.{members_within}
use Rattle.idl_outline.specs.Parts.{size_past, array_past, sizes_past, label_past, labels_past, tag_used_past, other_tag_past, names_past, struct_past, struct_end}
use Rattle.idl_outline.specs.Holding.{tag_holds}
use Rattle.idl_outline.specs.Specs.{outline_reader, leaf_past, field_in, fields_in, spec_past, switch_past, attr_past, attrs_past, member_past, member_field, members_past, arms_past}
use Rattle.marshal_table.specs.Interfaces.{collected, op_in}
use Rattle.idl_outline.specs.Outline.{outline_text, types_past, own_past, params_past, decls_past}

-- the later past has the earlier one behind further events
pub record Behind (p q : Past) : Type 0 where
  pub more : List Event
  pub is : q ≡ more ++ p

-- none of which declares an operation
pub record Quiet (p q : Past) : Type 0 where
  pub behind : Behind p q
  pub none : collected op_in q ≡ collected op_in p

pub stays_behind : (p : Past) → Behind p p
stays_behind p = record { more = []; is = refl }

pub then_behind : (p q r : Past) → Behind p q → Behind q r → Behind p r
then_behind p q r a b = record { more = b.more ++ a.more; is = b.is ∙ (ap (λ (x : Past). b.more ++ x) a.is ∙ sym (append_assoc b.more a.more p)) }

pub more_behind : (e : Event) (p q : Past) → Behind p q → Behind p (e ∷ q)
more_behind e p q a = record { more = e ∷ a.more; is = ap (λ (x : Past). e ∷ x) a.is }

all_back : (P : Past → Type 0) → ((e : Event) (p : Past) → P (e ∷ p) → P p) → (p es : Past) → P (es ++ p) → P p
all_back P tail p [] h = h
all_back P tail p (e ∷ es) h = all_back P tail p es (tail e (es ++ p) h)

-- what holds of a past held before its newest event, and so before all further ones
pub back : (P : Past → Type 0) → ((e : Event) (p : Past) → P (e ∷ p) → P p) → (p q : Past) → Behind p q → P q → P p
back P tail p q a h = all_back P tail p a.more (subst P a.is h)

pub stays : (p : Past) → Quiet p p
stays p = record { behind = stays_behind p; none = refl }

pub then_quiet : (p q r : Past) → Quiet p q → Quiet q r → Quiet p r
then_quiet p q r a b = record { behind = then_behind p q r a.behind b.behind; none = b.none ∙ a.none }

pub no_more : (e : Event) (q : Past) → op_in e ≡ [] → collected op_in (e ∷ q) ≡ collected op_in q
no_more e q h = ap (λ xs. collected op_in q ++ xs) h ∙ append-nil (collected op_in q)

pub one_more : (e : Event) (p q : Past) → op_in e ≡ [] → Quiet p q → Quiet p (e ∷ q)
one_more e p q h a = record { behind = more_behind e p q a.behind; none = no_more e q h ∙ a.none }

-- ---- small parts

array_quiet : (s : ArraySize) (p : Past) → Quiet p (array_past s p)
array_quiet sizes.Empty p = stays p
array_quiet sizes.Star p = stays p
array_quiet (sizes.Number n) p = stays p
array_quiet (sizes.Named i) p = one_more (events.ConstantUsed i) p p refl (stays p)

size_quiet : (o : Option ArraySize) (p : Past) → Quiet p (size_past o p)
size_quiet None p = stays p
size_quiet (Some s) p = array_quiet s p

pub sizes_quiet : (ds : List Dtor) (p : Past) → Quiet p (sizes_past ds p)
sizes_quiet [] p = stays p
sizes_quiet (d ∷ ds) p = then_quiet p (size_past d.array p) (sizes_past ds (size_past d.array p)) (size_quiet d.array p) (sizes_quiet ds (size_past d.array p))

pub label_quiet : (l : LabelKind) (p : Past) → Quiet p (label_past l p)
label_quiet (label_kinds.Number n) p = stays p
label_quiet (label_kinds.Named i) p = one_more (events.ConstantUsed i) p p refl (stays p)
label_quiet label_kinds.Default p = stays p

pub labels_quiet : (ls : List LabelNode) (p : Past) → Quiet p (labels_past ls p)
labels_quiet [] p = stays p
labels_quiet (l ∷ ls) p = then_quiet p (label_past l.what p) (labels_past ls (label_past l.what p)) (label_quiet l.what p) (labels_quiet ls (label_past l.what p))

void_quiet : (b : Bool) (at : ℕ) (p : Past) → Quiet p (if b then p else events.VoidUsed at ∷ p)
void_quiet true at p = stays p
void_quiet false at p = one_more (events.VoidUsed at) p p refl (stays p)

tag_quiet : (g : Setting) (tag : Option Ident) (p : Past) → Quiet p (tag_used_past g tag p)
tag_quiet g None p = stays p
tag_quiet g (Some i) p = one_more (events.TagUsed i g.pointed) p p refl (stays p)

pub other_quiet : (tag : Option Ident) (p : Past) → Quiet p (other_tag_past tag p)
other_quiet None p = stays p
other_quiet (Some i) p = one_more (events.OtherTag i) p p refl (stays p)

names_quiet : (n : ℕ) (is : List Ident) (p : Past) → Quiet p (names_past n is p)
names_quiet n [] p = stays p
names_quiet n (i ∷ is) p =
    let e : Event = events.EnumName i (record { at = i.at; minus = false; value = n }) in
    then_quiet p (e ∷ p) (names_past (n + 1) is (e ∷ p)) (one_more e p p refl (stays p)) (names_quiet (n + 1) is (e ∷ p))

pub begins_quiet : (tag : Option Ident) (itself : Bool) (number : ℕ) (p : Past) → Quiet p (struct_past tag itself number p)
begins_quiet None itself number p = stays p
begins_quiet (Some i) itself number p = one_more (events.StructBegins i itself number) p p refl (stays p)

ends_quiet : (tag : Option Ident) (fs : List Field) (p q : Past) → Quiet p q → Quiet p (struct_end tag fs q)
ends_quiet None fs p q a = one_more (events.Body None fs) p q refl a
ends_quiet (Some i) fs p q a = one_more (events.StructEnds i _ _) p (events.Body None fs ∷ q) refl (one_more (events.Body None fs) p q refl a)

-- ---- specs, attributes and what they hold

leaf_quiet : (g : Setting) (at : ℕ) (k : idl.KindForm) (p : Past) → Quiet p (leaf_past g at k p)
leaf_quiet g at (idl.OfName i) p = one_more (events.TypeUsed i) p p refl (stays p)
leaf_quiet g at idl.OfVoid p = void_quiet g.void_allowed at p
leaf_quiet g at (idl.OfTag tag) p = tag_quiet g tag p
leaf_quiet g at (idl.OfEnum tag names) p =
    then_quiet p (other_tag_past tag p) (names_past 0 names (other_tag_past tag p)) (other_quiet tag p) (names_quiet 0 names (other_tag_past tag p))
leaf_quiet g at _ p = stays p

abbrev After : Past → Past → Past → Type 0
After p q z = Quiet p q

keep : (p : Past) → Keep outline_reader outline_reader (After p)
keep p = record {
  leaf = λ g c at k q z h. then_quiet p q _ h (leaf_quiet g at k q);
  struct_begins = λ tag ms q z h. then_quiet p q _ h (begins_quiet tag (tag_holds tag ms) (bodies q + members_within ms) q);
  struct_ends = λ k l tag ms x y h. ends_quiet tag (fields_in k x.0) p x.1 h;
  union_begins = λ tag q z h. then_quiet p q _ h (other_quiet tag q);
  union_ends = λ k l s arms t u x y h. one_more (events.Union _ _) p (events.Body _ _ ∷ x.1) refl (one_more (events.Body _ _) p x.1 refl h);
  switched = λ k l s i x y h. one_more (events.Single _) p x.1 refl h;
  labelled = λ ls q z h. then_quiet p q _ h (labels_quiet ls q);
  sized = λ ds q z h. then_quiet p q _ h (sizes_quiet ds q);
}

pub spec_quiet : (g : Setting) (s : idl.SpecForm) (p : Past) → Quiet p (spec_past g s p)
spec_quiet g s p = spec_kept outline_reader outline_reader (After p) (keep p) g.default g.default g g s p p (stays p)

pub switch_quiet : (g : Setting) (s : idl.SwitchForm) (p : Past) → Quiet p (switch_past g s p)
switch_quiet g s p = switch_kept outline_reader outline_reader (After p) (keep p) g.default g.default g.given g.given s p p (stays p)

pub attr_quiet : (default : Pk) (a : idl.AttrForm) (p : Past) → Quiet p (attr_past default a p)
attr_quiet default a p = attr_kept outline_reader outline_reader (After p) (keep p) default default a p p (stays p)

pub attrs_quiet : (default : Pk) (as' : idl.AttrForms) (p : Past) → Quiet p (attrs_past default as' p)
attrs_quiet default as' p = attrs_kept outline_reader outline_reader (After p) (keep p) default default as' p p (stays p)

pub member_quiet : (default : Pk) (place : Place) (m : idl.MemberForm) (p : Past) → Quiet p (member_past default place m p)
member_quiet default place m p =
    let around : Around Mark Setting = outline_reader.around default place in
    let q : Past = (read_at outline_reader default around m p).known in
    then_quiet p q (sizes_past (dtors_of m) q) (read_kept outline_reader outline_reader (After p) (keep p) default default around around m p p (stays p)) (sizes_quiet (dtors_of m) q)

pub members_quiet : (default : Pk) (ms : idl.MemberForms) (p : Past) → Quiet p (members_past default ms p)
members_quiet default ms p = members_kept outline_reader outline_reader (After p) (keep p) default default ms p p (stays p)

pub arms_quiet : (default : Pk) (as' : idl.ArmForms) (p : Past) → Quiet p (arms_past default as' p)
arms_quiet default as' p = arms_kept outline_reader outline_reader (After p) (keep p) default default as' p p (stays p)

-- ---- declarators of typedefs, and parameters

pub types_behind : (xs : List Declared) (p : Past) → Behind p (types_past xs p)
types_behind [] p = stays_behind p
types_behind (x ∷ xs) p =
    let e : Event = events.Typedef x.name x.ty in
    then_behind p (e ∷ p) (types_past xs (e ∷ p)) (more_behind e p p (stays_behind p)) (types_behind xs (e ∷ p))

types_none : (xs : List Declared) (p : Past) → collected op_in (types_past xs p) ≡ collected op_in p
types_none [] p = refl
types_none (x ∷ xs) p = let e : Event = events.Typedef x.name x.ty in types_none xs (e ∷ p) ∙ no_more e p refl

pub own_none : (default : Pk) (place : Place) (m : idl.MemberForm) (p : Past) → collected op_in (own_past default place m p) ≡ collected op_in p
own_none default place m p =
    let q : Past = member_past default place m p in
    let f : Field = member_field default place m p in
    no_more (events.Single f) (types_past f.declared q) refl ∙ (types_none f.declared q ∙ (member_quiet default place m p).none)

pub params_quiet : (default : Pk) (ns : List idl.ParamForm) (p : Past) → Quiet p (params_past default ns p)
params_quiet default [] p = stays p
params_quiet default (n ∷ ns) p =
    let q : Past = member_past default places.Parameter (param_member n) p in
    then_quiet p q (params_past default ns q) (member_quiet default places.Parameter (param_member n) p) (params_quiet default ns q)

-- ---- declarations

abbrev Grown : Past → Past → Past → Type 0
Grown p q z = Behind p q

keep_text : (p : Past) → KeepText outline_text outline_text (Grown p)
keep_text p = record {
  read = λ k l place m q z h. then_behind p q _ h (member_quiet k place m q).behind;
  constant = λ base i n q z h. more_behind (events.Constant base i n) p q h;
  own = λ k l place m x y q z h. more_behind (events.Single _) p _ (then_behind p (after outline_text (m, x)) _ h (types_behind (field_in k place (m, x)).declared (after outline_text (m, x))));
  named = λ i q z h. more_behind (events.Operation i) p q h;
  operation = λ k l i ns x y ps qs d e h. more_behind (events.Call _ _) p ps.1 h;
}

pub decls_behind : (default : Pk) (xs : List idl.DeclForm) (p : Past) → Behind p (decls_past default xs p)
decls_behind default xs p = decls_kept outline_text outline_text (Grown p) (keep_text p) default default xs p p (stays_behind p)
