-- Each name that a declaration of an interface that keeps the rules uses stands for something where its outline reads it.
use Rattle.std.proofs.Common.{◌≡◌, ℕ, List, [], ◌∷◌, ◌++◌, Bool, true, false, Option, refl, ap, sym, subst, ◌∙◌}
use Rattle.std.specs.Prelude.{◌==◌, ◌||◌, ◌&&◌, is_some, bytes_eq, if◌then◌else◌}
use Rattle.std.specs.List.{list_any, flat_map}
use Rattle.std.specs.Option.{option_or}
use Rattle.idl_tree.specs.declared.leaf.Ident.{Ident}
use Rattle.idl_tree.specs.declared.leaf.Pk.{Pk}
use Rattle.idl_tree.specs.declared.leaf.Dtor.{Dtor}
use Rattle.idl_tree.specs.declared.declaration.Ast.{Ast}
use Rattle.idl_names.specs.declared.place.Extent.{Extent}
use Rattle.idl_names.specs.declared.place.Place.{Place}
use Rattle.idl_names.specs.declared.place.Place.TheVariants as places
use Rattle.idl_names.specs.Members.{lone_member, result_member, param_member}
use Rattle.idl_names.specs.Attributes.{pointer_default}
use Rattle.idl_names.specs.Declarators.{extent_of}
use Rattle.idl_outline.specs.declared.ty.Core.TheVariants as cores
use Rattle.idl_outline.specs.declared.manner.Manner.{Manner}
use Rattle.idl_outline.specs.declared.field.NameRef.{NameRef}
use Rattle.idl_outline.specs.declared.field.Field.{Field}
use Rattle.idl_outline.specs.declared.event.Event.TheVariants as events
use Rattle.idl_forms.specs.Forms as idl
use Rattle.idl_outline.specs.Names.{Past, constants_of, manner_of}
use Rattle.idl_outline.specs.Types.{bare, is_characters, own_core, declared_as}
use Rattle.idl_outline.specs.Specs.{attrs_past, member_past, member_field}
use Rattle.idl_outline.specs.Outline.{types_past, own_past, params_past, param_fields, named_past, op_past, decl_past, decls_past, outline}
use Rattle.idl_rules.specs.declared.asked.Asked.{Asked}
use Rattle.idl_rules.specs.declared.asked.Asked.TheVariants as asks
use Rattle.idl_rules.specs.Places.{gathered, repeats}
use Rattle.idl_rules.specs.Types.{is_unknown, is_asked}
use Rattle.idl_rules.specs.BadAttribute as bad
use Rattle.idl_rules.specs.SizeName as size
use Rattle.idl_rules.specs.Broken.{NoneBroken}
use Rattle.marshal_table.specs.Interfaces.{first_in, uuid_in}
use Rattle.marshal_table.specs.Stands.{is_binding, listed_name, param_names, is_among, member_stands, params_stand, decl_stands, decls_stand, EachNameStands}
use Rattle.marshal_table.proofs.Quiet.{types_behind, params_quiet, decls_behind}
use Rattle.marshal_table.proofs.Nothing.{nil_left, nil_right, none_among}
use Rattle.marshal_table.proofs.Found.{there, both, Offered}
use Rattle.marshal_table.proofs.Standing.{Kept, kept_tail, kept_before, offer_names, left_among, right_among, Fits, fits, AllFit, first_fits, others_fit, member_stand}

-- ---- a field of its own: a typedef's, that of a spec without a declarator, or that of an operation's result

pub single_fits : (f : Field) (p : Past) → Kept (events.Single f ∷ p) → Fits [] false f
single_fits f p c = fits [] false f (nil_left (bad.field_places f false) (gathered bad.bad_attribute p) c.attributes) (nil_left (size.field_places [] f) (gathered size.size_name p) c.sizes)

result_fits : (r : Field) (ps : List Field) (p : Past) → Kept (events.Call r ps ∷ p) → Fits [] false r
result_fits r ps p c =
    fits [] false r (nil_left (bad.field_places r false) _ (nil_left (bad.call_places r ps) (gathered bad.bad_attribute p) c.attributes))
    (nil_left (size.field_places [] r) _ (nil_left (size.field_places [] r ++ flat_map (size.listed_places ps) ps) (gathered size.size_name p) c.sizes))

own_stands : (k : Pk) (place : Place) (m : idl.MemberForm) (p : Past) → Kept (member_past k place m p) → Fits [] false (member_field k place m p) → member_stands k place [] m p ≡ true
own_stands k place m p c f = member_stand k place [] false [] m p c (λ asked n e. absurd cc) f

decl_own : (k : Pk) (place : Place) (m : idl.MemberForm) (p : Past) → Kept (own_past k place m p) → member_stands k place [] m p ≡ true
decl_own k place m p c =
    let f : Field = member_field k place m p in
    let z : Past = member_past k place m p in
    let all : Past = types_past f.declared z in
    own_stands k place m p (kept_before z all (types_behind f.declared z) (kept_tail (events.Single f) all c)) (single_fits f all c)

-- ---- parameters

spec_binds : (s : idl.SpecForm) → is_binding s ≡ true → (at : ℕ) × (s ≡ idl.a_spec at idl.OfHandle)
spec_binds (idl.a_spec at idl.OfHandle) e = (at, refl)
spec_binds (idl.a_spec at _) e = absurd cc

params_stand_all : (k : Pk) (names : List Ident) (list : List Field) (ns : List idl.ParamForm) (p : Past) → Kept (params_past k ns p) → ((f : Field) → Offered list f names) → AllFit list (param_fields k ns p)
    → params_stand k names ns p ≡ true
params_stand_all k names list [] p c o f = refl
params_stand_all k names list (n ∷ ns) p c o f =
    let field : Field = member_field k places.Parameter (param_member n) p in
    let r : Past = member_past k places.Parameter (param_member n) p in
    let rest : List Field = param_fields k ns r in
    let fit : Fits list (bad.is_more rest) field = first_fits list field rest f in
    both (member_stands k places.Parameter names (param_member n) p) (params_stand k names ns r)
    (member_stand k places.Parameter list (bad.is_more rest) names (param_member n) p (kept_before r (params_past k ns r) (params_quiet k ns r).behind c) (o field) fit)
    (params_stand_all k names list ns r c o (others_fit list field rest f))

-- ---- the names that parameters offer are those that are listed: a handle_t is of no type that is asked for

-- no string is made of a handle_t
binding_text : (b : Bool) → (b && is_characters (bare cores.HandleT)) ≡ false
binding_text true = refl
binding_text false = refl

binding_core : (m : Manner) (n : ℕ) (e : Extent) → (declared_as m n e (bare cores.HandleT)).core ≡ cores.HandleT
binding_core m n e = ap (λ (b : Bool). own_core b n e cores.HandleT) (binding_text m.text)

not_asked : (asked : Asked) → is_asked asked cores.HandleT ≡ false
not_asked asks.Integer = refl
not_asked asks.Tag = refl

never : (b u a x y : Bool) → u ≡ false → a ≡ false → (((b && (u || (a && x))) || false) && y) ≡ false
never false u a x y e f = refl
never true true a x y e f = absurd cc
never true false true x y e f = absurd cc
never true false false x y e f = refl

no_offer : (k : Pk) (as' : idl.AttrForms) (at : ℕ) (d : Dtor) (p : Past) (asked : Asked) (f : Field) (n : NameRef) → size.offers asked f n (member_field k places.Parameter (idl.a_member as' (idl.a_spec at idl.OfHandle) (d ∷ [])) p) ≡ false
no_offer k as' at d p asked f n =
    let core = binding_core (manner_of k places.Parameter as') d.stars (extent_of (constants_of (attrs_past k as' p)) d.array) in
    never (bytes_eq d.name.text n.name.text) _ _ _ _ (ap is_unknown core) (ap (is_asked asked) core ∙ not_asked asked)

opposite : false ≡ true → ⊥
opposite e = cc

param_offers : (k : Pk) (n : idl.ParamForm) (p : Past) (asked : Asked) (f : Field) (r : NameRef) (b : Bool) → is_binding n.spec ≡ b → size.offers asked f r (member_field k places.Parameter (param_member n) p) ≡ true
    → is_among (if b then [] else n.dtor.name ∷ []) r.name ≡ true
param_offers k n p asked f r true e o =
    let is = spec_binds n.spec e in
    absurd (opposite (sym (no_offer k n.attrs is.0 n.dtor p asked f r) ∙ subst (λ (x : idl.SpecForm). size.offers asked f r (member_field k places.Parameter (idl.a_member n.attrs x (n.dtor ∷ [])) p) ≡ true) is.1 o))
param_offers k n p asked f r false e o = offer_names asked f r (member_field k places.Parameter (param_member n) p) o

or_either : (a b c : Bool) → (a ≡ true → c ≡ true) → (b ≡ true → c ≡ true) → (a || b) ≡ true → c ≡ true
or_either true b c f g e = f refl
or_either false b c f g e = g e

params_offer : (k : Pk) (ns : List idl.ParamForm) (p : Past) (asked : Asked) (f : Field) (r : NameRef) → list_any (size.offers asked f r) (param_fields k ns p) ≡ true → is_among (param_names ns) r.name ≡ true
params_offer k [] p asked f r e = absurd cc
params_offer k (n ∷ ns) p asked f r e =
    let z : Past = member_past k places.Parameter (param_member n) p in
    or_either (size.offers asked f r (member_field k places.Parameter (param_member n) p)) (list_any (size.offers asked f r) (param_fields k ns z)) (is_among (listed_name n ++ param_names ns) r.name)
    (λ h. left_among (listed_name n) (param_names ns) r.name (param_offers k n p asked f r (is_binding n.spec) refl h))
    (λ h. right_among (listed_name n) (param_names ns) r.name (params_offer k ns z asked f r h)) e

-- ---- operations

pub call_fits : (r : Field) (ps : List Field) (p : Past) → Kept (events.Call r ps ∷ p) → AllFit ps ps
call_fits r ps p c =
    let attributes = nil_left (bad.call_places r ps) (gathered bad.bad_attribute p) c.attributes in
    let sizes = nil_left (size.field_places [] r ++ flat_map (size.listed_places ps) ps) (gathered size.size_name p) c.sizes in
    record {
      attributes = nil_right (flat_map (bad.maybe_places r ps) r.attributes) (bad.each_field ps) (nil_right (bad.field_places r false) _ attributes);
      sizes = nil_right (size.field_places [] r) (flat_map (size.listed_places ps) ps) sizes;
    }

op_stands : (k : Pk) (r : idl.MemberForm) (name : Ident) (ns : List idl.ParamForm) (p : Past) → Kept (op_past k r name ns p)
    → (member_stands k places.Operation [] r p && params_stand k (param_names ns) ns (named_past k r name p)) ≡ true
op_stands k r name ns p c =
    let q : Past = named_past k r name p in
    let ps : List Field = param_fields k ns q in
    let all : Past = params_past k ns q in
    let result : Field = member_field k places.Operation r p in
    let inside : Kept all = kept_tail (events.Call result ps) all c in
    let before : Kept (member_past k places.Operation r p) = kept_tail (events.Operation name) (member_past k places.Operation r p) (kept_before q all (params_quiet k ns q).behind inside) in
    both (member_stands k places.Operation [] r p) (params_stand k (param_names ns) ns q) (own_stands k places.Operation r p before (result_fits result ps all c))
    (params_stand_all k (param_names ns) ps ns q inside (λ f asked n e. params_offer k ns q asked f n e) (call_fits result ps all c))

-- ---- declarations

decl_stand : (k : Pk) (x : idl.DeclKindForm) (p : Past) → Kept (decl_past k x p) → decl_stands k x p ≡ true
decl_stand k (idl.OfConst base name value) p c = refl
decl_stand k (idl.OfTypedef as' s ds) p c = decl_own k places.Typedef (idl.a_member as' s ds) p c
decl_stand k (idl.OfLone as' s) p c = decl_own k places.Alone (lone_member as' s) p c
decl_stand k (idl.OfOp as' s name void ps) p c = op_stands k (result_member as' s name) name ps p c

decls_stand_all : (k : Pk) (xs : List idl.DeclForm) (p : Past) → Kept (decls_past k xs p) → decls_stand k xs p ≡ true
decls_stand_all k [] p c = refl
decls_stand_all k (x ∷ xs) p c =
    let q : Past = decl_past k x.what p in
    both (decl_stands k x.what p) (decls_stand k xs q) (decl_stand k x.what p (kept_before q (decls_past k xs q) (decls_behind k xs q) c)) (decls_stand_all k xs q c)

-- ---- the interface

uuid_or : (m : idl.FileKindForm) (b : Bool) (o : Option (List ℕ)) → (b ≡ true → is_some o ≡ true) → (bad.file_kind m == 0 || b) ≡ true → is_some (option_or (uuid_in m) o) ≡ true
uuid_or (idl.OfUuid u) b o h e = refl
uuid_or (idl.OfVersion major minor) b o h e = h e
uuid_or (idl.OfPointerDefault c) b o h e = h e
uuid_or (idl.OfEndpoint texts) b o h e = h e

uuid_found : (fs : List idl.FileForm) → list_any bad.is_uuid fs ≡ true → is_some (first_in uuid_in fs) ≡ true
uuid_found [] e = absurd cc
uuid_found (a ∷ rest) e = uuid_or a.what (list_any bad.is_uuid rest) (first_in uuid_in rest) (uuid_found rest) e

pub kept_tree : (tree : Ast) → NoneBroken tree → Kept (outline (idl.tree_form tree))
kept_tree tree none =
    record {
      unknown = none_among _ (λ at there. none.none 1 at (record { there = there }));
      attributes = nil_right (bad.bad_file (idl.tree_form tree)) _ (none_among _ (λ at there. none.none 3 at (record { there = there })));
      sizes = none_among _ (λ at there. none.none 4 at (record { there = there }));
    }

uuid_there : (tree : Ast) → NoneBroken tree → list_any bad.is_uuid (idl.tree_form tree).attributes ≡ true
uuid_there tree none =
    let file = nil_left (bad.bad_file (idl.tree_form tree)) (gathered bad.bad_attribute (outline (idl.tree_form tree))) (none_among _ (λ at there. none.none 3 at (record { there = there }))) in
    there (list_any bad.is_uuid (idl.tree_form tree).attributes) (idl.tree_form tree).name.at (nil_right (repeats bad.same_file_kind bad.file_place (idl.tree_form tree).attributes) _ file)

pub each_name_stands : (tree : Ast) → NoneBroken tree → EachNameStands tree
each_name_stands tree none =
    record {
      identified = uuid_found (idl.tree_form tree).attributes (uuid_there tree none);
      declared = decls_stand_all (pointer_default (idl.tree_form tree).attributes) (idl.tree_form tree).decls [] (kept_tree tree none);
    }
