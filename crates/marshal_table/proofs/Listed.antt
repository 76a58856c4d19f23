-- Each operation of an interface is in its table, and each handle of it.
use Rattle.std.proofs.Common.{◌≡◌, ℕ, List, [], ◌∷◌, ◌++◌, map, refl, ap, sym, ◌∙◌, append_assoc, append-nil}
use Rattle.std.specs.List.{flat_map}
use Rattle.std.proofs.lemmas.List.{map-append}
use Rattle.idl_tree.specs.declared.leaf.Ident.{Ident}
use Rattle.idl_tree.specs.declared.leaf.Pk.{Pk}
use Rattle.idl_tree.specs.declared.declaration.Ast.{Ast}
use Rattle.idl_names.specs.declared.place.Place.TheVariants as places
use Rattle.idl_names.specs.Members.{lone_member, result_member}
use Rattle.idl_names.specs.Attributes.{pointer_default}
use Rattle.idl_outline.specs.declared.field.Field.{Field}
use Rattle.idl_outline.specs.declared.event.Event.{Event}
use Rattle.idl_outline.specs.declared.event.Event.TheVariants as events
use Rattle.idl_forms.specs.Forms as idl
use Rattle.idl_outline.specs.Names.{Past}
use Rattle.idl_outline.specs.Specs.{member_past, member_field}
use Rattle.idl_outline.specs.Outline.{own_past, param_fields, params_past, named_past, op_past, decl_past, decls_past, outline}
use Rattle.ndr_table.specs.Tables.{OpForm, TableForm}
use Rattle.marshal_table.specs.Interfaces.{use_in, op_of, op_in, uses_in, collected, tabled}
use Rattle.marshal_table.specs.Wholes.{op_name, names_in, op_names, parameters_in, all_parameters, HasEachOperation, HasEachHandle}
use Rattle.marshal_table.proofs.Quiet.{no_more, own_none, member_quiet, params_quiet}

abbrev op_list : Past → List (List ℕ)
op_list p = map op_name (collected op_in p)

names_more : (ops : List OpForm) (o : OpForm) → map op_name (ops ++ o ∷ []) ≡ map op_name ops ++ op_name o ∷ []
names_more [] o = refl
names_more (x ∷ xs) o = ap (λ (ns : List (List ℕ)). op_name x ∷ ns) (names_more xs o)

same_list : (p q : Past) → collected op_in q ≡ collected op_in p → op_list q ≡ op_list p ++ []
same_list p q e = ap (map op_name) e ∙ sym (append-nil (op_list p))

-- an operation's result, its name and its parameters add no other
before_call : (k : Pk) (r : idl.MemberForm) (name : Ident) (ns : List idl.ParamForm) (p : Past) → collected op_in (params_past k ns (named_past k r name p)) ≡ collected op_in p
before_call k r name ns p =
    let q : Past = member_past k places.Operation r p in
    (params_quiet k ns (events.Operation name ∷ q)).none ∙ (no_more (events.Operation name) q refl ∙ (member_quiet k places.Operation r p).none)

op_listed : (k : Pk) (as' : idl.AttrForms) (s : idl.SpecForm) (name : Ident) (ns : List idl.ParamForm) (p : Past) → op_list (op_past k (result_member as' s name) name ns p) ≡ op_list p ++ name.text ∷ []
op_listed k as' s name ns p =
    let r : idl.MemberForm = result_member as' s name in
    let fs : List Field = param_fields k ns (named_past k r name p) in
    names_more (collected op_in (params_past k ns (named_past k r name p))) (op_of (member_field k places.Operation r p) fs)
    ∙ ap (λ (os : List OpForm). map op_name os ++ name.text ∷ []) (before_call k r name ns p)

decl_listed : (k : Pk) (x : idl.DeclKindForm) (p : Past) → op_list (decl_past k x p) ≡ op_list p ++ names_in x
decl_listed k (idl.OfConst base name value) p = same_list p (events.Constant base name value ∷ p) (no_more (events.Constant base name value) p refl)
decl_listed k (idl.OfTypedef as' s ds) p = same_list p (own_past k places.Typedef (idl.a_member as' s ds) p) (own_none k places.Typedef (idl.a_member as' s ds) p)
decl_listed k (idl.OfLone as' s) p = same_list p (own_past k places.Alone (lone_member as' s) p) (own_none k places.Alone (lone_member as' s) p)
decl_listed k (idl.OfOp as' s name void ps) p = op_listed k as' s name ps p

decls_listed : (k : Pk) (xs : List idl.DeclForm) (p : Past) → op_list (decls_past k xs p) ≡ op_list p ++ op_names xs
decls_listed k [] p = sym (append-nil (op_list p))
decls_listed k (x ∷ xs) p =
    decls_listed k xs (decl_past k x.what p) ∙ (ap (λ (ns : List (List ℕ)). ns ++ op_names xs) (decl_listed k x.what p) ∙ append_assoc (op_list p) (names_in x.what) (op_names xs))

pub has_each : (tree : Ast) (table : TableForm) → table ≡ tabled tree → HasEachOperation tree table
has_each tree table e =
    record { names_are = ap (λ (t : TableForm). map op_name t.ops) e ∙ decls_listed (pointer_default (idl.tree_form tree).attributes) (idl.tree_form tree).decls [] }

-- ---- handles

uses_are : (e : Event) → uses_in e ≡ map (flat_map use_in) (parameters_in e)
uses_are (events.Call r fs) = refl
uses_are _ = refl

all_uses : (p : Past) → collected uses_in p ≡ map (flat_map use_in) (all_parameters p)
all_uses [] = refl
all_uses (e ∷ p) = (λ j. all_uses p j ++ uses_are e j) ∙ sym (map-append (flat_map use_in) (all_parameters p) (parameters_in e))

pub has_handles : (tree : Ast) (table : TableForm) → table ≡ tabled tree → HasEachHandle tree table
has_handles tree table e = record { uses_are = ap (λ (t : TableForm). t.uses) e ∙ all_uses (outline (idl.tree_form tree)) }
