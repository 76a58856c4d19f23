-- Each parameter of each operation of an outline declares something.
use Rattle.std.proofs.Common.{◌≡◌, ◌≤◌, Bool, true, false, List, [], ◌∷◌, ◌++◌, length, refl, ap, sym, ◌∙◌, subst, arith}
use Rattle.std.specs.List.{list_all}
use Rattle.std.proofs.lemmas.List.{length-append}
use Rattle.idl_tree.specs.declared.leaf.Ident.{Ident}
use Rattle.idl_tree.specs.declared.leaf.Pk.{Pk}
use Rattle.idl_names.specs.declared.place.Place.{Place}
use Rattle.idl_names.specs.declared.place.Place.TheVariants as places
use Rattle.idl_names.specs.Attributes.{pointer_default}
use Rattle.idl_names.specs.Members.{lone_member, result_member, param_member}
use Rattle.idl_forms.specs.Forms as idl
use Rattle.idl_outline.specs.declared.field.Declared.{Declared}
use Rattle.idl_outline.specs.declared.field.Field.{Field}
use Rattle.idl_outline.specs.declared.event.Event.{Event}
use Rattle.idl_outline.specs.declared.event.Event.TheVariants as events
use Rattle.idl_outline.specs.Names.{Past}
use Rattle.idl_outline.specs.Specs.{member_past, member_field}
use Rattle.idl_outline.specs.Outline.{types_past, own_past, params_past, param_fields, named_past, op_past, decl_past, decls_past, outline}
use Rattle.ndr_table.specs.Tables.{OpForm}
use Rattle.marshal_table.specs.Interfaces.{op_in, collected}
use Rattle.marshal_table.proofs.Fitting.{and_of}
use Rattle.marshal_table.proofs.Quiet.{Quiet, member_quiet, params_quiet}

abbrev pub some_declared : List Declared → Bool
some_declared [] = false
some_declared (d ∷ ds) = true

abbrev pub is_named : Field → Bool
is_named f = some_declared f.declared

-- of an event that is an operation, its parameters
abbrev pub names_all : Event → Bool
names_all (events.Call r fs) = list_all is_named fs
names_all _ = true

abbrev pub AllNamed : Past → Type 0
AllNamed p = list_all names_all p ≡ true

-- ---- what declares no operation

no_fewer : (p more : Past) → length (collected op_in p) ≤ length (collected op_in (more ++ p))
no_fewer p [] = omega arith
no_fewer p (e ∷ more) =
    let a = length-append (collected op_in (more ++ p)) (op_in e) in
    let b = no_fewer p more in
    omega (arith, a, b)

no_call : (e : Event) → length (op_in e) ≡ 0 → names_all e ≡ true
no_call (events.Call r fs) h = absurd cc
no_call _ h = refl

more_named : (p more : Past) → length (collected op_in (more ++ p)) ≡ length (collected op_in p) → AllNamed p → AllNamed (more ++ p)
more_named p [] same h = h
more_named p (e ∷ more) same h =
    let a = length-append (collected op_in (more ++ p)) (op_in e) in
    let b = no_fewer p more in
    and_of (names_all e) (list_all names_all (more ++ p)) (no_call e (omega (arith, a, b, same))) (more_named p more (omega (arith, a, b, same)) h)

quiet_named : (p q : Past) → Quiet p q → AllNamed p → AllNamed q
quiet_named p q a h =
    subst AllNamed (sym a.behind.is)
    (more_named p a.behind.more (ap (λ (os : List OpForm). length os) (ap (collected op_in) (sym a.behind.is) ∙ a.none)) h)

-- ---- declarations

types_named : (xs : List Declared) (p : Past) → AllNamed p → AllNamed (types_past xs p)
types_named [] p h = h
types_named (x ∷ xs) p h = types_named xs (events.Typedef x.name x.ty ∷ p) h

own_named : (k : Pk) (place : Place) (m : idl.MemberForm) (p : Past) → AllNamed p → AllNamed (own_past k place m p)
own_named k place m p h = types_named (member_field k place m p).declared (member_past k place m p) (quiet_named p (member_past k place m p) (member_quiet k place m p) h)

-- a parameter has a declarator
params_named : (k : Pk) (ns : List idl.ParamForm) (p : Past) → list_all is_named (param_fields k ns p) ≡ true
params_named k [] p = refl
params_named k (n ∷ ns) p = params_named k ns (member_past k places.Parameter (param_member n) p)

op_named : (k : Pk) (r : idl.MemberForm) (name : Ident) (ns : List idl.ParamForm) (p : Past) → AllNamed p → AllNamed (op_past k r name ns p)
op_named k r name ns p h =
    let q : Past = named_past k r name p in
    and_of (list_all is_named (param_fields k ns q)) (list_all names_all (params_past k ns q)) (params_named k ns q)
    (quiet_named q (params_past k ns q) (params_quiet k ns q) (quiet_named p (member_past k places.Operation r p) (member_quiet k places.Operation r p) h))

decl_named : (k : Pk) (x : idl.DeclKindForm) (p : Past) → AllNamed p → AllNamed (decl_past k x p)
decl_named k (idl.OfConst base name value) p h = h
decl_named k (idl.OfTypedef as' s ds) p h = own_named k places.Typedef (idl.a_member as' s ds) p h
decl_named k (idl.OfLone as' s) p h = own_named k places.Alone (lone_member as' s) p h
decl_named k (idl.OfOp as' s name void ns) p h = op_named k (result_member as' s name) name ns p h

decls_named : (k : Pk) (xs : List idl.DeclForm) (p : Past) → AllNamed p → AllNamed (decls_past k xs p)
decls_named k [] p h = h
decls_named k (x ∷ xs) p h = decls_named k xs (decl_past k x.what p) (decl_named k x.what p h)

pub all_named : (tree : idl.TreeForm) → AllNamed (outline tree)
all_named tree = decls_named (pointer_default tree.attributes) tree.decls [] refl
