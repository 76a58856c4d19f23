-- A parameter that is a context handle goes in or out, as the rule on handles asks.
use Rattle.std.proofs.Common.{◌≡◌, ℕ, zero, suc, Bool, true, false, List, [], ◌∷◌, refl}
use Rattle.std.specs.Prelude.{not, ◌&&◌, ◌||◌, slice_get}
use Rattle.std.specs.List.{list_all, flat_map}
use Rattle.idl_tree.specs.declared.declaration.Ast.{Ast}
use Rattle.idl_forms.specs.Forms.{tree_form}
use Rattle.idl_outline.specs.declared.ty.Core.{Core}
use Rattle.idl_outline.specs.declared.ty.Core.TheVariants as cores
use Rattle.idl_outline.specs.declared.field.Declared.{Declared}
use Rattle.idl_outline.specs.declared.field.Field.{Field}
use Rattle.idl_outline.specs.declared.event.Event.{Event}
use Rattle.idl_outline.specs.declared.event.Event.TheVariants as events
use Rattle.idl_outline.specs.Names.{Past}
use Rattle.idl_outline.specs.Types.{outer}
use Rattle.idl_outline.specs.Outline.{outline}
use Rattle.idl_rules.specs.Places.{at_if, gathered}
use Rattle.idl_rules.specs.Types.{by_value, is_context_handle, is_one_pointer, is_ref_layer, is_parameter, says_in, says_out, has}
use Rattle.idl_rules.specs.HandleUse.{is_bad_handle_type, is_bad_use, is_bad_binding, declared_places, field_places, parameter_places, handle_use}
use Rattle.idl_rules.specs.Broken.{NoneBroken}
use Rattle.ndr_table.specs.declared.operation.HandleUse.{HandleUse}
use Rattle.manager_api.specs.Calls.{uses_or}
use Rattle.marshal_table.specs.Interfaces.{core_use, use_in, uses_in, collected, tabled}
use Rattle.marshal_table.proofs.Fitting.{both_of, and_of}
use Rattle.marshal_table.proofs.Nothing.{nil_left, nil_right, none_among}
use Rattle.marshal_table.proofs.Sounds.{all_true_join}
use Rattle.world_laws.specs.Keeping.{goes_somewhere, all_go}
use Rattle.handle_ways.proofs.Named.{some_declared, is_named, names_all, AllNamed, all_named}

-- ---- one parameter

not_broken : (b : Bool) (at : ℕ) → at_if b at ≡ [] → b ≡ false
not_broken true at e = absurd cc
not_broken false at e = refl

not_second : (a b c : Bool) → (a || (b || c)) ≡ false → b ≡ false
not_second true b c e = absurd cc
not_second false true c e = absurd cc
not_second false false c e = refl

-- inward and outward; whether it is a parameter, by value, or a ref pointer that comes back
core_goes : (i o p v r : Bool) (c : Core) → (is_context_handle c && not (p && ((i && (not o && v)) || (o && r)))) ≡ false → list_all goes_somewhere (core_use i o c) ≡ true
core_goes true o p v r (cores.ContextHandle kind serialised) e = refl
core_goes false true p v r (cores.ContextHandle kind serialised) e = refl
core_goes false false true v r (cores.ContextHandle kind serialised) e = absurd cc
core_goes false false false v r (cores.ContextHandle kind serialised) e = absurd cc
core_goes i o p v r _ e = refl

declared_goes : (first : Bool) (f : Field) (ds : List Declared) → some_declared ds ≡ true → flat_map (declared_places first f) ds ≡ [] → list_all goes_somewhere (use_in f) ≡ true
declared_goes first f [] n e = absurd cc
declared_goes first f (d ∷ ds) n e =
    let none = nil_left (declared_places first f d) (flat_map (declared_places first f) ds) e in
    let bad : Bool = is_bad_handle_type f d || (is_bad_use f d || is_bad_binding first f d) in
    core_goes (has says_in f) (has says_out f) (is_parameter f.place) (by_value d.ty) (is_one_pointer d.ty && is_ref_layer (outer d.ty)) f.spec.core
    (not_second (is_bad_handle_type f d) (is_bad_use f d) (is_bad_binding first f d) (not_broken bad d.name.at none))

field_goes : (first : Bool) (f : Field) → is_named f ≡ true → field_places first f ≡ [] → list_all goes_somewhere (use_in f) ≡ true
field_goes first f n e = declared_goes first f f.declared n e

-- ---- those of an operation, and of all

others_go : (fs : List Field) → list_all is_named fs ≡ true → flat_map (field_places false) fs ≡ [] → list_all goes_somewhere (flat_map use_in fs) ≡ true
others_go [] n e = refl
others_go (f ∷ fs) n e =
    let b = both_of (is_named f) (list_all is_named fs) n in
    all_true_join goes_somewhere (use_in f) (flat_map use_in fs) (field_goes false f b.0 (nil_left (field_places false f) (flat_map (field_places false) fs) e))
    (others_go fs b.1 (nil_right (field_places false f) (flat_map (field_places false) fs) e))

parameters_go : (fs : List Field) → list_all is_named fs ≡ true → parameter_places fs ≡ [] → list_all goes_somewhere (flat_map use_in fs) ≡ true
parameters_go [] n e = refl
parameters_go (f ∷ fs) n e =
    let b = both_of (is_named f) (list_all is_named fs) n in
    all_true_join goes_somewhere (use_in f) (flat_map use_in fs) (field_goes true f b.0 (nil_left (field_places true f) (flat_map (field_places false) fs) e))
    (others_go fs b.1 (nil_right (field_places true f) (flat_map (field_places false) fs) e))

abbrev AllGo : List (List HandleUse) → Type 0
AllGo uses = list_all (list_all goes_somewhere) uses ≡ true

event_goes : (past : Past) (e : Event) → names_all e ≡ true → handle_use past e ≡ [] → AllGo (uses_in e)
event_goes past (events.Call r fs) n e =
    and_of (list_all goes_somewhere (flat_map use_in fs)) true (parameters_go fs n (nil_right (field_places false r) (parameter_places fs) e)) refl
event_goes past _ n e = refl

past_goes : (past : Past) → AllNamed past → gathered handle_use past ≡ [] → AllGo (collected uses_in past)
past_goes [] n h = refl
past_goes (e ∷ past) n h =
    let b = both_of (names_all e) (list_all names_all past) n in
    all_true_join (list_all goes_somewhere) (collected uses_in past) (uses_in e) (past_goes past b.1 (nil_right (handle_use past e) (gathered handle_use past) h))
    (event_goes past e b.0 (nil_left (handle_use past e) (gathered handle_use past) h))

-- an operation that the table doesn't have has no handles
row_goes : (uses : List (List HandleUse)) (op : ℕ) → AllGo uses → list_all goes_somewhere (uses_or (slice_get uses op)) ≡ true
row_goes [] op h = refl
row_goes (us ∷ rest) zero h = (both_of (list_all goes_somewhere us) (list_all (list_all goes_somewhere) rest) h).0
row_goes (us ∷ rest) (suc op) h = row_goes rest op (both_of (list_all goes_somewhere us) (list_all (list_all goes_somewhere) rest) h).1

pub each_goes : (tree : Ast) → NoneBroken tree → (op : ℕ) → all_go (tabled tree) op ≡ true
each_goes tree sound op =
    let past : Past = outline (tree_form tree) in
    row_goes (collected uses_in past) op
    (past_goes past (all_named (tree_form tree)) (none_among (gathered handle_use past) (λ at there. sound.none 5 at (record { there = there }))))
