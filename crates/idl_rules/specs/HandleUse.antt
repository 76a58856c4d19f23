-- Rule 5, HandleUse: a context handle type isn't `void *`, or is used other than as an [in] parameter or through one pointer, a ref
-- one, as an [out] or [in, out] one; handle_t other than as the first parameter, by value. The type of a union's tag is such a use too.
use Rattle.std.specs.Prelude.{ℕ, ◌==◌, Bool, true, false, not, ◌&&◌, ◌||◌, List, [], ◌∷◌, ◌++◌}
use Rattle.std.specs.List.{flat_map}
use Rattle.idl_outline.specs.declared.field.Declared.{Declared}
use Rattle.idl_outline.specs.declared.field.Field.{Field}
use Rattle.idl_outline.specs.declared.event.Tag.{Tag}
use Rattle.idl_outline.specs.declared.event.Tag.TheVariants as tags
use Rattle.idl_outline.specs.declared.event.Event.{Event}
use Rattle.idl_outline.specs.declared.event.Event.TheVariants as events
use Rattle.idl_outline.specs.Types.{outer}
use Rattle.idl_rules.specs.Places.{at_if}
use Rattle.idl_rules.specs.Types.{by_value, is_unknown, is_void, is_handle_t, is_context_handle, is_one_pointer, is_ref_layer, is_single, is_typedef, is_parameter, says_in, says_out, says_handle, has}

-- the type that a word for context handles stands on is other than void *
abbrev pub is_bad_handle_type : Field → Declared → Bool
is_bad_handle_type f d =
    (is_typedef f.place && has says_handle f) && not (is_unknown f.spec.core || (is_void f.spec.core && (by_value f.spec && (d.stars == 1 && is_single d.extent))))

-- an [in] parameter by value, or one pointer that comes back
abbrev pub is_good_use : Field → Declared → Bool
is_good_use f d =
    is_parameter f.place
    && ((has says_in f && (not (has says_out f) && by_value d.ty)) || (has says_out f && (is_one_pointer d.ty && is_ref_layer (outer d.ty))))

abbrev pub is_bad_use : Field → Declared → Bool
is_bad_use f d = is_context_handle f.spec.core && not (is_good_use f d)

-- first: the field is an operation's first parameter
abbrev pub is_bad_binding : Bool → Field → Declared → Bool
is_bad_binding first f d = is_handle_t f.spec.core && not (first && by_value d.ty)

abbrev pub declared_places : Bool → Field → Declared → List ℕ
declared_places first f d = at_if (is_bad_handle_type f d || (is_bad_use f d || is_bad_binding first f d)) d.name.at

abbrev pub field_places : Bool → Field → List ℕ
field_places first f = flat_map (declared_places first f) f.declared

abbrev pub parameter_places : List Field → List ℕ
parameter_places [] = []
parameter_places (p ∷ ps) = field_places true p ++ flat_map (field_places false) ps

-- the type of a union's switch
abbrev pub tag_places : Tag → List ℕ
tag_places (tags.Switch at t) = at_if (is_handle_t t.core || is_context_handle t.core) at
tag_places (tags.Given at t) = []
tag_places tags.Missing = []

abbrev pub handle_use : List Event → Event → List ℕ
handle_use past (events.Single f) = field_places false f
handle_use past (events.Body tag fs) = flat_map (field_places false) fs
handle_use past (events.Call r ps) = field_places false r ++ parameter_places ps
handle_use past (events.Union t ls) = tag_places t
handle_use past _ = []
