-- Rule 3, BadAttribute. An attribute stands twice, or where it has no meaning; uuid is missing; a parameter other than handle_t has
-- neither in nor out; an out parameter is no pointer or array; an [out] pointer that isn't [in] is unique or ptr; a conformant array
-- has no size_is or max_is, is no parameter and not the last member of a structure, or is an array's element; a structure that ends
-- in a conformant array is a member that isn't the last, an array's element or a union's arm; string stands on other than char;
-- range on other than a parameter of an integer of at most 32 bits that holds its numbers, in order, or a Ref to one; maybe with an
-- out or a result.
use Rattle.std.specs.Prelude.{ℕ, ◌==◌, Bool, true, false, not, ◌&&◌, ◌||◌, List, [], ◌∷◌, ◌++◌}
use Rattle.std.specs.List.{list_any, list_all, flat_map}
use Rattle.idl_forms.specs.Forms.{FileKindForm, OfUuid, OfVersion, OfPointerDefault, OfEndpoint, FileForm, TreeForm}
use Rattle.idl_outline.specs.declared.field.Bare.{Bare}
use Rattle.idl_outline.specs.declared.field.Bare.TheVariants as bares
use Rattle.idl_outline.specs.declared.field.Mark.{Mark}
use Rattle.idl_outline.specs.declared.field.Mark.TheVariants as marks
use Rattle.idl_outline.specs.declared.field.Attribute.{Attribute}
use Rattle.idl_outline.specs.declared.field.Declared.{Declared}
use Rattle.idl_outline.specs.declared.field.Field.{Field}
use Rattle.idl_outline.specs.declared.event.Event.{Event}
use Rattle.idl_outline.specs.declared.event.Event.TheVariants as events
use Rattle.idl_outline.specs.Types.{outer}
use Rattle.idl_rules.specs.Places.{at_if, repeats}
use Rattle.idl_rules.specs.Ranges.{may_range}
use Rattle.idl_rules.specs.Types.{by_value, is_unknown, is_char, is_void, is_handle_t, is_context_handle, is_open_struct, is_bare_union, is_pointer_layer, is_open_layer, is_ref, is_ref_layer, is_single, is_open_extent, is_typedef, is_operation, is_parameter, is_member, is_arm, is_listed, says_in, says_out, says_string, says_most, says_maybe, has}

-- ---- twice

-- size_is and max_is are of one kind, and so are two pointer classes and two words for context handles
abbrev pub kind_of : Mark → ℕ
kind_of marks.In = 0
kind_of marks.Out = 1
kind_of (marks.Pointer k) = 2
kind_of marks.Text = 3
kind_of marks.Idempotent = 4
kind_of marks.Maybe = 5
kind_of marks.Handle = 6
kind_of (marks.SizeIs s) = 7
kind_of (marks.MaxIs s) = 7
kind_of (marks.LengthIs s) = 8
kind_of (marks.SwitchIs n) = 9
kind_of (marks.SwitchType at t) = 10
kind_of (marks.Range low high) = 11

abbrev pub same_kind : Attribute → Attribute → Bool
same_kind a b = kind_of a.mark == kind_of b.mark

abbrev pub place_of : Attribute → ℕ
place_of a = a.at

-- ---- without a meaning

abbrev pub has_star : Declared → Bool
has_star d = not (d.stars == 0)

-- an array that isn't itself a string; text: string is among the attributes
abbrev pub is_plain_array : Bool → Declared → Bool
is_plain_array text d = not (is_single d.extent) && not (text && d.stars == 0)

abbrev pub is_plain_open : Bool → Declared → Bool
is_plain_open text d = is_open_extent d.extent && not (text && d.stars == 0)

abbrev pub has_star_or_array : Declared → Bool
has_star_or_array d = has_star d || not (is_single d.extent)

-- may have a declarator of its own: a typedef, a parameter, a member or an arm
abbrev pub has_declarator : Field → Bool
has_declarator f = is_typedef f.place || is_listed f.place

-- a char by value, through typedefs
abbrev pub is_char_spec : Field → Bool
is_char_spec f = is_unknown f.spec.core || (is_char f.spec.core && by_value f.spec)

abbrev pub is_bare : Bare → Bool
is_bare bares.No = false
is_bare _ = true

-- a conformant array of a list, by each declarator; an array of any kind
abbrev pub is_sizeable : Field → Bool
is_sizeable f = is_listed f.place && list_all (is_plain_open (has says_string f)) f.declared

abbrev pub is_countable : Field → Bool
is_countable f = is_listed f.place && list_all (is_plain_array (has says_string f)) f.declared

-- char with a star or an array
abbrev pub is_text : Field → Bool
is_text f = has_declarator f && (is_char_spec f && list_all has_star_or_array f.declared)

abbrev pub is_pointed : Field → Bool
is_pointed f = has_declarator f && list_all has_star f.declared

-- it leads to a union without a switch
abbrev pub is_switchable : Field → Bool
is_switchable f = is_unknown f.spec.core || is_bare_union f.spec.core

-- the attribute has a meaning on each declarator of its field
abbrev pub has_meaning : Field → Mark → Bool
has_meaning f marks.In = is_parameter f.place
has_meaning f marks.Out = is_parameter f.place
has_meaning f (marks.Pointer k) = is_pointed f
has_meaning f marks.Text = is_text f
has_meaning f marks.Idempotent = is_operation f.place
has_meaning f marks.Maybe = is_operation f.place
has_meaning f marks.Handle = is_typedef f.place
has_meaning f (marks.SizeIs s) = is_sizeable f
has_meaning f (marks.MaxIs s) = is_sizeable f
has_meaning f (marks.LengthIs s) = is_countable f
has_meaning f (marks.SwitchIs n) = is_switchable f
has_meaning f (marks.SwitchType at t) = is_bare f.bare
has_meaning f (marks.Range low high) = may_range f low high

-- ---- parameters

-- neither a pointer nor an array; a context handle by value breaks the rule on handles, and of an unknown type nothing more is said
abbrev pub is_out_value : Declared → Bool
is_out_value d = by_value d.ty && not (is_context_handle d.ty.core || is_unknown d.ty.core)

-- a parameter that comes back alone
abbrev pub is_out_alone : Field → Bool
is_out_alone f = has says_out f && not (has says_in f)

-- a pointer by its own declarator
abbrev pub is_own_pointer : Declared → Bool
is_own_pointer d = has_star d && is_single d.extent

-- the attribute is at fault on a parameter
abbrev pub bad_on_parameter : Field → Mark → Bool
bad_on_parameter f marks.Out = list_any is_out_value f.declared
bad_on_parameter f (marks.Pointer k) = not (is_ref k) && (is_out_alone f && list_any is_own_pointer f.declared)
bad_on_parameter f _ = false

abbrev pub attribute_places : Field → Attribute → List ℕ
attribute_places f a = at_if (not (has_meaning f a.mark) || (is_parameter f.place && bad_on_parameter f a.mark)) a.at

-- neither in nor out
abbrev pub lacks_direction : Field → Declared → Bool
lacks_direction f d = not (has says_in f || has says_out f) && not (is_handle_t d.ty.core || is_unknown d.ty.core)

-- a pointer that a typedef brought, which isn't ref
abbrev pub is_brought_pointer : Declared → Bool
is_brought_pointer d = not (has_star d) && (is_pointer_layer (outer d.ty) && not (is_ref_layer (outer d.ty)))

abbrev pub is_bad_parameter : Field → Declared → Bool
is_bad_parameter f d = lacks_direction f d || (is_out_alone f && is_brought_pointer d)

-- ---- conformant arrays, and structures that end in one; followed: a member of the same structure comes behind it

-- a size is given, or it is a string
abbrev pub is_sized : Field → Declared → Bool
is_sized f d = has says_most f || (has says_string f && d.stars == 0)

-- a parameter, or the last member of a structure
abbrev pub may_be_open : Field → Bool → Bool
may_be_open f followed = is_parameter f.place || (is_member f.place && not followed)

abbrev pub is_bad_array : Field → Bool → Declared → Bool
is_bad_array f followed d = is_open_extent d.extent && (not (is_sized f d) || not (may_be_open f followed))

-- the field's type is, by value, a structure that ends in a conformant array
abbrev pub is_open_by_value : Field → Bool
is_open_by_value f = by_value f.spec && is_open_struct f.spec.core

abbrev pub is_bad_element : Field → Declared → Bool
is_bad_element f d = not (is_single d.extent) && (d.stars == 0 && (is_open_layer (outer f.spec) || is_open_by_value f))

abbrev pub is_bad_struct : Field → Bool → Declared → Bool
is_bad_struct f followed d = (is_single d.extent && d.stars == 0) && (is_open_by_value f && ((is_member f.place && followed) || is_arm f.place))

abbrev pub declared_places : Field → Bool → Declared → List ℕ
declared_places f followed d =
    at_if ((is_parameter f.place && is_bad_parameter f d) || (is_bad_array f followed d || (is_bad_element f d || is_bad_struct f followed d))) d.name.at

abbrev pub is_more : {X : Type 0} → List X → Bool
is_more [] = false
is_more (x ∷ xs) = true

-- the declarators of a field; more: another field follows it
abbrev pub each_declared : Field → Bool → List Declared → List ℕ
each_declared f more [] = []
each_declared f more (d ∷ ds) = declared_places f (is_more ds || more) d ++ each_declared f more ds

abbrev pub field_places : Field → Bool → List ℕ
field_places f more = repeats same_kind place_of f.attributes ++ (flat_map (attribute_places f) f.attributes ++ each_declared f more f.declared)

abbrev pub each_field : List Field → List ℕ
each_field [] = []
each_field (f ∷ fs) = field_places f (is_more fs) ++ each_field fs

-- ---- maybe

-- a result or an out parameter; no type name stands for no result, so an unknown one is a result too
abbrev pub answers : Field → List Field → Bool
answers r ps = not (is_void r.spec.core) || list_any (has says_out) ps

abbrev pub maybe_places : Field → List Field → Attribute → List ℕ
maybe_places r ps a = at_if (says_maybe a.mark && answers r ps) a.at

abbrev pub call_places : Field → List Field → List ℕ
call_places r ps = field_places r false ++ (flat_map (maybe_places r ps) r.attributes ++ each_field ps)

-- ---- events

abbrev pub bad_attribute : List Event → Event → List ℕ
bad_attribute past (events.Single f) = field_places f false
bad_attribute past (events.Body tag fs) = each_field fs
bad_attribute past (events.Call r ps) = call_places r ps
bad_attribute past _ = []

-- ---- the interface's own attributes

abbrev pub file_kind : FileKindForm → ℕ
file_kind (OfUuid u) = 0
file_kind (OfVersion major minor) = 1
file_kind (OfPointerDefault k) = 2
file_kind (OfEndpoint texts) = 3

abbrev pub is_uuid : FileForm → Bool
is_uuid a = file_kind a.what == 0

abbrev pub same_file_kind : FileForm → FileForm → Bool
same_file_kind a b = file_kind a.what == file_kind b.what

abbrev pub file_place : FileForm → ℕ
file_place a = a.at

abbrev pub bad_file : TreeForm → List ℕ
bad_file tree = repeats same_file_kind file_place tree.attributes ++ at_if (not (list_any is_uuid tree.attributes)) tree.name.at
