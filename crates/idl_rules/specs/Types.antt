-- What is asked of types and attributes.
use Rattle.std.specs.Prelude.{◌==◌, Bool, true, false, not, ◌&&◌, ◌||◌, Option, Some, is_none}
use Rattle.std.specs.List.{list_any}
use Rattle.idl_tree.specs.declared.leaf.Pk.{Pk}
use Rattle.idl_tree.specs.declared.leaf.Pk.TheVariants as pks
use Rattle.idl_outline.specs.declared.ty.DataType.{DataType}
use Rattle.idl_outline.specs.declared.ty.Core.{Core}
use Rattle.idl_outline.specs.declared.ty.Core.TheVariants as cores
use Rattle.idl_outline.specs.declared.ty.Layer.{Layer}
use Rattle.idl_outline.specs.declared.ty.Layer.TheVariants as layers
use Rattle.idl_names.specs.declared.place.Place.{Place}
use Rattle.idl_names.specs.declared.place.Place.TheVariants as places
use Rattle.idl_names.specs.declared.place.Extent.{Extent}
use Rattle.idl_names.specs.declared.place.Extent.TheVariants as extents
use Rattle.idl_outline.specs.declared.field.Mark.{Mark}
use Rattle.idl_outline.specs.declared.field.Mark.TheVariants as marks
use Rattle.idl_outline.specs.declared.field.Field.{Field}
use Rattle.idl_outline.specs.Types.{outer, deeper}
use Rattle.idl_rules.specs.declared.asked.Asked.{Asked}
use Rattle.idl_rules.specs.declared.asked.Asked.TheVariants as kinds
use Rattle.idl_rules.specs.declared.asked.Saying.{Saying}
use Rattle.idl_rules.specs.declared.asked.Saying.TheVariants as sayings

-- neither a pointer nor an array
abbrev pub by_value : DataType → Bool
by_value t = is_none (outer t)

abbrev pub is_unknown : Core → Bool
is_unknown cores.Unknown = true
is_unknown _ = false

abbrev pub is_char : Core → Bool
is_char cores.Char = true
is_char (cores.Text text) = true
is_char _ = false

abbrev pub is_void : Core → Bool
is_void cores.Void = true
is_void _ = false

abbrev pub is_handle_t : Core → Bool
is_handle_t cores.HandleT = true
is_handle_t _ = false

abbrev pub is_context_handle : Core → Bool
is_context_handle (cores.ContextHandle kind serialised) = true
is_context_handle _ = false

abbrev pub is_integer : Core → Bool
is_integer (cores.Int unsigned size) = true
is_integer _ = false

-- an integer but unsigned hyper, char, boolean or an enumeration: what a union's tag may be
abbrev pub is_tag_core : Core → Bool
is_tag_core (cores.Int unsigned size) = not (unsigned && size == 8)
is_tag_core cores.Char = true
is_tag_core (cores.Text text) = true
is_tag_core cores.Boolean = true
is_tag_core (cores.Enum count) = true
is_tag_core _ = false

-- the kind of type that is asked for
abbrev pub is_asked : Asked → Core → Bool
is_asked kinds.Integer c = is_integer c
is_asked kinds.Tag c = is_tag_core c

-- a structure that a conformant array ends
abbrev pub is_open_struct : Core → Bool
is_open_struct (cores.Struct o number) = o
is_open_struct _ = false

-- a union without a switch
abbrev pub is_bare_union : Core → Bool
is_bare_union (cores.Union switched number) = not switched
is_bare_union _ = false

abbrev pub is_pointer_layer : Option Layer → Bool
is_pointer_layer (Some (layers.Pointer k)) = true
is_pointer_layer _ = false

abbrev pub is_ref_layer : Option Layer → Bool
is_ref_layer (Some (layers.Pointer pks.Ref)) = true
is_ref_layer _ = false

abbrev pub is_open_layer : Option Layer → Bool
is_open_layer (Some layers.OpenArray) = true
is_open_layer _ = false

abbrev pub is_ref : Pk → Bool
is_ref pks.Ref = true
is_ref _ = false

-- one pointer to what has no further ones
abbrev pub is_one_pointer : DataType → Bool
is_one_pointer t = is_pointer_layer (outer t) && not (deeper t)

abbrev pub is_single : Extent → Bool
is_single extents.Single = true
is_single _ = false

abbrev pub is_open_extent : Extent → Bool
is_open_extent extents.Open = true
is_open_extent _ = false

-- ---- places

abbrev pub is_typedef : Place → Bool
is_typedef places.Typedef = true
is_typedef _ = false

abbrev pub is_operation : Place → Bool
is_operation places.Operation = true
is_operation _ = false

abbrev pub is_parameter : Place → Bool
is_parameter places.Parameter = true
is_parameter _ = false

abbrev pub is_member : Place → Bool
is_member places.Member = true
is_member _ = false

abbrev pub is_arm : Place → Bool
is_arm places.Arm = true
is_arm _ = false

-- a parameter, member or arm
abbrev pub is_listed : Place → Bool
is_listed p = is_parameter p || (is_member p || is_arm p)

-- ---- attributes

abbrev pub says_in : Mark → Bool
says_in marks.In = true
says_in _ = false

abbrev pub says_out : Mark → Bool
says_out marks.Out = true
says_out _ = false

abbrev pub says_string : Mark → Bool
says_string marks.Text = true
says_string _ = false

abbrev pub says_handle : Mark → Bool
says_handle marks.Handle = true
says_handle _ = false

abbrev pub says_maybe : Mark → Bool
says_maybe marks.Maybe = true
says_maybe _ = false

-- size_is or max_is
abbrev pub says_most : Mark → Bool
says_most (marks.SizeIs s) = true
says_most (marks.MaxIs s) = true
says_most _ = false

abbrev pub says_switch_type : Mark → Bool
says_switch_type (marks.SwitchType at t) = true
says_switch_type _ = false

abbrev pub says : Saying → Mark → Bool
says sayings.In = says_in
says sayings.Out = says_out
says sayings.Text = says_string
says sayings.Handle = says_handle
says sayings.Maybe = says_maybe
says sayings.Most = says_most
says sayings.SwitchType = says_switch_type

-- an attribute of the field says so
abbrev pub has : (Mark → Bool) → Field → Bool
has said f = list_any (λ a. said a.mark) f.attributes
