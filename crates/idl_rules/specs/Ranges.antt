-- What a range may stand on: an integer of at most 32 bits that holds both numbers, or a Ref to one. Of an unknown type nothing is
-- said.
use Rattle.std.specs.Prelude.{ℕ, Bool, false, not, ◌&&◌, ◌||◌, nat_le, int_le}
use Rattle.std.specs.List.{list_all}
use Rattle.idl_tree.specs.declared.leaf.Num.{Num}
use Rattle.idl_outline.specs.declared.ty.DataType.{DataType}
use Rattle.idl_outline.specs.declared.ty.Core.{Core}
use Rattle.idl_outline.specs.declared.ty.Core.TheVariants as cores
use Rattle.idl_outline.specs.declared.field.Declared.{Declared}
use Rattle.idl_outline.specs.declared.field.Field.{Field}
use Rattle.idl_names.specs.Declarators.{value_of}
use Rattle.idl_outline.specs.Types.{outer, deeper}
use Rattle.idl_rules.specs.Numbers.{int_holds}
use Rattle.idl_rules.specs.Types.{by_value, is_unknown, is_ref_layer, is_parameter}

unfoldable pub num_holds : Bool → ℕ → Num → Bool
num_holds unsigned size n = int_holds unsigned size (value_of n)

unfoldable pub holds_both : Num → Num → Core → Bool
holds_both low high (cores.Int unsigned size) = nat_le size 4 && (num_holds unsigned size low && num_holds unsigned size high)
holds_both low high _ = false

-- a value, or a Ref to one
abbrev pub is_value_or_ref : DataType → Bool
is_value_or_ref t = by_value t || (is_ref_layer (outer t) && not (deeper t))

abbrev pub is_ranged : Num → Num → Declared → Bool
is_ranged low high d = is_unknown d.ty.core || (is_value_or_ref d.ty && holds_both low high d.ty.core)

abbrev pub in_order : Num → Num → Bool
in_order low high = int_le (value_of low) (value_of high)

-- a parameter of such a type, and numbers in order
abbrev pub may_range : Field → Num → Num → Bool
may_range f low high = is_parameter f.place && (in_order low high && list_all (is_ranged low high) f.declared)
