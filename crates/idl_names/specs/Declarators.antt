-- What declarators and labels say, by the constants that are known there.
use Rattle.std.specs.Prelude.{ℤ, pos, neg_ℤ, ◌==◌, Bool, not, ◌&&◌, List, length, Option, Some, None, if◌then◌else◌}
use Rattle.std.specs.List.{list_any}
use Rattle.idl_tree.specs.declared.leaf.Num.{Num}
use Rattle.idl_tree.specs.declared.leaf.ArraySize.{ArraySize}
use Rattle.idl_tree.specs.declared.leaf.ArraySize.TheVariants as sizes
use Rattle.idl_tree.specs.declared.leaf.Dtor.{Dtor}
use Rattle.idl_tree.specs.declared.spec.LabelKind.{LabelKind}
use Rattle.idl_tree.specs.declared.spec.LabelKind.TheVariants as labels
use Rattle.idl_names.specs.declared.place.Extent.{Extent}
use Rattle.idl_names.specs.declared.place.Extent.TheVariants as extents
use Rattle.idl_names.specs.Symbols.{ByName}

-- the number, with its sign
abbrev pub value_of : Num → ℤ
value_of n = if n.minus then neg_ℤ (pos n.value) else pos n.value

-- ---- arrays

abbrev pub size_extent : ByName Num → ArraySize → Extent
size_extent constants sizes.Empty = extents.Open
size_extent constants sizes.Star = extents.Open
size_extent constants (sizes.Number n) = extents.Fixed (Some n)
size_extent constants (sizes.Named i) = extents.Fixed (constants i.text)

-- whether a declarator with these brackets, or with none, is an array, and of what size
abbrev pub extent_of : ByName Num → Option ArraySize → Extent
extent_of constants None = extents.Single
extent_of constants (Some size) = size_extent constants size

-- ---- stars

-- a declarator without a star
abbrev pub by_value : List Dtor → Bool
by_value ds = list_any (λ d. d.stars == 0) ds

-- there is a declarator, and each has a star: what stands before them stands behind a pointer
abbrev pub all_pointed : List Dtor → Bool
all_pointed ds = not (length ds == 0) && not (by_value ds)

-- ---- labels

-- the number of a case
abbrev pub label_number : ByName Num → LabelKind → Option Num
label_number constants (labels.Number n) = Some n
label_number constants (labels.Named i) = constants i.text
label_number constants labels.Default = None
