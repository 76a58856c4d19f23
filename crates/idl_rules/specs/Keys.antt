-- What labels and attributes that are the same have in common.
use Rattle.std.specs.Prelude.{Option, Some, None, pos}
use Rattle.idl_tree.specs.declared.leaf.Num.{Num}
use Rattle.idl_forms.specs.Forms.{FileForm}
use Rattle.idl_outline.specs.declared.event.Label.{Label}
use Rattle.idl_outline.specs.declared.event.Label.TheVariants as labels
use Rattle.idl_outline.specs.declared.field.Attribute.{Attribute}
use Rattle.idl_rules.specs.declared.again.Key.{Key}
use Rattle.idl_rules.specs.declared.again.Key.TheVariants as keys
use Rattle.idl_names.specs.Declarators.{value_of}
use Rattle.idl_rules.specs.BadAttribute.{kind_of, file_kind}

abbrev pub number_key : Option Num → Key
number_key None = keys.Own
number_key (Some n) = keys.Number (value_of n)

abbrev pub label_key : Label → Key
label_key (labels.Case at n) = number_key n
label_key (labels.Default at) = keys.Word

abbrev pub attribute_key : Attribute → Key
attribute_key a = keys.Number (pos (kind_of a.mark))

abbrev pub file_key : FileForm → Key
file_key a = keys.Number (pos (file_kind a.what))
