use Rattle.std.proofs.Common.{◌≡◌, map, drop}
use Rattle.idl_forms.specs.Forms.{file_form}
use Rattle.idl_names.specs.Attributes.{pointer_default}
use Rattle.idl_names.proofs.attributes.pointer_default.Given as goal

abbrev pub invariant-loop-attribute : goal.invariant-loop-attribute
invariant-loop-attribute l = pointer_default (map file_form (drop l.attribute-index l.attributes)) ≡ pointer_default (map file_form l.attributes)
