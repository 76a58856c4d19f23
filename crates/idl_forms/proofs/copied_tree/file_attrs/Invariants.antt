use Rattle.std.proofs.Common.{◌≡◌, map, take}
use Rattle.idl_forms.specs.Forms.{file_form}
use Rattle.idl_forms.proofs.copied_tree.file_attrs.Given as goal

abbrev pub invariant-loop-attr : goal.invariant-loop-attr
invariant-loop-attr l = map file_form l.copies.items ≡ map file_form (take l.attr-index l.list)
