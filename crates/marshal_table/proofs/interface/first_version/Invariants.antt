use Rattle.std.proofs.Common.{◌≡◌, map, drop}
use Rattle.idl_forms.specs.Forms.{file_form}
use Rattle.marshal_table.specs.Interfaces.{first_in, version_in}
use Rattle.marshal_table.proofs.interface.first_version.Given as goal

-- what is left of the attributes has the answer
abbrev pub invariant-loop-attr : goal.invariant-loop-attr
invariant-loop-attr l = first_in version_in (map file_form (drop l.attr-index l.attrs)) ≡ first_in version_in (map file_form l.attrs)
