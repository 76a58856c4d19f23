use Rattle.std.proofs.Common.{◌≡◌, map, drop}
use Rattle.idl_forms.specs.Forms.{file_form}
use Rattle.marshal_table.specs.Interfaces.{first_in, uuid_in}
use Rattle.marshal_table.proofs.interface.first_uuid.Given as goal

-- what is left of the attributes has the answer
abbrev pub invariant-loop-attr : goal.invariant-loop-attr
invariant-loop-attr l = first_in uuid_in (map file_form (drop l.attr-index l.attrs)) ≡ first_in uuid_in (map file_form l.attrs)
