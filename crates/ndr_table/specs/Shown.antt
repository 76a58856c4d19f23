-- What a table shows.
use Rattle.std.specs.Prelude.{map}
use Rattle.ndr_value.specs.Forms.{types_of}
use Rattle.ndr_table.specs.declared.table.Table.{Table}
use Rattle.ndr_table.specs.Tables.{TableForm, op_form}

abbrev pub shown : Table → TableForm
shown t = record { id = t.id; types = types_of t.types.items; ops = map op_form t.ops.items; uses = t.uses.items }
