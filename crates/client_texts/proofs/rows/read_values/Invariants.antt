use Rattle.std.proofs.Common.{length, map}
use Rattle.ndr_value.specs.Forms.{types_of}
use Rattle.ndr_table.specs.Tables.{param_form}
use Rattle.client_texts.proofs.Lists.{Reached}
use Rattle.client_texts.proofs.rows.read_values.Given as goal

abbrev pub invariant-loop-param : goal.invariant-loop-param
invariant-loop-param l = Reached (types_of l.types.items) (map param_form l.params) l.text l.values.items (map param_form l.left) l.rest

abbrev pub decreases-loop-param : goal.decreases-loop-param
decreases-loop-param l = length l.left
