use Rattle.std.proofs.Common.{rules}
use Rattle.ndr_value.specs.Values.{msg}
use Rattle.ndr_table.specs.Tables.{op_form}
use Rattle.ndr_model.specs.Stub as stub
use Rattle.ndr_agree.proofs.Bounded.{tested}
use Rattle.ndr_agree.proofs.range.op_in_range.Goals as goal

pub returns : goal.returns
returns c = tested (stub.entries c.args.way (op_form c.args.op.now)) (msg c.args.message.now).values c.all_in_range.result (search rules)
