use Rattle.ndr_value.specs.Values.{msg}
use Rattle.ndr_table.specs.Shown.{shown}
use Rattle.client_core.proofs.Asked.{stands, stands_short}
use Rattle.client_core.proofs.calls.stands.Goals as goal

pub returns-clause-is : goal.returns-clause-is
returns-clause-is c = stands (shown c.args.table.now) c.args.op (msg c.args.message.now) c.args.stub.now c.is_whole.ensures c.is_shallow.ensures c.written_is_stub.ensures c.requires.message c.requires.stub c.requires.short

pub returns-clause-short : goal.returns-clause-short
returns-clause-short c = stands_short (shown c.args.table.now) c.args.op (msg c.args.message.now) c.args.stub.now c.requires.message c.requires.stub c.requires.short
