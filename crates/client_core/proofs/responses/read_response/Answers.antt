use Rattle.ndr_table.specs.Shown.{shown}
use Rattle.client_core.specs.States.{calling}
use Rattle.client_core.proofs.Heard.{reads}
use Rattle.client_core.proofs.Answering.{of_op}
use Rattle.client_core.proofs.responses.read_response.Goals as goal

pub returns-clause-reads : goal.returns-clause-reads
returns-clause-reads c =
    let is = c.as_slice-stub.ensures in
    reads (shown c.args.table.now) (calling c.args.call.now) c.args.joined.now _ c.requires (rw is at c.decode.ensures.found) (rw is at c.decode.ensures.exact)

pub returns-clause-of_op : goal.returns-clause-of_op
returns-clause-of_op c = of_op (shown c.args.table.now) (calling c.args.call.now) _ c.requires c.decode.ensures.of_op
