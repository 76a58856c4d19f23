use Rattle.ndr_value.specs.Values.{msg}
use Rattle.ndr_table.specs.Shown.{shown}
use Rattle.client_core.proofs.Asked.{is_message}
use Rattle.client_core.proofs.calls.is_message.Goals as goal

pub returns : goal.returns
returns c = is_message (shown c.args.table.now) c.args.op (msg c.args.message.now) _ c.requires c.fits.ensures.exact
