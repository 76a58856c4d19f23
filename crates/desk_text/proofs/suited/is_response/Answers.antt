use Rattle.ndr_value.specs.Values.{msg}
use Rattle.ndr_table.specs.Shown.{shown}
use Rattle.desk_text.proofs.Suiting.{response_fits}
use Rattle.desk_text.proofs.suited.is_response.Goals as goal

pub returns : goal.returns
returns c = response_fits (shown c.args.table.now) c.args.op (msg c.args.asked.now) (msg c.args.message.now) c.fits.result c.requires c.fits.ensures.exact
