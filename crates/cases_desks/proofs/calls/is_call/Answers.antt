use Rattle.ndr_table.specs.Shown.{shown}
use Rattle.cases_desks.proofs.calls.is_call.Goals as goal

pub returns : goal.returns
returns c = record {
  table = shown c.args.table.now;
  served = c.requires.served;
  number = c.requires.number;
  request = c.requires.request;
  handles = c.requires.handles;
}
