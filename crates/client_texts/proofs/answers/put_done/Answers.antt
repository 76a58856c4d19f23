use Rattle.std.proofs.Common.{◌≡◌}
use Rattle.ndr_value.specs.Values.{msg}
use Rattle.client_texts.proofs.Lines.{done_result}
use Rattle.client_texts.proofs.answers.put_done.Goals as goal

pub returns : goal.returns
returns c = done_result c.put_row.result c.args.known.now (msg c.args.message.now) c.args.into.now.items _ _ c.in_ok-put.ensures.ok c.put_row.ensures
