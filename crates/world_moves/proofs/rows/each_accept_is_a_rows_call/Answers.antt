use Rattle.world_moves.proofs.rows.Rows.{accepts_are_rows_calls}
use Rattle.world_moves.proofs.rows.each_accept_is_a_rows_call.Goals as goal

pub returns : goal.returns
returns c = accepts_are_rows_calls c.one_message.ensures c.written_is_stub.ensures
