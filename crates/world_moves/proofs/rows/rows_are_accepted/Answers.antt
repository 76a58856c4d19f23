use Rattle.world_moves.proofs.rows.Rows.{rows_are_accepted}
use Rattle.world_moves.proofs.rows.rows_are_accepted.Goals as goal

pub returns : goal.returns
returns c = rows_are_accepted c.one_message.ensures c.written_is_stub.ensures
