use Rattle.std.proofs.Common.{refl, arith}
use Rattle.pdu_codec.proofs.SizeLaws.{fault_writable}
use Rattle.conn_asks.proofs.answers.fault.Goals as goal

pub written-requires : goal.written-requires
written-requires c = rw c.answer.ensures (fault_writable _ _ (omega arith) refl)
