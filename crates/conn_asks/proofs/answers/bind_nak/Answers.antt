use Rattle.std.proofs.Common.{refl, arith}
use Rattle.pdu_codec.proofs.SizeLaws.{bind_nak_writable}
use Rattle.conn_asks.proofs.answers.bind_nak.Goals as goal

pub written-requires : goal.written-requires
written-requires c = rw (c.answer.ensures, c.in_ok-push.ensures.ok, c.new-versions.ensures) (bind_nak_writable _ _ (omega arith) refl (omega arith))
