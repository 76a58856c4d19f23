use Rattle.std.proofs.Common.{refl, arith}
use Rattle.pdu_codec.proofs.SizeLaws.{bind_ack_writable}
use Rattle.conn_asks.proofs.answers.bind_ack.Goals as goal

pub written-requires : goal.written-requires
written-requires c =
    rw (c.answer-pdu.ensures, c.requires.address) (bind_ack_writable _ _ (omega arith) refl c.requires.results.0 c.requires.results.1 (omega (arith, c.requires.results.0)))
