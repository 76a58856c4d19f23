use Rattle.std.proofs.Common.{refl, arith}
use Rattle.pdu_codec.proofs.SizeLaws.{alter_resp_writable}
use Rattle.conn_asks.proofs.answers.alter_resp.Goals as goal

pub written-requires : goal.written-requires
written-requires c = rw (c.answer.ensures, c.new.ensures) (alter_resp_writable _ _ (omega arith) refl c.requires.0 c.requires.1 (omega (arith, c.requires.0)))
