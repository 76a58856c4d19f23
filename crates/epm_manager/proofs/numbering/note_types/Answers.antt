use Rattle.std.proofs.Common.{arith}
use Rattle.epm_manager.proofs.numbering.note_types.Goals as goal

pub returns : goal.returns
returns c = record {
  object = c.note_uuid.ensures;
  iface = c.note_syntax.ensures;
  transfer = c.note_syntax-2.ensures;
  minor = omega arith;
  port = omega arith;
  ip = c.note_octets.ensures.octets;
  ip_size = c.note_octets.ensures.size;
}
