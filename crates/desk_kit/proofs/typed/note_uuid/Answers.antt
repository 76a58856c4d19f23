use Rattle.std.proofs.Common.{◌∙◌, length, sym, ap, subst}
use Rattle.rpc_base.specs.Fields.{IsOctets}
use Rattle.desk_kit.proofs.typed.note_uuid.Goals as goal

pub returns : goal.returns
returns c = record { size = ap length (sym c.as_bytes.ensures) ∙ c.note_octets.ensures.size; octets = subst IsOctets c.as_bytes.ensures c.note_octets.ensures.octets }
