use Rattle.std.proofs.Common.{take, drop, arith}
use Rattle.rpc_base.proofs.FieldLaws.{uuid_read, part_at}
use Rattle.rpc_base.proofs.fields.get_uuid.Goals as goal

pub returns-in-Little-clause-octets : goal.returns-in-Little-clause-octets
returns-in-Little-clause-octets c =
    let part = part_at 16 c.args.at c.args.from.now c.requires (λ i. omega (arith, c.type_inv.from i)) in
    uuid_read c.args.order c.from_bytes_le.result c.octets_at-octets.result (take 16 (drop c.args.at c.args.from.now)) c.in-Little.is c.from_bytes_le.ensures c.octets_at-octets.ensures part.len
