use Rattle.std.proofs.Common.{arith}
use Rattle.pdu_codec.proofs.HeadOnly.{whole_found, whole_same}
use Rattle.pdu_codec.proofs.heads.whole_head.Goals as goal

pub returns-clause-head : goal.returns-clause-head
returns-clause-head c =
    whole_found c.args.octets.now c.front_head.result (λ i. omega (arith, c.type_inv.octets i)) c.requires c.front_head.ensures.head c.front_head.ensures.fields

pub returns-clause-only : goal.returns-clause-only
returns-clause-only c =
    whole_same c.args.octets.now c.front_head.result c.requires c.front_head.ensures.head c.front_head.ensures.fields c.front_head.ensures.fault
