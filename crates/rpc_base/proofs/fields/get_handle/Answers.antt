use Rattle.std.proofs.Common.{◌∙◌, ap, take, drop, arith}
use Rattle.rpc_base.specs.Fields.{handle_octets}
use Rattle.rpc_base.proofs.FieldLaws.{handle_at, handle_back, part_at}
use Rattle.rpc_base.proofs.fields.get_handle.Goals as goal

pub returns : goal.returns
returns c =
    let xs = c.args.from.now in
    let twenty = take 20 (drop c.args.at xs) in
    let part = part_at 20 c.args.at xs c.requires (λ i. omega (arith, c.type_inv.from i)) in
    let is = handle_at c.args.order xs c.args.at c.get_u32.result c.as_u128.result c.get_uuid.result c.get_u32.ensures.number c.get_uuid.ensures.uuid c.as_u128.ensures in
    record {
      handle = is;
      octets = ap (handle_octets c.args.order) is
          ∙ handle_back c.args.order twenty part.len part.fits;
    }
