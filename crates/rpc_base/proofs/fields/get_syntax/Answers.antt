use Rattle.std.proofs.Common.{◌∙◌, ap, take, drop, arith}
use Rattle.rpc_base.specs.Fields.{syntax_octets}
use Rattle.rpc_base.proofs.FieldLaws.{syntax_at, syntax_back, part_at}
use Rattle.rpc_base.proofs.fields.get_syntax.Goals as goal

pub returns : goal.returns
returns c =
    let xs = c.args.from.now in
    let twenty = take 20 (drop c.args.at xs) in
    let part = part_at 20 c.args.at xs c.requires (λ i. omega (arith, c.type_inv.from i)) in
    let is = syntax_at c.args.order xs c.args.at c.get_u32-version.result c.get_uuid.result c.get_u32-version.ensures.number c.get_uuid.ensures.uuid in
    record {
      syntax = is;
      octets = ap (syntax_octets c.args.order) is
          ∙ syntax_back c.args.order twenty part.len part.fits;
    }
