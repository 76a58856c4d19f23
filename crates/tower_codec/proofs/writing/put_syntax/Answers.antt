use Rattle.std.proofs.Common.{arith, ◌≡◌, ◌+◌, ◌++◌, ◌∙◌, ap, sym, length}
use Rattle.rpc_base.specs.declared.identifiers.Order.TheVariants.{Little}
use Rattle.rpc_base.specs.Fields.{u16_octets}
use Rattle.tower_codec.proofs.WritingLaws.{syntax_put}
use Rattle.tower_codec.proofs.writing.put_syntax.Goals as goal

pub returns-clause-ok : goal.returns-clause-ok
returns-clause-ok c =
    let long : length c.args.syntax.now.id ≡ 16 = sym (ap length c.as_bytes.ensures) ∙ c.size.ensures.all in
    let sized : c.size.result + 3 ≡ 19 = omega (arith, c.size.ensures.size) in
    syntax_put c.args.syntax.now c.args.into.now.items c.put_u16.new.into.items c.put.new.into.items c.put_uuid.new.into.items c.put_u16-2.new.into.items c.put_u16-3.new.into.items c.put_u16-4.new.into.items long
    (c.in_ok-put_u16.ensures.ok ∙ ap (λ n. c.args.into.now.items ++ u16_octets Little n) sized) c.in_ok-put.ensures.ok c.in_ok-put_uuid.ensures.ok c.in_ok-put_u16-2.ensures.ok c.in_ok-put_u16-3.ensures.ok c.in_ok-put_u16-4.ensures.ok
