use Rattle.std.proofs.Common.{◌-◌, arith}
use Rattle.pdu_codec.proofs.WritingLaws.{is_put, sized}
use Rattle.pdu_codec.proofs.writing.put_pdu.Goals as goal

pub overflow_cast-size : goal.overflow_cast-size
overflow_cast-size c =
    let put = is_put c.args.into.now.items c.put_head.new.into.items c.put_body.new.into.items c.args.pdu.now c.head_of.result c.head_of.ensures c.in_ok-put_head.ensures.ok c.in_ok-put_body.ensures.ok in
    omega (arith, put.size, c.requires.size, c.len.ensures, c.len-start.ensures)

pub set_size-requires : goal.set_size-requires
set_size-requires c =
    let put = is_put c.args.into.now.items c.put_head.new.into.items c.put_body.new.into.items c.args.pdu.now c.head_of.result c.head_of.ensures c.in_ok-put_head.ensures.ok c.in_ok-put_body.ensures.ok in
    omega (arith, put.size, put.long, c.len-start.ensures)

pub returns-clause-ok : goal.returns-clause-ok
returns-clause-ok c =
    let put = is_put c.args.into.now.items c.put_head.new.into.items c.put_body.new.into.items c.args.pdu.now c.head_of.result c.head_of.ensures c.in_ok-put_head.ensures.ok c.in_ok-put_body.ensures.ok in
    sized c.args.into.now.items c.args.pdu.now c.len-start.result (c.len.result - c.len-start.result) c.put_body.new.into.items c.set_size.new.into.items put (omega (arith, c.len-start.ensures)) (omega (arith, c.len.ensures)) c.set_size.ensures
