use Rattle.ndr_value.specs.Forms.{form}
use Rattle.ndr_value.specs.Values.{VByte, vals}
use Rattle.ndr_agree.specs.Views.{types_in, call_of}
use Rattle.ndr_write.specs.Views.{piece_of}
use Rattle.ndr_write.proofs.Steps.{then_so, name_so}
use Rattle.ndr_write.proofs.bytes.+flat_byte.Goals as goal

pub returns-in-Some : goal.returns-in-Some
returns-in-Some t c = λ moved.
    let w = c.args.writer.now in
    rw c.in-Named.is
    (then_so c.flat_byte.result
    (name_so (types_in w.call) w.order (call_of w.call) c.args.fuel c.in-Named.number (vals c.args.body.now) moved c.in-Named.field-1 (form c.in-Some.other.now) (VByte c.args.octet) (piece_of c.args.out.now c.args.behind.now.items) (piece_of c.flat_byte.new.out c.flat_byte.new.behind.items) c.if-fuel-eq0.false c.in-Some.ensures)
    (c.flat_byte.ensures moved))
