use Rattle.std.proofs.Common.{◌≡◌, Bool, false, length, sym, subst, arith}
use Rattle.std.specs.Prelude.{◌==◌, OnOk}
use Rattle.std.proofs.lemmas.Grind.{common_steps}
use Rattle.ndr_value.specs.Forms.{form}
use Rattle.ndr_value.specs.Values.{vals}
use Rattle.ndr_agree.specs.Views.{types_in, call_of}
use Rattle.ndr_model.specs.Written.{item_piece}
use Rattle.ndr_write.specs.Views.{followed, piece_of}
use Rattle.ndr_write.proofs.pointers.put_item.Goals as goal

pub returns : goal.returns
returns c =
    let w = c.args.writer.now in
    let e : (c.args.number == length c.args.out.now.items.items) ≡ false = grind (arith, common_steps, c.if-number-len.false, c.len.ensures) in
    subst (λ (b : Bool). OnOk c.put_again.result (piece_of c.put_again.new.out c.args.behind.now.items ≡ followed (piece_of c.args.out.now c.args.behind.now.items) (item_piece (types_in w.call) w.order (call_of w.call) b (vals c.args.body.now) (form c.args.inner.now) c.args.number)))
    (sym e) (c.put_again.ensures c.args.behind.now.items (vals c.args.body.now) (form c.args.inner.now))
