use Rattle.std.proofs.Common.{◌≡◌, [], List, map, false, ap, ◌∙◌}
use Rattle.ndr_value.specs.Forms.{form}
use Rattle.ndr_value.specs.Values.{vals}
use Rattle.ndr_agree.specs.Views.{types_in, call_of}
use Rattle.ndr_model.specs.Pieces.{Piece}
use Rattle.ndr_model.specs.Written.{flat, deep}
use Rattle.ndr_write.specs.declared.state.Pending.{Pending}
use Rattle.ndr_write.specs.Views.{behind_of, pointed_of, given_of, followed, piece_of}
use Rattle.ndr_write.proofs.Chains.{piece}
use Rattle.ndr_write.proofs.Steps.{then_so, whole_so}
use Rattle.ndr_write.proofs.whole.+whole.Goals as goal

pub put_whole-returns : goal.put_whole-returns
put_whole-returns t c =
    let w = c.args.writer.now in
    let old = c.args.out.now in
    let mid = c.flat_pending.new.out in
    let part = flat (types_in w.call) w.order (call_of w.call) deep (vals c.args.pending.body.now) false (form c.args.pending.shape.now) (pointed_of c.args.pending.what) in
    let e : piece_of mid c.as_slice.result.now ≡ followed (piece_of old []) part =
    ap (λ (bs : List Pending). piece_of mid bs) c.as_slice.ensures.value ∙ c.in_ok-flat_pending.ensures ∙ ap (λ (bs : List Pending). followed (piece_of old bs) part) c.new-behind.ensures.items in
    then_so c.put_behind.result
    (whole_so (types_in w.call) w.order (call_of w.call) c.args.levels (behind_of c.args.pending) old.octets.items mid.octets.items (given_of old) (given_of mid) (map behind_of c.as_slice.result.now) (piece_of c.put_behind.new.out []) c.if-levels-eq0.false e)
    c.put_behind.ensures
