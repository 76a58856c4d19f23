use Rattle.std.proofs.Common.{◌≡◌, ◌∙◌, None, Ok, sym, ap}
use Rattle.ndr_value.specs.Forms.{form}
use Rattle.ndr_value.specs.Values.{Vals, val, vals, no_val, then_val}
use Rattle.ndr_table.specs.Tables.{result_form}
use Rattle.ndr_model.specs.Places.{Last}
use Rattle.ndr_model.specs.Stub.{last_entry}
use Rattle.ndr_model.specs.Message.{enough}
use Rattle.ndr_read.specs.Readings.{join, Followed}
use Rattle.ndr_pointers.specs.Views.{types_in}
use Rattle.ndr_read.specs.Views.{last_of}
use Rattle.ndr_read.proofs.Rows.{vals_push}
use Rattle.ndr_read.proofs.Follows.{no_result, a_result}
use Rattle.ndr_read.proofs.whole.read_result.Goals as goal

abbrev as_row : Vals → Last → Followed
as_row vs q = Ok (vs, q)

pub returns-in-None : goal.returns-in-None
returns-in-None c = no_result (types_in c.args.reader.now) c.args.reader.now.order c.args.reader.now.octets.now enough (vals c.args.values.items) (last_of c.args.tail.now) (last_entry c.args.way (result_form c.args.result_shape.now)) c.in-None.ensures

pub returns-in_ok-push-in-Some : goal.returns-in_ok-push-in-Some
returns-in_ok-push-in-Some c =
    let front = vals c.args.values.items in
    let v = val c.in_ok-value-in-Some.value in
    let q = last_of c.read_entry.new.tail in
    let pushed : vals c.push.new.self.items ≡ join front (then_val v no_val) = ap vals c.in_ok-push-in-Some.ensures.items ∙ vals_push c.args.values.items c.in_ok-value-in-Some.value in
    a_result (types_in c.args.reader.now) c.args.reader.now.order c.args.reader.now.octets.now enough front (last_of c.args.tail.now) (last_entry c.args.way (result_form c.args.result_shape.now)) (record { shape = form c.in-Some.shape.now; range = None }) v q c.in-Some.ensures c.in_ok-value-in-Some.ensures
    ∙ ap (λ (vs : Vals). as_row vs q) (sym pushed)
