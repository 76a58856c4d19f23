use Rattle.std.proofs.Common.{◌≡◌, length, refl, sym, ap, ◌∙◌}
use Rattle.ndr_value.specs.Values.{VArray, val, vals, bytes}
use Rattle.ndr_value.proofs.Mirror.{count-vals}
use Rattle.ndr_agree.specs.Views.{types_in, call_of}
use Rattle.ndr_agree.proofs.Items.{value_array}
use Rattle.ndr_write.proofs.Chains.{count-bytes}
use Rattle.ndr_write.proofs.Steps.{array_front}
use Rattle.ndr_write.proofs.front.front_array.Goals as goal

pub returns-in-Array : goal.returns-in-Array
returns-in-Array c =
    let w = c.args.writer.now in
    c.from.ensures ∙ c.size_of.ensures
    ∙ array_front (types_in w.call) w.order (call_of w.call) (vals c.args.body.now) c.args.kind.now (length c.as_slice.result.now) (val c.args.value.now) (vals c.in-Array.values.items) (value_array c.args.value.now _ c.in-Array.values.items c.in-Array.is refl) (ap length c.as_slice.ensures.value ∙ sym (count-vals c.in-Array.values.items))

pub returns-in-Octets : goal.returns-in-Octets
returns-in-Octets c =
    let w = c.args.writer.now in
    c.from-in-Octets.ensures ∙ c.size_of-in-Octets.ensures
    ∙ array_front (types_in w.call) w.order (call_of w.call) (vals c.args.body.now) c.args.kind.now c.len-count.result (val c.args.value.now) (bytes c.in-Octets.octets) (ap val c.in-Octets.is) (c.len-count.ensures ∙ sym (count-bytes c.in-Octets.octets))
