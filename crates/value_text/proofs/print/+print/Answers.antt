use Rattle.std.proofs.Common.{◌≡◌, ◌++◌, subst}
use Rattle.std.specs.Prelude.{OnOk}
use Rattle.ndr_value.specs.Values.{Val}
use Rattle.value_text.specs.Texts.{value_text}
use Rattle.value_text.proofs.Printed.{struct_is, array_is, item_more, items_done}
use Rattle.value_text.proofs.print.+print.Goals as goal

pub put_value-returns-in-Struct : goal.put_value-returns-in-Struct
put_value-returns-in-Struct t c =
    subst (λ (y : Val). OnOk c.put_struct.result (c.put_struct.new.into.items ≡ c.args.into.now.items ++ value_text y))
    (struct_is c.args.value.now _ c.deref.result.now c.in-Struct.is c.deref.ensures.value) c.put_struct.ensures

pub put_value-returns-in-Array : goal.put_value-returns-in-Array
put_value-returns-in-Array t c =
    subst (λ (y : Val). OnOk c.put_array.result (c.put_array.new.into.items ≡ c.args.into.now.items ++ value_text y))
    (array_is c.args.value.now _ c.deref-in-Array.result.now c.in-Array.is c.deref-in-Array.ensures.value) c.put_array.ensures

pub put_list-loop-value-preserved : goal.put_list-loop-value-preserved
put_list-loop-value-preserved t c =
    item_more c.loop-value.first c.args.values.now c.loop-value.value-index c.value-item.result _ _ _ c.loop-value-test.true c.value-item.is c.in_ok-put_item.ensures c.loop-value.invariant

pub put_list-returns : goal.put_list-returns
put_list-returns t c = items_done c.loop-value.first c.args.values.now c.loop-value.value-index _ _ c.loop-value-test.false c.loop-value.invariant
