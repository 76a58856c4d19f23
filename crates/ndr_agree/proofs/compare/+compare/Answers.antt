use Rattle.std.proofs.Common.{◌≡◌, ◌≤◌, false, length, sym, subst, ◌∙◌, arith, rules}
use Rattle.std.specs.Prelude.{◌==◌}
use Rattle.ndr_value.specs.Forms.{Form, form, forms}
use Rattle.ndr_value.specs.Values.{val, vals}
use Rattle.ndr_model.specs.Compare as spec
use Rattle.ndr_agree.specs.Views.{types_in, call_of, check_of}
use Rattle.ndr_agree.proofs.Items.{struct_is, union_is, value_struct, value_array}
use Rattle.ndr_agree.proofs.Steps.{compare_step, each_left, struct_step, array_step}
use Rattle.ndr_agree.proofs.compare.+compare.Goals as goal

pub compare_array-returns-in-Array : goal.compare_array-returns-in-Array
compare_array-returns-in-Array t c =
    array_step (spec.compare (types_in c.args.call.now) (call_of c.args.call.now) c.args.fuel c.args.room) (call_of c.args.call.now) (vals c.args.body.now) c.args.moved c.args.kind.now (form c.args.inner.now) (val c.args.value.now) (vals c.deref.result.now)
    (check_of c.counts.new.self) (check_of c.args.check.now) (check_of c.compare_elements.new.check) (value_array c.args.value.now _ c.deref.result.now c.in-Array.is c.deref.ensures.value) c.counts.ensures c.compare_elements.ensures

pub compare_each-returns-then-not-is_empty : goal.compare_each-returns-then-not-is_empty
compare_each-returns-then-not-is_empty t c =
    let go = spec.compare (types_in c.args.call.now) (call_of c.args.call.now) c.args.fuel c.args.room in
    let le : length c.args.values.now ≤ c.loop-value.value-index = omega (arith, c.loop-value-test.false) in
    let e : (length c.loop-value.rest.now == 0) ≡ false = search rules in
    c.stray-then-not-is_empty.ensures ∙ each_left go (vals c.args.values.now) c.args.own c.args.values.now c.loop-value.value-index c.loop-value.rest.now (check_of c.loop-value.check) _ le e c.loop-value.invariant

pub compare_one-compare_struct-requires : goal.compare_one-compare_struct-requires
compare_one-compare_struct-requires t c = (search rules, struct_is c.args.shape.now _ c.deref.result.now c.in-Struct.is c.deref.ensures.value)

pub compare_one-returns-in-Struct : goal.compare_one-returns-in-Struct
compare_one-returns-in-Struct t c =
    let types = types_in c.args.call.now in
    let s = struct_is c.args.shape.now _ c.deref.result.now c.in-Struct.is c.deref.ensures.value in
    subst (λ (f : Form). check_of c.compare_struct.new.check ≡ spec.compare_at types (call_of c.args.call.now) (spec.compare types (call_of c.args.call.now) c.args.fuel) c.args.room (vals c.args.body.now) c.args.link c.args.moved f (val c.args.value.now) (check_of c.args.check.now)) (sym s)
    c.compare_struct.ensures

pub compare_one-returns-in-Union : goal.compare_one-returns-in-Union
compare_one-returns-in-Union t c =
    let types = types_in c.args.call.now in
    let s = union_is c.args.shape.now _ _ c.deref-in-Union.result.now c.deref-in-Union-2.result.now c.in-Union.is c.deref-in-Union.ensures c.deref-in-Union-2.ensures.value in
    subst (λ (f : Form). check_of c.compare_union.new.check ≡ spec.compare_at types (call_of c.args.call.now) (spec.compare types (call_of c.args.call.now) c.args.fuel) c.args.room (vals c.args.body.now) c.args.link c.args.moved f (val c.args.value.now) (check_of c.args.check.now)) (sym s)
    c.compare_union.ensures

pub compare_struct-returns-in-Struct : goal.compare_struct-returns-in-Struct
compare_struct-returns-in-Struct t c =
    struct_step (types_in c.args.call.now) (spec.compare (types_in c.args.call.now) (call_of c.args.call.now) c.args.fuel c.args.room) c.args.moved _ (forms c.args.members.now) (val c.args.value.now) (vals c.deref.result.now)
    (check_of c.front-own.new.check) (check_of c.args.check.now) (check_of c.compare_each.new.check) (value_struct c.args.value.now _ c.deref.result.now c.in-Struct.is c.deref.ensures.value) (c.front-own.ensures (forms c.args.members.now) c.requires) c.compare_each.ensures

pub compare_value-returns : goal.compare_value-returns
compare_value-returns t c =
    c.compare_one.ensures
    ∙ sym (compare_step (types_in c.args.call.now) (call_of c.args.call.now) c.args.fuel c.args.room (vals c.args.body.now) c.args.link c.args.moved (form c.args.shape.now) (val c.args.value.now) (check_of c.args.check.now) c.if-fuel-eq0.false)
