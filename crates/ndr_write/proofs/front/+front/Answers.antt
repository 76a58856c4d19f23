use Rattle.std.proofs.Common.{◌≡◌, ◌-◌, ◌≤◌, suc, length, sym, ap, ◌∙◌, refl, arith}
use Rattle.std.proofs.lemmas.Option.{slice_get_read}
use Rattle.ndr_value.specs.Forms.{form, forms}
use Rattle.ndr_value.specs.Values.{val, vals}
use Rattle.ndr_agree.specs.Views.{types_in, call_of}
use Rattle.ndr_agree.proofs.Items.{struct_is, value_struct}
use Rattle.ndr_model.specs.Fronts.{front, front_struct}
use Rattle.ndr_write.proofs.Steps.{not_zero, last_none, last_some}
use Rattle.ndr_write.proofs.front.+front.Goals as goal

pub front_last-returns-in-None : goal.front_last-returns-in-None
front_last-returns-in-None t c =
    let w = c.args.writer.now in
    let le : length c.args.values.now ≤ length c.args.members.now - 1 = omega (arith, c.in-None.ensures.lookup.3) in
    last_none (types_in w.call) w.order (call_of w.call) (front (types_in w.call) w.order (call_of w.call) c.args.fuel) (vals c.args.values.now) c.args.members.now c.args.values.now (not_zero (length c.args.members.now) (sym c.is_empty.ensures ∙ c.if-is_empty.false)) le

pub front_last-returns-in-Some : goal.front_last-returns-in-Some
front_last-returns-in-Some t c =
    let w = c.args.writer.now in
    let nz : length c.args.members.now ≡ 0 → ⊥ = not_zero (length c.args.members.now) (sym c.is_empty.ensures ∙ c.if-is_empty.false) in
    let k : length c.args.members.now ≡ suc (length c.args.members.now - 1) = omega (arith, nz) in
    c.front_count.ensures
    ∙ last_some (types_in w.call) w.order (call_of w.call) (front (types_in w.call) w.order (call_of w.call) c.args.fuel) (vals c.args.values.now) c.args.members.now c.args.values.now (length c.args.members.now - 1) c.index-members-last.result c.in-Some.value.now k
    (slice_get_read c.args.values.now (length c.args.values.now) (length c.args.members.now - 1) c.in-Some.value.now refl c.in-Some.ensures.lookup.3.0 c.in-Some.ensures.lookup.1) c.index-members-last.is

pub front_one-returns-in-Struct : goal.front_one-returns-in-Struct
front_one-returns-in-Struct t c = rw (struct_is c.args.shape.now _ c.deref.result.now c.in-Struct.is c.deref.ensures.value) c.front_struct.ensures

pub front_struct-returns-in-Struct : goal.front_struct-returns-in-Struct
front_struct-returns-in-Struct t c =
    let w = c.args.writer.now in
    c.front_last.ensures ∙ ap (front_struct (types_in w.call) w.order (call_of w.call) (front (types_in w.call) w.order (call_of w.call) c.args.fuel) (forms c.args.members.now)) (sym (value_struct c.args.value.now _ c.deref.result.now c.in-Struct.is c.deref.ensures.value))
