use Rattle.std.proofs.Common.{◌≡◌, sym, subst, ◌∙◌}
use Rattle.std.specs.Prelude.{OnOk}
use Rattle.ndr_value.specs.Forms.{Form, form, types_of}
use Rattle.ndr_value.specs.Values.{val}
use Rattle.ndr_agree.proofs.Items.{union_is}
use Rattle.echo_manager.specs.Met as spec
use Rattle.echo_manager.specs.Views.{flat_of}
use Rattle.echo_manager.proofs.Walks.{then_so, flat_step}
use Rattle.echo_manager.proofs.flat.+flat.Goals as goal

pub flat_value-returns : goal.flat_value-returns
flat_value-returns t c =
    then_so c.flat_one.result
    (λ e. e ∙ sym (flat_step (types_of c.args.types.now) c.args.fuel (form c.args.shape.now) (val c.args.value.now) (flat_of c.args.met.now c.args.behind.now.items) c.if-fuel-eq0.false))
    c.flat_one.ensures

pub flat_one-returns-in-Union : goal.flat_one-returns-in-Union
flat_one-returns-in-Union t c =
    let types = types_of c.args.types.now in
    let s = union_is c.args.shape.now _ _ c.deref-in-Union.result.now c.deref-in-Union-2.result.now c.in-Union.is c.deref-in-Union.ensures c.deref-in-Union-2.ensures.value in
    subst (λ (x : Form). OnOk c.flat_union.result (flat_of c.flat_union.new.met c.flat_union.new.behind.items ≡ spec.flat_at types (spec.flat types c.args.fuel) x (val c.args.value.now) (flat_of c.args.met.now c.args.behind.now.items))) (sym s)
    c.flat_union.ensures
