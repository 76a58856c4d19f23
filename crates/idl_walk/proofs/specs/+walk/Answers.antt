use Rattle.std.proofs.Common.{◌≡◌, IfOk, sym, subst}
use Rattle.idl_forms.specs.Forms.{KindForm}
use Rattle.idl_outline.specs.declared.ty.DataType.{DataType}
use Rattle.idl_outline.specs.Specs.{kind_type}
use Rattle.idl_walk.proofs.Layers.{is_bare_union}
use Rattle.idl_walk.proofs.specs.+walk.Goals as goal

pub kind_walked-returns-in-None-switch-clause-ty : goal.kind_walked-returns-in-None-switch-clause-ty
kind_walked-returns-in-None-switch-clause-ty t c =
    subst (λ (k : KindForm). IfOk c.bare_union.result (λ (ty : DataType). ty ≡ kind_type c.args.setting c.args.at k c.args.outline.now))
    (sym (is_bare_union c.args.kind.now c.in-Union.tag c.in-Union.switch c.in-Union.arms c.deref-in-None-switch.result.now c.in-Union.is c.in-None-switch.is c.deref-in-None-switch.ensures.value))
    c.bare_union.ensures.ty
