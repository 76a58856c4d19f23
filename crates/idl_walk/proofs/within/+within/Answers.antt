use Rattle.std.proofs.Common.{◌≡◌, ◌+◌, IfOk, ℕ, sym, subst, ap, arith}
use Rattle.idl_forms.specs.Forms.{KindForm, kind_form, switch_form, arms_form}
use Rattle.idl_outline.specs.Within.{kind_within, switch_within, arms_within}
use Rattle.idl_walk.proofs.Layers.{is_struct, is_bare_union, is_union}
use Rattle.idl_walk.proofs.within.+within.Goals as goal

pub kind_within-returns-in-Some : goal.kind_within-returns-in-Some
kind_within-returns-in-Some t c =
    subst (λ (k : KindForm). IfOk c.struct_within.result (λ n. n ≡ kind_within k))
    (sym (is_struct c.args.kind.now c.in-Struct.tag c.in-Struct.members c.in-Some.list c.deref.result.now c.in-Struct.is c.in-Some.is c.deref.ensures.value))
    c.struct_within.ensures

pub kind_within-returns-in-None-switch : goal.kind_within-returns-in-None-switch
kind_within-returns-in-None-switch t c =
    let whole : kind_within (kind_form c.args.kind.now) ≡ 0 + arms_within (arms_form c.deref-in-None-switch.result.now) + 1 =
    ap kind_within (is_bare_union c.args.kind.now c.in-Union.tag c.in-Union.switch c.in-Union.arms c.deref-in-None-switch.result.now c.in-Union.is c.in-None-switch.is c.deref-in-None-switch.ensures.value) in
    let sum : arms_within (arms_form c.deref-in-None-switch.result.now) + 1 ≡ kind_within (kind_form c.args.kind.now) = omega (arith, whole) in
    subst (λ (x : ℕ). IfOk c.bare_within.result (λ n. n ≡ x)) sum c.bare_within.ensures

pub kind_within-returns-in_ok-inner-in-Some-switch : goal.kind_within-returns-in_ok-inner-in-Some-switch
kind_within-returns-in_ok-inner-in-Some-switch t c =
    let whole : kind_within (kind_form c.args.kind.now) ≡ switch_within (switch_form c.in-Some-switch.by) + arms_within (arms_form c.deref-in-Some-switch.result.now) + 1 =
    ap kind_within (is_union c.args.kind.now c.in-Union.tag c.in-Union.switch c.in-Some-switch.by c.in-Union.arms c.deref-in-Some-switch.result.now c.in-Union.is c.in-Some-switch.is c.deref-in-Some-switch.ensures.value) in
    let sum : c.in_ok-tag-in-Some-switch.tag + c.in_ok-inner-in-Some-switch.inner ≡ kind_within (kind_form c.args.kind.now) =
    omega (arith, whole, c.in_ok-tag-in-Some-switch.ensures, c.in_ok-inner-in-Some-switch.ensures) in
    subst (λ (x : ℕ). IfOk c.add.result (λ n. n ≡ x)) sum c.add.ensures
