use Rattle.std.proofs.Common.{◌≡◌, ◌==◌, ap, subst, List, ℕ, Bool, length, map}
use Rattle.ndr_value.specs.Forms.{form, types_of}
use Rattle.ndr_value.specs.Values.{Val}
use Rattle.ndr_table.specs.declared.operation.Param.{Param}
use Rattle.ndr_table.specs.Tables.{param_form}
use Rattle.client_texts.specs.Renaming.{ItemStands}
use Rattle.client_texts.proofs.Renamed.{nothing}
use Rattle.client_texts.proofs.Lists.{Reached, no_row, row_start, row_more, row_stops, row_end, row_open, none_is}
use Rattle.client_texts.proofs.rows.read_values.Goals as goal

pub returns-in_default : goal.returns-in_default
returns-in_default c = no_row (types_of c.args.types.now.items) (map param_form c.args.params.now) c.args.text.now c.in_default.ensures

pub loop-param-init : goal.loop-param-init
loop-param-init c = row_start (types_of c.args.types.now.items) (map param_form c.args.params.now) c.args.text.now c.new-values.result.items c.in-Some.rest.now c.new-values.ensures.items c.in-Some.ensures

pub returns-in_default-2 : goal.returns-in_default-2
returns-in_default-2 c =
    let len = c.loop-param.values.ok.0 in
    let said = c.is_empty-first.ensures in
    let first : c.is_empty-first.result ≡ (length c.loop-param.values.items == 0) = cc in
    let is = none_is c.loop-param.values.items c.is_empty-first.result first in
    let none = rw c.in_default-2.is at c.in_ok-value.ensures in
    let reached = subst (λ (x : List Param). Reached (types_of c.args.types.now.items) (map param_form c.args.params.now) c.args.text.now c.loop-param.values.items (map param_form x) c.loop-param.rest.now) c.in-Some-split_first.ensures.cases.0
    c.loop-param.invariant in
    row_stops (types_of c.args.types.now.items) (map param_form c.args.params.now) c.args.text.now c.loop-param.values.items (param_form c.in-Some-split_first.param.now) (map param_form c.in-Some-split_first.others.now) c.loop-param.rest.now
    c.if-param.true reached
    (subst (λ (b : Bool). (v : Val) (rest : List ℕ) → ItemStands (types_of c.args.types.now.items) (form c.in-Some-split_first.param.now.shape) b c.loop-param.rest.now v rest → ⊥) is none)

pub loop-param-preserved-in_ok-push : goal.loop-param-preserved-in_ok-push
loop-param-preserved-in_ok-push c =
    let len = c.loop-param.values.ok.0 in
    let said = c.is_empty-first.ensures in
    let first : c.is_empty-first.result ≡ (length c.loop-param.values.items == 0) = cc in
    let is = none_is c.loop-param.values.items c.is_empty-first.result first in
    let item = rw c.in-Some-2.is at c.in_ok-value.ensures in
    let reached = subst (λ (x : List Param). Reached (types_of c.args.types.now.items) (map param_form c.args.params.now) c.args.text.now c.loop-param.values.items (map param_form x) c.loop-param.rest.now) c.in-Some-split_first.ensures.cases.0
    c.loop-param.invariant in
    rw c.in_ok-push.ensures.items
    (row_more (types_of c.args.types.now.items) (map param_form c.args.params.now) c.args.text.now c.loop-param.values.items (param_form c.in-Some-split_first.param.now) (map param_form c.in-Some-split_first.others.now) c.loop-param.rest.now
    c.in-Some-2.after.now c.in-Some-2.value c.if-param.true reached
    (subst (λ (b : Bool). ItemStands (types_of c.args.types.now.items) (form c.in-Some-split_first.param.now.shape) b c.loop-param.rest.now (Rattle.ndr_value.specs.Values.val c.in-Some-2.value) c.in-Some-2.after.now) is item))

pub returns-in-Some-behind : goal.returns-in-Some-behind
returns-in-Some-behind c =
    row_end (types_of c.args.types.now.items) (map param_form c.args.params.now) c.args.text.now c.loop-param.values.items (map param_form c.loop-param.left.now) c.loop-param.rest.now c.in-Some-behind.after.now
    (ap (map param_form) (nothing c.loop-param.left.now c.in_default-split_first.ensures.cases)) c.in-Some-behind.ensures c.loop-param.invariant

pub returns : goal.returns
returns c =
    row_open (types_of c.args.types.now.items) (map param_form c.args.params.now) c.args.text.now c.loop-param.values.items (map param_form c.loop-param.left.now) c.loop-param.rest.now
    (ap (map param_form) (nothing c.loop-param.left.now c.in_default-split_first.ensures.cases)) c.in-None.ensures c.loop-param.invariant
