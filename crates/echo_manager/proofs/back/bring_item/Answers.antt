use Rattle.std.proofs.Common.{◌≡◌, sym, ap, ◌∙◌}
use Rattle.ndr_value.specs.Values.{Vals, val, vals}
use Rattle.ndr_model.specs.Named.{nth}
use Rattle.desk_kit.specs.Rows.{vals_then}
use Rattle.echo_manager.proofs.Anew.{item_some, item_none}
use Rattle.echo_manager.proofs.Walks.{then_so}
use Rattle.echo_manager.proofs.back.bring_item.Goals as goal

pub returns-in-None : goal.returns-in-None
returns-in-None c = λ rest.
    ap (λ (vs : Vals). vals_then c.args.into.now.items vs) (sym (item_none c.args.met.now (nth (vals c.args.heap.now) c.args.number) rest c.in-None.ensures))

pub returns-in-Some : goal.returns-in-Some
returns-in-Some c =
    then_so c.bring.result
    (λ f. λ rest. f rest ∙ ap (λ (vs : Vals). vals_then c.args.into.now.items vs) (sym (item_some c.args.met.now (nth (vals c.args.heap.now) c.args.number) (val c.in-Some.value.now) rest c.in-Some.ensures)))
    c.bring.ensures
