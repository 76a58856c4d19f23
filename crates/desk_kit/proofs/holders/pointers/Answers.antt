use Rattle.std.proofs.Common.{◌∙◌, ◌+◌, ◌-◌, List, sym, ap}
use Rattle.ndr_value.specs.declared.value.Value.{Value}
use Rattle.desk_kit.specs.Rows.{vals_then}
use Rattle.desk_kit.specs.MessageParts.{pointers}
use Rattle.desk_kit.proofs.Counted.{pointers_left}
use Rattle.desk_kit.proofs.Rows.{one_more}
use Rattle.desk_kit.proofs.holders.pointers.Goals as goal

pub loop-at-preserved : goal.loop-at-preserved
loop-at-preserved c =
    let rest = pointers (c.args.first + (c.loop-at.at + 1)) (c.args.count - (c.loop-at.at + 1)) in
    ap (λ (vs : List Value). vals_then vs rest) c.in_ok-push.ensures.items
    ∙ one_more c.loop-at.pointers.items _ rest
    ∙ ap (vals_then c.loop-at.pointers.items) (sym (pointers_left c.args.first c.args.count c.loop-at.at c.loop-at-test.true))
    ∙ c.loop-at.invariant
