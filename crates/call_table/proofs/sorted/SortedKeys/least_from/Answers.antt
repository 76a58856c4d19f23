use Rattle.std.proofs.Common.{◌<◌, Some, None, length, subst, arith}
use Rattle.call_table.specs.Sorted.{IsKeyIndex, IsLeastFrom}
use Rattle.call_table.proofs.Ordered.{least_none, least_some}
use Rattle.call_table.proofs.sorted.SortedKeys.least_from.Goals as goal

pub returns-then-at-len : goal.returns-then-at-len
returns-then-at-len c =
    let ks = c.self.inside.keys.items in
    let index : IsKeyIndex ks c.args.low (length ks) = subst (λ i. IsKeyIndex ks c.args.low i) (omega (arith, c.if-at-len.true, c.len.ensures)) c.below-at.ensures in
    subst (λ v. IsLeastFrom v.keys c.args.low None) c.self.view_is (least_none ks c.args.low index)

pub returns : goal.returns
returns c =
    let ks = c.self.inside.keys.items in
    let lt : c.below-at.result < length ks = omega (arith, c.below-at.ensures.within, c.if-at-len.false, c.len.ensures) in
    let least = least_some ks c.args.low c.below-at.result c.index.result.now c.self.invariant.rise c.below-at.ensures lt c.index.ensures in
    subst (λ v. IsLeastFrom v.keys c.args.low (Some c.index.result.now)) c.self.view_is least
