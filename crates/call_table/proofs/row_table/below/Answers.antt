use Rattle.std.proofs.Common.{arith, rules}
use Rattle.std.proofs.lemmas.List.Sorted.{IsPartitionPoint-from_clause}
use Rattle.call_table.proofs.Keyed.{is_low, keys_parted, keys_placed}
use Rattle.call_table.proofs.row_table.below.Goals as goal

pub returns : goal.returns
returns c =
    let facts = c.partition_point.ensures in
    keys_placed _ _ _ (omega (arith, facts.bound)) (IsPartitionPoint-from_clause (is_low c.args.call) _ _ facts.partitioned (keys_parted _ _ c.requires) (λ a r f called. search rules))
