use Rattle.std.proofs.Common.{arith, rules}
use Rattle.std.proofs.lemmas.List.Sorted.{IsPartitionPoint-from_clause, IsPartitionedBy-ltb}
use Rattle.call_table.proofs.Ordered.{is_low, key_index}
use Rattle.call_table.proofs.sorted.below.Goals as goal

pub returns : goal.returns
returns c =
    let facts = c.partition_point.ensures in
    key_index _ _ _ (omega (arith, facts.bound)) (IsPartitionPoint-from_clause (is_low c.args.key) _ _ facts.partitioned (IsPartitionedBy-ltb (λ n. n) _ _ c.requires) (λ a r f called. search rules))
