use Rattle.std.proofs.Common.{rules}
use Rattle.std.proofs.lemmas.List.Sorted.{IsPartitionPoint-from_clause}
use Rattle.handle_table.proofs.Serials.{is_low, parted, placed}
use Rattle.handle_table.proofs.places.below.Goals as goal

pub returns : goal.returns
returns c =
    let facts = c.partition_point.ensures in
    placed _ _ _ facts.bound (IsPartitionPoint-from_clause (is_low c.args.serial) _ _ facts.partitioned (parted _ _ c.requires) (λ a r f called. search rules))
