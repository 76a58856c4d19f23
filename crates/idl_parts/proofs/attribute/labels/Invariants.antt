use Rattle.std.proofs.Common.{◌≡◌, ◌<◌, length}
use Rattle.std.specs.List.{flat_map}
use Rattle.idl_tokens.specs.Terminals.{terminals}
use Rattle.idl_tree.specs.Pieces.{Written}
use Rattle.idl_tree.specs.Trees.{label_pieces}
use Rattle.idl_parts.specs.Along.{labels_at, more_labels_at}
use Rattle.idl_parts.proofs.attribute.labels.Given as goal

abbrev pub invariant-more : goal.invariant-more
invariant-more l = Written (flat_map label_pieces l.list.items) l.tokens l.rest × (more_labels_at (terminals l.rest) ≡ labels_at (terminals l.tokens)) × (length l.rest < length l.tokens)

abbrev pub decreases-more : goal.decreases-more
decreases-more l = length l.rest
