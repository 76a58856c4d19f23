use Rattle.std.proofs.Common.{◌≡◌, ◌≤◌, ◌<◌, length}
use Rattle.idl_tokens.specs.Terminals.{terminals}
use Rattle.idl_tree.specs.Combinators.{a_name}
use Rattle.idl_tree.specs.Pieces.{Written}
use Rattle.idl_tree.specs.Trees.{names_pieces}
use Rattle.idl_parts.specs.Along.{names_at, more_of}
use Rattle.idl_parts.proofs.declarator.names.Given as goal

abbrev pub invariant-more : goal.invariant-more
invariant-more l = (1 ≤ length l.list.items) × Written (names_pieces l.list.items) l.tokens l.rest × (more_of a_name (terminals l.rest) ≡ names_at (terminals l.tokens)) × (length l.rest < length l.tokens)

abbrev pub decreases-more : goal.decreases-more
decreases-more l = length l.rest
