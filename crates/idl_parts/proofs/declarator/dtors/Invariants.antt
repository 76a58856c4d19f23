use Rattle.std.proofs.Common.{◌≡◌, ◌≤◌, ◌<◌, length}
use Rattle.idl_tokens.specs.Terminals.{terminals}
use Rattle.idl_tree.specs.Grammar.{dtor}
use Rattle.idl_tree.specs.Pieces.{Written}
use Rattle.idl_tree.specs.Trees.{dtors_pieces}
use Rattle.idl_parts.specs.Along.{dtors_at, more_of}
use Rattle.idl_parts.proofs.declarator.dtors.Given as goal

abbrev pub invariant-more : goal.invariant-more
invariant-more l = (1 ≤ length l.list.items) × Written (dtors_pieces l.list.items) l.tokens l.rest × (more_of dtor (terminals l.rest) ≡ dtors_at (terminals l.tokens)) × (length l.rest < length l.tokens)

abbrev pub decreases-more : goal.decreases-more
decreases-more l = length l.rest
