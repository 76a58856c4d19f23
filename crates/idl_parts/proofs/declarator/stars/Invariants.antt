use Rattle.std.proofs.Common.{◌≡◌, ◌≤◌, ◌+◌, length}
use Rattle.idl_tokens.specs.Terminals.{terminals}
use Rattle.idl_tree.specs.Pieces.{Written, star_pieces}
use Rattle.idl_parts.specs.Along.{stars_at}
use Rattle.idl_parts.proofs.declarator.stars.Given as goal

abbrev pub invariant-more : goal.invariant-more
invariant-more l = Written (star_pieces l.count) l.tokens l.rest × (stars_at (terminals l.rest) ≡ stars_at (terminals l.tokens)) × (l.count + length l.rest ≤ length l.tokens)

abbrev pub decreases-more : goal.decreases-more
decreases-more l = length l.rest
