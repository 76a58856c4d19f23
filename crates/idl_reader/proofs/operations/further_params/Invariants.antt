use Rattle.std.proofs.Common.{◌≡◌, ◌≤◌, length}
use Rattle.idl_tokens.specs.Terminals.{terminals}
use Rattle.idl_tree.specs.Grammar.{param}
use Rattle.idl_parts.specs.Along.{more_of}
use Rattle.idl_reader.proofs.Loops.{Behind}
use Rattle.idl_reader.proofs.operations.further_params.Given as goal

abbrev pub invariant-more : goal.invariant-more
invariant-more l = (1 ≤ length l.list.items) × Behind l.fn.first l.list.items l.tokens l.rest × (more_of param (terminals l.rest) ≡ more_of param (terminals l.tokens)) × (length l.rest ≤ length l.tokens)

abbrev pub decreases-more : goal.decreases-more
decreases-more l = length l.rest
