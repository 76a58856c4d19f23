use Rattle.std.proofs.Common.{◌≡◌, ◌≤◌, ◌<◌, length}
use Rattle.idl_tokens.specs.Terminals.{terminals}
use Rattle.idl_tree.specs.Combinators.{a_text}
use Rattle.idl_tree.specs.Pieces.{Written, commas, text_pieces}
use Rattle.idl_parts.specs.Along.{more_of}
use Rattle.idl_reader.specs.Along.{texts_at}
use Rattle.idl_reader.proofs.attributes.texts.Given as goal

abbrev pub invariant-more : goal.invariant-more
invariant-more l = (1 ≤ length l.list.items) × Written (commas text_pieces l.list.items) l.tokens l.rest × (more_of a_text (terminals l.rest) ≡ texts_at (terminals l.tokens)) × (length l.rest < length l.tokens)

abbrev pub decreases-more : goal.decreases-more
decreases-more l = length l.rest
