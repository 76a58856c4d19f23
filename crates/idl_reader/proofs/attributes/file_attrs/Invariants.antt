use Rattle.std.proofs.Common.{◌≡◌, ◌≤◌, ◌<◌, ◌++◌, ◌∷◌, [], length}
use Rattle.idl_tokens.specs.Machine.{token, ◌>>=◌}
use Rattle.idl_tokens.specs.declared.marks.Bracket.TheVariants as brackets
use Rattle.idl_tokens.specs.Terminals.{terminals}
use Rattle.idl_tree.specs.Grammar.{file_attr}
use Rattle.idl_tree.specs.Pieces.{Written, commas, open_pieces}
use Rattle.idl_tree.specs.Files.{file_attr_pieces}
use Rattle.idl_parts.specs.Along.{more_of, open_at}
use Rattle.idl_reader.specs.Along.{file_attr_list_at}
use Rattle.idl_reader.proofs.attributes.file_attrs.Given as goal

abbrev pub invariant-more : goal.invariant-more
invariant-more l =
    (1 ≤ length l.list.items)
    × Written (open_pieces brackets.Square ++ commas file_attr_pieces l.list.items) l.tokens l.rest
    × (more_of file_attr (terminals l.rest) ≡ (open_at brackets.Square (terminals l.tokens) >>= file_attr_list_at))
    × (length l.rest < length l.tokens)

abbrev pub decreases-more : goal.decreases-more
decreases-more l = length l.rest
