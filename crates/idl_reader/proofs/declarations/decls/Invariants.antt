use Rattle.std.proofs.Common.{◌≡◌, ◌<◌, ◌++◌, ◌∷◌, [], length}
use Rattle.std.specs.List.{flat_map}
use Rattle.idl_tokens.specs.Machine.{token, ◌>>=◌}
use Rattle.idl_tokens.specs.declared.marks.Bracket.TheVariants as brackets
use Rattle.idl_tokens.specs.Terminals.{terminals}
use Rattle.idl_tree.specs.Pieces.{Written, open_pieces}
use Rattle.idl_tree.specs.Files.{decl_pieces}
use Rattle.idl_reader.specs.Along.{decls_at}
use Rattle.idl_reader.proofs.declarations.decls.Given as goal
use Rattle.idl_parts.specs.Along.{open_at}

abbrev pub invariant-more : goal.invariant-more
invariant-more l =
    Written (open_pieces brackets.Curly ++ flat_map decl_pieces l.list.items) l.tokens l.rest
    × (decls_at (terminals l.rest) ≡ (open_at brackets.Curly (terminals l.tokens) >>= decls_at))
    × (length l.rest < length l.tokens)

abbrev pub decreases-more : goal.decreases-more
decreases-more l = length l.rest
