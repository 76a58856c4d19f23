-- The canonical text of a tree.
use Rattle.std.specs.Prelude.{ℕ, List, map}
use Rattle.idl_tokens.specs.declared.kinds.Kind.{Kind}
use Rattle.idl_tokens.specs.declared.kinds.Kind.TheVariants as kinds
use Rattle.idl_print.specs.Layout.{layout}
use Rattle.idl_tree.specs.Pieces.{What, Pieces}
use Rattle.idl_tree.specs.Pieces.What.{Of, Opens}
use Rattle.idl_tree.specs.Files.{ast_pieces}
use Rattle.idl_tree.specs.declared.declaration.Ast.{Ast}

-- The kind of a tree's token. No level is printed, so 0 stands for an opening bracket's.
abbrev pub kind_of : What → Kind
kind_of (Of kind) = kind
kind_of (Opens bracket) = kinds.Open bracket 0

abbrev pub kinds_in : Pieces → List Kind
kinds_in pieces = map (λ p. kind_of p.what) pieces

-- the text of the tree's tokens, laid out
abbrev pub canonical_text : Ast → List ℕ
canonical_text tree = layout (kinds_in (ast_pieces tree))
