-- What the parts of a tree leave on a page.
use Rattle.std.specs.Prelude.{◌++◌}
use Rattle.idl_tokens.specs.declared.words.Word.TheVariants as words
use Rattle.idl_tokens.specs.declared.marks.Mark.TheVariants as marks
use Rattle.idl_tree.specs.declared.leaf.Num.{Num}
use Rattle.idl_tree.specs.declared.leaf.Base.{Base}
use Rattle.idl_tree.specs.declared.leaf.Ident.{Ident}
use Rattle.idl_print.specs.declared.page.Page.{Page}
use Rattle.idl_print.specs.Pages.{Puts}
use Rattle.idl_tree.specs.Pieces.{Pieces, word_pieces, mark_pieces, ident_pieces, num_pieces, base_pieces}
use Rattle.idl_print.specs.Canonical.{kinds_in}

-- The tokens of these pieces were put at the end of the old page.
unfoldable pub Prints : Pieces → Page → Page → Type 0
Prints pieces old new = Puts (kinds_in pieces) old new

-- the declaration of a constant
abbrev pub constant_pieces : Base → Ident → Num → Pieces
constant_pieces base name value = word_pieces words.Const ++ (base_pieces base ++ (ident_pieces name ++ (mark_pieces marks.Equals ++ (num_pieces value ++ mark_pieces marks.Semicolon))))
