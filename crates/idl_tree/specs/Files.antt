-- The tokens of declarations and of a whole tree.
use Rattle.std.specs.Prelude.{List, [], ◌++◌, Option, Some, None, Bool, cond}
use Rattle.std.specs.List.{flat_map}
use Rattle.idl_tokens.specs.declared.words.Word.TheVariants as words
use Rattle.idl_tokens.specs.declared.marks.Mark.TheVariants as marks
use Rattle.idl_tokens.specs.declared.marks.Bracket.TheVariants as brackets
use Rattle.idl_tree.specs.Pieces.{Pieces, placed, within, commas, word_pieces, mark_pieces, ident_pieces, num_pieces, pk_pieces, base_pieces, dtor_pieces, text_pieces, uuid_pieces, end_pieces}
use Rattle.idl_tree.specs.Trees.{spec_pieces, attrs_pieces, dtors_pieces}
use Rattle.idl_tree.specs.declared.leaf.Num.{Num}
use Rattle.idl_tree.specs.declared.declaration.Ast.{Ast}
use Rattle.idl_tree.specs.declared.declaration.Decl.{Decl}
use Rattle.idl_tree.specs.declared.declaration.DeclKind.{DeclKind}
use Rattle.idl_tree.specs.declared.declaration.DeclKind.TheVariants as decls
use Rattle.idl_tree.specs.declared.declaration.ParamNode.{ParamNode}
use Rattle.idl_tree.specs.declared.file.FileAttr.{FileAttr}
use Rattle.idl_tree.specs.declared.file.FileAttrKind.{FileAttrKind}
use Rattle.idl_tree.specs.declared.file.FileAttrKind.TheVariants as file_attrs

-- "." and the minor number, where there is one
unfoldable pub minor_pieces : Option Num → Pieces
minor_pieces None = []
minor_pieces (Some n) = mark_pieces marks.Dot ++ num_pieces n

unfoldable pub file_attr_kind_pieces : FileAttrKind → Pieces
file_attr_kind_pieces (file_attrs.Uuid id) = word_pieces words.Uuid ++ within brackets.Round (uuid_pieces id)
file_attr_kind_pieces (file_attrs.Version major minor) = word_pieces words.Version ++ within brackets.Round (num_pieces major ++ minor_pieces minor)
file_attr_kind_pieces (file_attrs.PointerDefault p) = word_pieces words.PointerDefault ++ within brackets.Round (pk_pieces p)
file_attr_kind_pieces (file_attrs.Endpoint texts) = word_pieces words.Endpoint ++ within brackets.Round (commas text_pieces texts.items)

unfoldable pub file_attr_pieces : FileAttr → Pieces
file_attr_pieces a = placed a.at (file_attr_kind_pieces a.what)

unfoldable pub param_pieces : ParamNode → Pieces
param_pieces p = attrs_pieces p.attrs.items ++ (spec_pieces p.spec ++ dtor_pieces p.dtor)

-- "void", or the parameters
unfoldable pub params_pieces : Bool → List ParamNode → Pieces
params_pieces void_word ps = cond void_word (word_pieces words.Void) [] ++ commas param_pieces ps

unfoldable pub decl_kind_pieces : DeclKind → Pieces
decl_kind_pieces (decls.Const base name value) = word_pieces words.Const ++ (base_pieces base ++ (ident_pieces name ++ (mark_pieces marks.Equals ++ (num_pieces value ++ mark_pieces marks.Semicolon))))
decl_kind_pieces (decls.Typedef attrs spec dtors) = word_pieces words.Typedef ++ (attrs_pieces attrs.items ++ (spec_pieces spec ++ (dtors_pieces dtors.items ++ mark_pieces marks.Semicolon)))
decl_kind_pieces (decls.Lone attrs spec) = attrs_pieces attrs.items ++ (spec_pieces spec ++ mark_pieces marks.Semicolon)
decl_kind_pieces (decls.Op attrs spec name void_word params) = attrs_pieces attrs.items ++ (spec_pieces spec ++ (ident_pieces name ++ (within brackets.Round (params_pieces void_word params.items) ++ mark_pieces marks.Semicolon)))

unfoldable pub decl_pieces : Decl → Pieces
decl_pieces d = placed d.at (decl_kind_pieces d.what)

unfoldable pub ast_pieces : Ast → Pieces
ast_pieces t = within brackets.Square (commas file_attr_pieces t.attributes.items) ++ (word_pieces words.Interface ++ (ident_pieces t.name ++ (within brackets.Curly (flat_map decl_pieces t.decls.items) ++ end_pieces)))
