-- The loops of the readers: what each has written and where the machine is.
use Rattle.std.proofs.Common.{◌≡◌, ℕ, List, [], ◌∷◌, ◌++◌, ◌≤◌, length, subst, sym, ap, ◌∙◌, true, false, append-nil}
use Rattle.std.specs.List.{flat_map}
use Rattle.idl_tokens.specs.declared.kinds.Token.{Token}
use Rattle.idl_tokens.specs.declared.words.Word.TheVariants as words
use Rattle.idl_tokens.specs.declared.marks.Mark.TheVariants as marks
use Rattle.idl_tokens.specs.declared.marks.Bracket.TheVariants as brackets
use Rattle.idl_tree.specs.declared.declaration.Decl.{Decl}
use Rattle.idl_tree.specs.declared.declaration.ParamNode.{ParamNode}
use Rattle.idl_tree.specs.declared.file.FileAttr.{FileAttr}
use Rattle.idl_tree.specs.declared.spec.Attr.{Attr}
use Rattle.idl_tree.specs.declared.spec.SpecKind.TheVariants as spec_kinds
use Rattle.idl_tree.specs.Trees.{kind_pieces, spec_pieces, attrs_pieces}
use Rattle.idl_tree.proofs.Layers.{void_is}
use Rattle.idl_tree.specs.Pieces.{Pieces, Written, BeginsAt, dtor_pieces, within, commas, open_pieces, shut_pieces, mark_pieces, word_pieces, text_pieces}
use Rattle.idl_tree.specs.Files.{file_attr_pieces, param_pieces, params_pieces, decl_pieces}
use Rattle.idl_tree.proofs.Writing.{write_join, write_none, write_placed, write_shut, write_flat_none, write_flat_more, write_commas_one, write_commas_more, commas_one, commas_push}
use Rattle.idl_reader.proofs.Orders.{more_texts, more_file_attrs, more_param_list, more_decls, file_law}

pub texts_one : (x : List ℕ) (ts rest : List Token) → Written (text_pieces x) ts rest → Written (commas text_pieces (x ∷ [])) ts rest
texts_one x ts rest p = subst (λ (v : Pieces). Written v ts rest) (sym (commas_one text_pieces x)) p

pub texts_more : (xs : List (List ℕ)) (x : List ℕ) (ts mid rest : List Token) → 1 ≤ length xs → Written (commas text_pieces xs) ts mid → Written (mark_pieces marks.Comma ++ text_pieces x) mid rest → Written (commas text_pieces (xs ++ x ∷ [])) ts rest
texts_more xs x ts mid rest h p q = subst (λ (v : Pieces). Written v ts rest) (sym (commas_push text_pieces xs x h)) (write_join p q)

pub file_attrs_one : (x : FileAttr) (ts mid rest : List Token) → Written (open_pieces brackets.Square) ts mid → Written (file_attr_pieces x) mid rest → Written (open_pieces brackets.Square ++ commas file_attr_pieces (x ∷ [])) ts rest
file_attrs_one x ts mid rest p q = write_commas_one file_attr_pieces (open_pieces brackets.Square) x ts mid rest p q

pub file_attrs_more : (xs : List FileAttr) (x : FileAttr) (ts mid rest : List Token) → 1 ≤ length xs → Written (open_pieces brackets.Square ++ commas file_attr_pieces xs) ts mid → Written (mark_pieces marks.Comma ++ file_attr_pieces x) mid rest → Written (open_pieces brackets.Square ++ commas file_attr_pieces (xs ++ x ∷ [])) ts rest
file_attrs_more xs x ts mid rest h p q = write_commas_more file_attr_pieces (open_pieces brackets.Square) xs x ts mid rest h p q

pub file_attrs_shut : (xs : List FileAttr) (ts mid rest : List Token) → Written (open_pieces brackets.Square ++ commas file_attr_pieces xs) ts mid → Written (shut_pieces brackets.Square) mid rest → Written (within brackets.Square (commas file_attr_pieces xs)) ts rest
file_attrs_shut xs ts mid rest p q = write_shut brackets.Square (commas file_attr_pieces xs) ts mid rest p q

pub decls_none : (ts rest : List Token) → Written (open_pieces brackets.Curly) ts rest → Written (open_pieces brackets.Curly ++ flat_map decl_pieces []) ts rest
decls_none ts rest p = write_flat_none decl_pieces (open_pieces brackets.Curly) ts rest p

pub decls_more : (xs : List Decl) (x : Decl) (ts mid rest : List Token) → Written (open_pieces brackets.Curly ++ flat_map decl_pieces xs) ts mid → Written (decl_pieces x) mid rest → Written (open_pieces brackets.Curly ++ flat_map decl_pieces (xs ++ x ∷ [])) ts rest
decls_more xs x ts mid rest p q = write_flat_more decl_pieces (open_pieces brackets.Curly) xs x ts mid rest p q

pub decls_shut : (xs : List Decl) (ts mid rest : List Token) → Written (open_pieces brackets.Curly ++ flat_map decl_pieces xs) ts mid → Written (shut_pieces brackets.Curly) mid rest → Written (within brackets.Curly (flat_map decl_pieces xs)) ts rest
decls_shut xs ts mid rest p q = write_shut brackets.Curly (flat_map decl_pieces xs) ts mid rest p q

-- ---- parameters, behind the first one

abbrev pub Behind : ParamNode → List ParamNode → List Token → List Token → Type 0
Behind first list tokens rest = (before : List Token) → Written (param_pieces first) before tokens → Written (commas param_pieces list) before rest

pub params_first : (first : ParamNode) (tokens : List Token) → Behind first (first ∷ []) tokens tokens
params_first first tokens = λ before h. subst (λ (v : Pieces). Written v before tokens) (sym (commas_one param_pieces first)) h

pub params_next : (first : ParamNode) (list : List ParamNode) (next : ParamNode) (tokens mid rest : List Token) → 1 ≤ length list → Behind first list tokens mid → Written (mark_pieces marks.Comma ++ param_pieces next) mid rest → Behind first (list ++ next ∷ []) tokens rest
params_next first list next tokens mid rest l b h = λ before f. subst (λ (v : Pieces). Written v before rest) (sym (commas_push param_pieces list next l)) (write_join (b before f) h)

pub void_alone : (ts rest : List Token) → Written (word_pieces words.Void) ts rest → Written (params_pieces true []) ts rest
unfolding params_pieces
void_alone ts rest p = subst (λ (v : Pieces). Written v ts rest) (sym (append-nil (word_pieces words.Void))) p

pub no_params : (ts : List Token) → Written (params_pieces false []) ts ts
unfolding params_pieces
no_params ts = write_none ts

pub some_params : (xs : List ParamNode) (ts rest : List Token) → Written (commas param_pieces xs) ts rest → Written (params_pieces false xs) ts rest
unfolding params_pieces
some_params xs ts rest p = p

-- a parameter that begins with void, of no attributes
pub void_param : (first : ParamNode) (ts mid rest : List Token) → first.attrs.items ≡ [] → first.spec.what ≡ spec_kinds.Void → BeginsAt first.spec.at ts → Written (word_pieces words.Void) ts mid → Written (dtor_pieces first.dtor) mid rest → Written (param_pieces first) ts rest
unfolding param_pieces
void_param first ts mid rest none void place p q =
    let kind : Written (kind_pieces first.spec.what) ts mid = subst (λ (x : Pieces). Written x ts mid) (sym (ap kind_pieces void ∙ void_is)) p in
    subst (λ (x : List Attr). Written (attrs_pieces x ++ (spec_pieces first.spec ++ dtor_pieces first.dtor)) ts rest) (sym none) (write_join (write_placed place kind) q)

pub ruleset texts = (more_texts, texts_one, texts_more)

pub ruleset file_attrs = (more_file_attrs, file_attrs_one, file_attrs_more, file_attrs_shut)

pub ruleset decls = (more_decls, decls_none, decls_more, decls_shut)

pub ruleset params = (more_param_list, params_first, params_next)

pub ruleset voids = (void_alone, no_params, some_params, write_join, write_none, write_placed)

pub ruleset whole = (file_law, write_join)
