-- Declarations and whole trees, off their tokens.
use Rattle.std.proofs.Common.{◌≡◌, ℕ, ◌≤◌, ◌&&◌, Bool, true, false, eqb, List, [], ◌∷◌, ◌++◌, length, map, refl, ap, sym, ◌∙◌, None, Some, Option, arith}
use Rattle.std.specs.Prelude.{if◌then◌else◌}
use Rattle.idl_tokens.specs.Ebnf.{has}
use Rattle.idl_tokens.specs.Checks.{apart}
use Rattle.idl_tokens.specs.declared.words.Word.TheVariants as words
use Rattle.idl_tokens.specs.declared.marks.Mark.TheVariants as marks
use Rattle.idl_tokens.specs.declared.marks.Bracket.TheVariants as brackets
use Rattle.idl_tree.specs.declared.leaf.Ident.{Ident}
use Rattle.idl_tree.specs.declared.leaf.Num.{Num}
use Rattle.idl_tree.specs.declared.leaf.Dtor.{Dtor}
use Rattle.idl_tree.specs.declared.spec.Attr.{Attr}
use Rattle.idl_tree.specs.declared.spec.Spec.{Spec}
use Rattle.idl_tree.specs.declared.declaration.Ast.{Ast}
use Rattle.idl_tree.specs.declared.declaration.Decl.{Decl}
use Rattle.idl_tree.specs.declared.declaration.DeclKind.{DeclKind}
use Rattle.idl_tree.specs.declared.declaration.DeclKind.TheVariants as decls
use Rattle.idl_tree.specs.declared.declaration.ParamNode.{ParamNode}
use Rattle.idl_tree.specs.declared.file.FileAttr.{FileAttr}
use Rattle.idl_tree.specs.declared.file.FileAttrKind.{FileAttrKind}
use Rattle.idl_tree.specs.declared.file.FileAttrKind.TheVariants as file_attrs
use Rattle.idl_tree.specs.Pieces.{Pieces, word_pieces, mark_pieces, ident_pieces, dtor_pieces, text_pieces, end_pieces, within, commas}
use Rattle.idl_tree.specs.Trees.{spec_pieces, attrs_pieces, dtors_pieces}
use Rattle.idl_tree.specs.Files.{minor_pieces, file_attr_kind_pieces, file_attr_pieces, param_pieces, params_pieces, decl_kind_pieces, decl_pieces, ast_pieces}
use Rattle.idl_forms.specs.Forms.{SpecForm, AttrForms, FileKindForm, OfUuid, OfVersion, OfPointerDefault, OfEndpoint, FileForm, ParamForm, DeclKindForm, OfConst, OfTypedef, OfLone, OfOp, DeclForm, TreeForm, if_there, file_kind_form, file_form, param_form, decl_kind_form, decl_form, tree_form}
use Rattle.idl_forms.specs.Moved.{ident_moved, num_moved, file_kind_moved, file_moved, param_moved, decl_kind_moved, decl_moved, tree_moved}
use Rattle.idl_forms.proofs.Stream.{Seen, head, tail, class, Clean, Shown, heads, if_true, if_false, off_right}
use Rattle.idl_forms.proofs.Readers.{mapped, both, behind, upto, chosen, split, maybe, loop, listed, maybe_listed, at_place}
use Rattle.idl_forms.proofs.Reading.{Reads, heads_append, heads_placed, heads_right, reads_as, reads_any, reads_fewer, reads_mapped, reads_both, reads_then, behind_word, behind_mark, upto_mark, inside, reads_chosen, split_yes, split_no, maybe_none, maybe_some, reads_placed, reads_loop, reads_maybe_listed, reads_upto}
use Rattle.idl_forms.proofs.Leaves.{a_name, a_text, a_uuid, a_token, a_num, a_pk, a_base, a_dtor, word_then, mark_heads, mark_then, ident_heads, text_heads, dtor_heads, dtors_heads, reads_name, reads_text, reads_uuid, mark_as, reads_num, reads_pk, reads_base, reads_dtor, reads_dtors}
use Rattle.idl_forms.proofs.OwnWord.{own_word_on, has_own_word, params_off, is_own, is_not_own, param_heads}
use Rattle.idl_forms.proofs.Specs.{spec_read, attrs_read, spec_firsts, member_firsts, spec_by, attrs_by, kind_within, spec_heads, typed_heads, reads_spec, reads_attrs, reads_kind}
use Rattle.idl_tokens.specs.Terminals.{of_word, of_mark, opening, text_class}
use Rattle.idl_tree.specs.Combinators.{name_classes}

-- ---- how each is read, from at most n tokens

abbrev a_spec : ℕ → List Seen → SpecForm × List Seen
a_spec n = spec_by (kind_within n)

abbrev attrs : ℕ → List Seen → AttrForms × List Seen
attrs n = attrs_by n (kind_within n)

abbrev as_param : AttrForms × (SpecForm × Dtor) → ParamForm
as_param p = record { attrs = p.0; spec = p.1.0; dtor = p.1.1 }

abbrev a_param : ℕ → List Seen → ParamForm × List Seen
a_param n = mapped as_param (both (attrs n) (both (a_spec n) (a_dtor n)))

abbrev some_params : ℕ → List Seen → List ParamForm × List Seen
some_params n = maybe_listed member_firsts n (a_param n)

pub params_by : ℕ → List Seen → (Bool × List ParamForm) × List Seen
params_by n ss = if has_own_word ss then ((true, (some_params n (tail ss)).0), (some_params n (tail ss)).1) else ((false, (some_params n ss).0), (some_params n ss).1)

abbrev an_op : ℕ → List Seen → (Ident × (Bool × List ParamForm)) × List Seen
an_op n = both a_name (upto (behind (upto (params_by n))))

abbrev other_of : AttrForms → SpecForm → Option (Ident × (Bool × List ParamForm)) → DeclKindForm
other_of as' s None = OfLone as' s
other_of as' s (Some o) = OfOp as' s o.0 o.1.0 o.1.1

abbrev as_other : AttrForms × (SpecForm × Option (Ident × (Bool × List ParamForm))) → DeclKindForm
as_other p = other_of p.0 p.1.0 p.1.1

abbrev other_by : ℕ → List Seen → DeclKindForm × List Seen
other_by n = mapped as_other (both (attrs n) (both (a_spec n) (split (of_mark marks.Semicolon ∷ []) (a_token None) (mapped Some (an_op n)))))

abbrev const_by : List Seen → DeclKindForm × List Seen
const_by = behind (mapped (λ p. OfConst p.0 p.1.0 p.1.1) (both a_base (both a_name (behind (upto a_num)))))

abbrev typedef_by : ℕ → List Seen → DeclKindForm × List Seen
typedef_by n = behind (mapped (λ p. OfTypedef p.0 p.1.0 p.1.1) (both (attrs n) (both (a_spec n) (upto (listed n (a_dtor n))))))

abbrev decl_kind_by : ℕ → List Seen → DeclKindForm × List Seen
decl_kind_by n = split (of_word words.Const ∷ []) const_by (split (of_word words.Typedef ∷ []) (typedef_by n) (other_by n))

abbrev as_decl : ℕ × DeclKindForm → DeclForm
as_decl p = record { at = p.0; what = p.1 }

abbrev decl_by : ℕ → List Seen → DeclForm × List Seen
decl_by n = mapped as_decl (at_place (decl_kind_by n))

abbrev minor_by : List Seen → Option Num × List Seen
minor_by = maybe (of_mark marks.Dot ∷ []) (behind a_num)

abbrev file_kind_on : ℕ → ℕ → List Seen → FileKindForm × List Seen
file_kind_on n c =
    if eqb c (of_word words.Uuid) then behind (behind (upto (mapped OfUuid a_uuid)))
    else if eqb c (of_word words.Version) then behind (behind (upto (mapped (λ p. OfVersion p.0 p.1) (both a_num minor_by))))
    else if eqb c (of_word words.PointerDefault) then behind (behind (upto (mapped OfPointerDefault a_pk)))
    else behind (behind (upto (mapped OfEndpoint (maybe_listed (text_class ∷ []) n a_text))))

abbrev as_file : ℕ × FileKindForm → FileForm
as_file p = record { at = p.0; what = p.1 }

abbrev file_by : ℕ → List Seen → FileForm × List Seen
file_by n = mapped as_file (at_place (chosen (file_kind_on n)))

abbrev as_tree : List FileForm × (Ident × List DeclForm) → TreeForm
as_tree p = record { attributes = p.0; name = p.1.0; decls = p.1.1 }

abbrev decl_firsts : List ℕ
decl_firsts = of_word words.Const ∷ of_word words.Typedef ∷ member_firsts

abbrev pub tree_by : ℕ → List Seen → TreeForm × List Seen
tree_by n = mapped as_tree (both (behind (upto (maybe_listed (of_word words.Uuid ∷ of_word words.Version ∷ of_word words.PointerDefault ∷ of_word words.Endpoint ∷ []) n (file_by n)))) (behind (both a_name (upto (behind (upto (loop n decl_firsts (decl_by n))))))))

-- ---- first tokens

decl_kind_heads : (d : DeclKind) → heads decl_firsts (decl_kind_pieces d) ≡ true
unfolding decl_kind_pieces word_pieces
decl_kind_heads (decls.Const base name value) = refl
decl_kind_heads (decls.Typedef as' s ds) = refl
decl_kind_heads (decls.Lone as' s) = heads_right (of_word words.Const ∷ of_word words.Typedef ∷ []) member_firsts (attrs_pieces as'.items ++ (spec_pieces s ++ mark_pieces marks.Semicolon)) (typed_heads as'.items s (mark_pieces marks.Semicolon))
decl_kind_heads (decls.Op as' s name v ps) =
    let end : Pieces = ident_pieces name ++ (within brackets.Round (params_pieces v ps.items) ++ mark_pieces marks.Semicolon) in
    heads_right (of_word words.Const ∷ of_word words.Typedef ∷ []) member_firsts (attrs_pieces as'.items ++ (spec_pieces s ++ end)) (typed_heads as'.items s end)

decl_heads : (d : Decl) → heads decl_firsts (decl_pieces d) ≡ true
unfolding decl_pieces
decl_heads d = heads_placed decl_firsts d.at (decl_kind_pieces d.what) (decl_kind_heads d.what)

file_kind_heads : (k : FileAttrKind) → heads (of_word words.Uuid ∷ of_word words.Version ∷ of_word words.PointerDefault ∷ of_word words.Endpoint ∷ []) (file_attr_kind_pieces k) ≡ true
unfolding file_attr_kind_pieces word_pieces
file_kind_heads (file_attrs.Uuid id) = refl
file_kind_heads (file_attrs.Version major minor) = refl
file_kind_heads (file_attrs.PointerDefault p) = refl
file_kind_heads (file_attrs.Endpoint texts) = refl

file_heads : (a : FileAttr) → heads (of_word words.Uuid ∷ of_word words.Version ∷ of_word words.PointerDefault ∷ of_word words.Endpoint ∷ []) (file_attr_pieces a) ≡ true
unfolding file_attr_pieces
file_heads a = heads_placed (of_word words.Uuid ∷ of_word words.Version ∷ of_word words.PointerDefault ∷ of_word words.Endpoint ∷ []) a.at (file_attr_kind_pieces a.what) (file_kind_heads a.what)

-- ---- the form of each part, with each place moved

abbrev file_kind_read : (ℕ → ℕ) → FileAttrKind → FileKindForm
file_kind_read f k = file_kind_moved f (file_kind_form k)

abbrev file_read : (ℕ → ℕ) → FileAttr → FileForm
file_read f a = file_moved f (file_form a)

abbrev param_read : (ℕ → ℕ) → ParamNode → ParamForm
param_read f p = param_moved f (param_form p)

abbrev decl_kind_read : (ℕ → ℕ) → DeclKind → DeclKindForm
decl_kind_read f d = decl_kind_moved f (decl_kind_form d)

abbrev decl_read : (ℕ → ℕ) → Decl → DeclForm
decl_read f d = decl_moved f (decl_form d)

abbrev pub tree_read : (ℕ → ℕ) → Ast → TreeForm
tree_read f t = tree_moved f (tree_form t)

fused : {A B C : Type 0} (g : B → C) (h : A → B) (xs : List A) → map g (map h xs) ≡ map (λ x. g (h x)) xs
fused g h [] = refl
fused g h (x ∷ xs) = ap (λ ys. g (h x) ∷ ys) (fused g h xs)

-- ---- each is read off its tokens

texts_are : (ts : List (List ℕ)) → map (λ (t : List ℕ). t) ts ≡ ts
texts_are [] = refl
texts_are (t ∷ ts) = ap (λ v. t ∷ v) (texts_are ts)

module _ {f : ℕ → ℕ} where
  -- ---- the interface's attributes

  reads_minor : {n : ℕ} (o : Option Num) → Reads f n (of_mark marks.Dot ∷ []) minor_by (minor_pieces o) (if_there (num_moved f) o)
  unfolding minor_pieces
  reads_minor None = maybe_none (of_mark marks.Dot ∷ []) _
  reads_minor (Some x) = maybe_some (of_mark marks.Dot ∷ []) (mark_then marks.Dot _) (reads_any (of_mark marks.Dot ∷ []) (behind_mark marks.Dot (reads_num x)))

  reads_file_kind : (n : ℕ) (k : FileAttrKind) → Reads f n [] (chosen (file_kind_on n)) (file_attr_kind_pieces k) (file_kind_read f k)
  unfolding file_attr_kind_pieces
  reads_file_kind n (file_attrs.Uuid id) = reads_chosen (file_kind_on n) (of_word words.Uuid) (word_then words.Uuid _) (behind_word words.Uuid (reads_fewer (inside brackets.Round refl (reads_mapped OfUuid (reads_uuid id)))))
  reads_file_kind n (file_attrs.Version major minor) = reads_chosen (file_kind_on n) (of_word words.Version) (word_then words.Version _) (behind_word words.Version (reads_fewer (inside brackets.Round refl (reads_mapped (λ p. OfVersion p.0 p.1) (reads_then (reads_num major) (reads_minor minor))))))
  reads_file_kind n (file_attrs.PointerDefault p) = reads_chosen (file_kind_on n) (of_word words.PointerDefault) (word_then words.PointerDefault _) (behind_word words.PointerDefault (reads_fewer (inside brackets.Round refl (reads_mapped OfPointerDefault (reads_pk p)))))
  reads_file_kind n (file_attrs.Endpoint texts) = reads_chosen (file_kind_on n) (of_word words.Endpoint) (word_then words.Endpoint _) (behind_word words.Endpoint (reads_fewer (inside brackets.Round refl
      (reads_mapped OfEndpoint (reads_as refl (sym (texts_are texts.items)) (reads_maybe_listed text_pieces (λ (t : List ℕ). t) n [] a_text refl reads_text (text_class ∷ []) text_heads texts.items))))))

  reads_file : (n : ℕ) (a : FileAttr) → Reads f n [] (file_by n) (file_attr_pieces a) (file_read f a)
  unfolding file_attr_pieces
  reads_file n a = reads_mapped as_file (reads_placed (of_word words.Uuid ∷ of_word words.Version ∷ of_word words.PointerDefault ∷ of_word words.Endpoint ∷ []) a.at (file_kind_heads a.what) (reads_file_kind n a.what))

  -- ---- declarations

  spec_of : (n : ℕ) (s : Spec) → Reads f n (of_word words.Int ∷ opening brackets.Curly ∷ []) (a_spec n) (spec_pieces s) (spec_read f s)
  spec_of n s = reads_spec n (kind_within n) (reads_kind n) s

  attrs_of : (n : ℕ) (as' : List Attr) → Reads f n (opening brackets.Square ∷ []) (attrs n) (attrs_pieces as') (attrs_read f as')
  attrs_of n as' = reads_attrs n (kind_within n) (reads_kind n) as'

  -- attributes and a spec, and what follows them
  typed_then : {A : Type 0} {n : ℕ} {off : List ℕ} {d : List Seen → A × List Seen} {a : A} (cs : List ℕ) (as' : List Attr) (s : Spec) (ps : Pieces) → heads cs ps ≡ true → apart cs (of_word words.Int ∷ opening brackets.Curly ∷ []) ≡ true → Reads f n off d ps a
      → Reads f n off (both (attrs n) (both (a_spec n) d)) (attrs_pieces as' ++ (spec_pieces s ++ ps)) (attrs_read f as', (spec_read f s, a))
  typed_then {n = n} cs as' s ps starts far r = reads_both spec_firsts (heads_append spec_firsts (spec_pieces s) ps (spec_heads s)) refl (attrs_of n as') (reads_both cs starts far (spec_of n s) r)

  reads_param : (n : ℕ) (p : ParamNode) → Reads f n (opening brackets.Square ∷ []) (a_param n) (param_pieces p) (param_read f p)
  unfolding param_pieces
  reads_param n p = reads_mapped as_param (typed_then (of_mark marks.Star ∷ name_classes) p.attrs.items p.spec (dtor_pieces p.dtor) (dtor_heads p.dtor) refl (reads_dtor n p.dtor))

  reads_some_params : (n : ℕ) (ps : List ParamNode) → Reads f n (member_firsts ++ (of_mark marks.Comma ∷ opening brackets.Square ∷ [])) (some_params n) (commas param_pieces ps) (map (param_read f) ps)
  reads_some_params n ps = reads_maybe_listed param_pieces (param_read f) n (opening brackets.Square ∷ []) (a_param n) refl (reads_param n) member_firsts param_heads ps

  reads_params : (n : ℕ) (v : Bool) (ps : List ParamNode) → Reads f n params_off (params_by n) (params_pieces v ps) (v, map (param_read f) ps)
  unfolding params_by params_pieces word_pieces
  reads_params n true ps = record {
    read = λ ss rest. elim ss as (λ us. length us ≤ n → Clean us → has (head rest) params_off ≡ false → Shown f (params_pieces true ps) us rest → params_by n us ≡ ((true, map (param_read f) ps), rest)) [
      | [] ↦ λ l c o h. absurd h
      | s ∷ us ↦ λ l c o h.
          let first : class s.what ≡ of_word words.Void = ap class h.0 in
          let own : has_own_word (s ∷ us) ≡ true = ap (λ v. eqb v (of_word words.Void) && own_word_on (head us) (head (tail us))) first ∙ is_own f ps us rest c.1 o h.2 in
          let read : some_params n us ≡ (map (param_read f) ps, rest) = (reads_some_params n ps).read us rest (omega arith) c.1 (off_right (head rest) (of_mark marks.Star ∷ []) (member_firsts ++ (of_mark marks.Comma ∷ opening brackets.Square ∷ [])) o) h.2 in
          if_true (has_own_word (s ∷ us)) _ _ own ∙ ap (λ v. ((true, v.0), v.1)) read
    ];
  }
  reads_params n false ps = record {
    read = λ ss rest l c o h.
        let read : some_params n ss ≡ (map (param_read f) ps, rest) = (reads_some_params n ps).read ss rest l c (off_right (head rest) (of_mark marks.Star ∷ []) (member_firsts ++ (of_mark marks.Comma ∷ opening brackets.Square ∷ [])) o) h in
        if_false (has_own_word ss) _ _ (is_not_own f ps ss rest c o h) ∙ ap (λ v. ((false, v.0), v.1)) read;
  }

  reads_op : (n : ℕ) (name : Ident) (v : Bool) (ps : List ParamNode) → Reads f n [] (an_op n) (ident_pieces name ++ (within brackets.Round (params_pieces v ps) ++ mark_pieces marks.Semicolon)) (ident_moved f name, (v, map (param_read f) ps))
  reads_op n name v ps = reads_then (reads_name name) (upto_mark marks.Semicolon refl (reads_fewer (inside brackets.Round refl (reads_params n v ps))))

  -- neither a constant nor a typedef
  other : (n : ℕ) (ps : Pieces) (a : AttrForms × (SpecForm × Option (Ident × (Bool × List ParamForm)))) → heads member_firsts ps ≡ true
      → Reads f n [] (both (attrs n) (both (a_spec n) (split (of_mark marks.Semicolon ∷ []) (a_token None) (mapped Some (an_op n))))) ps a → Reads f n [] (decl_kind_by n) ps (as_other a)
  other n ps a starts r = split_no (of_word words.Const ∷ []) member_firsts _ starts refl (split_no (of_word words.Typedef ∷ []) member_firsts _ starts refl (reads_mapped as_other r))

  reads_decl_kind : (n : ℕ) (d : DeclKind) → Reads f n [] (decl_kind_by n) (decl_kind_pieces d) (decl_kind_read f d)
  unfolding decl_kind_pieces
  reads_decl_kind n (decls.Const base name value) = split_yes (of_word words.Const ∷ []) _ (word_then words.Const _)
      (behind_word words.Const (reads_mapped (λ p. OfConst p.0 p.1.0 p.1.1) (reads_both name_classes (heads_append name_classes (ident_pieces name) _ (ident_heads name)) refl (reads_base base) (reads_then (reads_name name) (behind_mark marks.Equals (upto_mark marks.Semicolon refl (reads_num value)))))))
  reads_decl_kind n (decls.Typedef as' s ds) = split_no (of_word words.Const ∷ []) (of_word words.Typedef ∷ []) _ (word_then words.Typedef _) refl (split_yes (of_word words.Typedef ∷ []) _ (word_then words.Typedef _)
      (behind_word words.Typedef (reads_mapped (λ p. OfTypedef p.0 p.1.0 p.1.1) (typed_then (of_mark marks.Star ∷ name_classes) as'.items s _ (heads_append (of_mark marks.Star ∷ name_classes) (dtors_pieces ds.items) _ (dtors_heads ds.items)) refl (upto_mark marks.Semicolon refl (reads_dtors n ds.items))))))
  reads_decl_kind n (decls.Lone as' s) = other n _ _ (typed_heads as'.items s _)
      (typed_then (of_mark marks.Semicolon ∷ []) as'.items s (mark_pieces marks.Semicolon) (mark_heads marks.Semicolon) refl (split_yes (of_mark marks.Semicolon ∷ []) _ (mark_heads marks.Semicolon) (mark_as None marks.Semicolon)))
  reads_decl_kind n (decls.Op as' s name v ps) = reads_as refl (ap (OfOp (attrs_read f as'.items) (spec_read f s) (ident_moved f name) v) (fused (param_moved f) param_form ps.items)) (other n _ _ (typed_heads as'.items s _)
      (typed_then name_classes as'.items s _ (heads_append name_classes (ident_pieces name) _ (ident_heads name)) refl (split_no (of_mark marks.Semicolon ∷ []) name_classes _ (heads_append name_classes (ident_pieces name) _ (ident_heads name)) refl (reads_mapped Some (reads_op n name v ps.items)))))

  reads_decl : (n : ℕ) (d : Decl) → Reads f n [] (decl_by n) (decl_pieces d) (decl_read f d)
  unfolding decl_pieces
  reads_decl n d = reads_mapped as_decl (reads_placed decl_firsts d.at (decl_kind_heads d.what) (reads_decl_kind n d.what))

  -- ---- the whole tree

  pub reads_tree : (n : ℕ) (t : Ast) → Reads f n [] (tree_by n) (ast_pieces t) (tree_read f t)
  unfolding ast_pieces end_pieces
  reads_tree n t = reads_as refl (λ j. record { attributes = fused (file_moved f) file_form t.attributes.items j; name = ident_moved f t.name; decls = fused (decl_moved f) decl_form t.decls.items j }) (reads_mapped as_tree (reads_then (reads_fewer (inside brackets.Square refl (reads_maybe_listed file_attr_pieces (file_read f) n [] (file_by n) refl (reads_file n) (of_word words.Uuid ∷ of_word words.Version ∷ of_word words.PointerDefault ∷ of_word words.Endpoint ∷ []) file_heads t.attributes.items)))
      (behind_word words.Interface (reads_then (reads_name t.name) (reads_upto _ refl (reads_fewer (inside brackets.Curly refl (reads_loop decl_pieces (decl_read f) n decl_firsts [] (decl_by n) decl_heads refl (reads_decl n) t.decls.items))))))))
