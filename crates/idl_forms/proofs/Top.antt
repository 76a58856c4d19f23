-- A text has one tree.
use Rattle.std.proofs.Common.{◌≡◌, ℕ, List, [], ◌∷◌, length, map, refl, ap, sym, ◌∙◌, subst, arith}
use Rattle.idl_tokens.specs.declared.kinds.Kind.{Kind}
use Rattle.idl_tokens.specs.declared.kinds.Token.{Token}
use Rattle.idl_tokens.proofs.Once.{cut_once}
use Rattle.idl_tree.specs.Files.{ast_pieces}
use Rattle.idl_tree.specs.Idl.{IsTree, IsIdl}
use Rattle.idl_tree.specs.declared.declaration.Ast.{Ast}
use Rattle.idl_forms.specs.Forms.{tree_form, Same}
use Rattle.idl_forms.specs.Moved.{nowhere, Alike}
use Rattle.idl_forms.specs.Laws.{kinds_of}
use Rattle.idl_forms.proofs.Stream.{Seen, Shown, seen, without_level, front_shown}
use Rattle.idl_forms.proofs.Decls.{tree_by, tree_read, reads_tree}
use Rattle.idl_forms.proofs.Unmoved.{unmoved, tree_unmoved}
use Rattle.idl_forms.proofs.Taken.{taken_clean}

-- where the same is seen of the tokens, the trees have the same form
same_form : (f : ℕ → ℕ) (ts us : List Token) (t u : Ast) → seen f us ≡ seen f ts → IsTree ts t → IsTree us u → tree_read f t ≡ tree_read f u
same_form f ts us t u e p q =
    let n = length (seen f ts) in
    let clean = taken_clean f ts p.taken in
    let first : tree_by n (seen f ts) ≡ (tree_read f t, []) = (reads_tree n t).read (seen f ts) [] (omega arith) clean refl (front_shown f ts (ast_pieces t) [] p.spelled.front) in
    let shown : Shown f (ast_pieces u) (seen f ts) [] = subst (λ (v : List Seen). Shown f (ast_pieces u) v []) e (front_shown f us (ast_pieces u) [] q.spelled.front) in
    let second : tree_by n (seen f ts) ≡ (tree_read f u, []) = (reads_tree n u).read (seen f ts) [] (omega arith) clean refl shown in
    ap (λ v. v.0) (sym first ∙ second)

pub tokens_one : (tokens : List Token) (t u : Ast) → IsTree tokens t → IsTree tokens u → Same t u
tokens_one tokens t u p q = sym (tree_unmoved (tree_form t)) ∙ (same_form unmoved tokens tokens t u refl p q ∙ tree_unmoved (tree_form u))

pub text_one : (text : List ℕ) (t u : Ast) → IsIdl text t → IsIdl text u → Same t u
text_one text t u p q = tokens_one p.tokens t u p.tree_is (subst (λ (v : List Token). IsTree v u) (cut_once q.cut p.cut) q.tree_is)

-- ---- places aside

abbrev unplaced : Kind → Seen
unplaced k = record { what = without_level k; at = 0 }

seen_are : (ts : List Token) → seen nowhere ts ≡ map unplaced (kinds_of ts)
seen_are [] = refl
seen_are (t ∷ ts) = ap (λ v. unplaced t.kind ∷ v) (seen_are ts)

pub same_kinds : (ts us : List Token) (t u : Ast) → kinds_of ts ≡ kinds_of us → IsTree ts t → IsTree us u → Alike t u
same_kinds ts us t u e p q = same_form nowhere ts us t u (seen_are us ∙ (ap (map unplaced) (sym e) ∙ sym (seen_are ts))) p q
