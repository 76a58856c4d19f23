-- What is printed is read as the same tree.
use Rattle.std.proofs.Common.{◌≡◌, ℕ, List, [], ◌∷◌, ◌++◌, refl, ap, sym, ◌∙◌, Option, Some, None}
use Rattle.idl_tokens.specs.declared.kinds.Kind.{Kind}
use Rattle.idl_tokens.specs.declared.kinds.Token.{Token}
use Rattle.idl_print.specs.declared.sorts.Sort.{Sort}
use Rattle.idl_print.specs.Layout.{token_text, sort_of, between, indent_behind, printed, layout, kinds_of}
use Rattle.idl_tree.specs.Pieces.{What, Of, Opens, Pieces, Stands, Front}
use Rattle.idl_tree.specs.Files.{ast_pieces}
use Rattle.idl_tree.specs.Idl.{IsTree, IsIdl}
use Rattle.idl_tree.specs.declared.declaration.Ast.{Ast}
use Rattle.idl_forms.specs.Moved.{Alike}
use Rattle.idl_forms.proofs.Top.{same_kinds}
use Rattle.idl_print.specs.Canonical.{kind_of, kinds_in, canonical_text}
use Rattle.idl_print.proofs.Same.{spell_the_same, departs_nowhere}
use Rattle.idl_reader.specs.Causes.{IsCause}
use Rattle.idl_reader.specs.declared.fault.IdlFault.{IdlFault}
use Rattle.idl_reader.specs.declared.fault.IdlFault.TheVariants.{BadToken, Expected, TooLarge, TooDeep, Memory}

pub alike_again : (text : List ℕ) (t u : Ast) → IsIdl text t → IsIdl (canonical_text t) u → Alike t u
alike_again text t u p q = same_kinds p.tokens q.tokens t u (sym (spell_the_same text t u p q)) p.tree_is q.tree_is

pub no_fault : (text : List ℕ) (t : Ast) (fault : IdlFault) → IsIdl text t → IsCause (canonical_text t) fault → fault ≡ Memory
no_fault text t (BadToken at) p c = absurd (departs_nowhere text t c.0 c.2.token c.2.oversized p c.1 c.2.first)
no_fault text t (Expected at) p c = absurd (departs_nowhere text t c.0 c.2.token c.2.oversized p c.1 c.2.first)
no_fault text t (TooLarge at) p c = absurd (departs_nowhere text t c.0 c.2.token c.2.oversized p c.1 c.2.first)
no_fault text t (TooDeep at) p c = absurd (departs_nowhere text t c.0 c.2.token c.2.oversized p c.1 c.2.first)
no_fault text t Memory p c = refl

-- ---- a token is printed as its piece

piece_sort : (k : Kind) (w : What) → Stands k w → sort_of k ≡ sort_of (kind_of w)
piece_sort k (Of j) h = ap sort_of h
piece_sort k (Opens b) h = ap sort_of h.1

piece_text : (k : Kind) (w : What) → Stands k w → token_text k ≡ token_text (kind_of w)
piece_text k (Of j) h = ap token_text h
piece_text k (Opens b) h = ap token_text h.1

pieces_printed : (indent : List ℕ) (last : Option Sort) (ts : List Token) (ps : Pieces) → Front ts ps [] → printed indent last (kinds_of ts) ≡ printed indent last (kinds_in ps)
pieces_printed indent last ts [] h = ap (λ v. printed indent last (kinds_of v)) h
pieces_printed indent last [] (p ∷ ps) h = absurd h
pieces_printed indent last (t ∷ ts) (p ∷ ps) h =
    let s = sort_of (kind_of p.what) in
    ap (λ v. between indent last v ++ (token_text t.kind ++ printed (indent_behind indent v) (Some v) (kinds_of ts))) (piece_sort t.kind p.what h.0)
    ∙ (ap (λ v. between indent last s ++ (v ++ printed (indent_behind indent s) (Some s) (kinds_of ts))) (piece_text t.kind p.what h.0)
    ∙ ap (λ v. between indent last s ++ (token_text (kind_of p.what) ++ v)) (pieces_printed (indent_behind indent s) (Some s) ts ps h.2))

layout_is : (ts : List Token) (t : Ast) → IsTree ts t → layout (kinds_of ts) ≡ canonical_text t
layout_is ts t p = pieces_printed [] None ts (ast_pieces t) p.spelled.front

pub text_again : (text : List ℕ) (t u : Ast) → IsIdl text t → IsIdl (canonical_text t) u → canonical_text u ≡ canonical_text t
text_again text t u p q = sym (layout_is q.tokens u q.tree_is) ∙ (ap layout (spell_the_same text t u p q) ∙ layout_is p.tokens t p.tree_is)
