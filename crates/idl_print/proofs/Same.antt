-- The canonical text has the tokens that its tree spells.
use Rattle.std.proofs.Common.{◌≡◌, ◌≢◌, ℕ, ◌<◌, ◌^◌, Bool, true, false, not, ◌&&◌, eqb, nat_lt, List, [], ◌∷◌, ◌++◌, map, Option, Some, None, refl, sym, ap, ◌∙◌, subst, append_assoc, arith}
use Rattle.std.proofs.lemmas.Bool.{false≢true, eq-eqb}
use Rattle.std.proofs.lemmas.Bool.Decides.{nat_tests}
use Rattle.std.specs.Prelude.{if◌then◌else◌}
use Rattle.idl_tokens.specs.Ebnf.{Ebnf, Terminal, Matches, has}
use Rattle.idl_tokens.specs.Ebnf.Ebnf.{One, Seq, Alt, Opt, Many, Within}
use Rattle.idl_tokens.specs.Ebnf.Matches.{one, seq, left, right, none, some, stop, more, within}
use Rattle.idl_tokens.proofs.Sets.{or_left}
use Rattle.idl_tokens.specs.declared.kinds.Kind.{Kind}
use Rattle.idl_tokens.specs.declared.kinds.Kind.TheVariants as kinds
use Rattle.idl_tokens.specs.declared.kinds.Token.{Token}
use Rattle.idl_tokens.specs.Terminals.{terminal, terminals, bad_class}
use Rattle.idl_tokens.specs.Tokens.{AreTokens}
use Rattle.idl_tokens.proofs.Once.{cut_once}
use Rattle.idl_print.specs.declared.sorts.Sort.{Sort}
use Rattle.idl_print.specs.Layout.{token_text, sort_of, between, indent_behind, printed, layout, kinds_of, HasText, HaveTexts}
use Rattle.idl_print.proofs.Printed.{layout_again}
use Rattle.idl_tree.specs.Pieces.{What, Pieces, Stands, Front, Written}
use Rattle.idl_tree.specs.Pieces.What.{Of, Opens}
use Rattle.idl_tree.specs.Files.{ast_pieces}
use Rattle.idl_tree.specs.Combinators.{a_word, a_mark, a_name, a_range, a_number, a_text, a_uuid, the_end}
use Rattle.idl_tree.specs.Grammar.{pk, signed, bounds, sizeable, base, array_size, dtor, dtors, body, struct_rest, switch_part, union_body, union_rest, enum_body, enum_rest, typed, plain, spec, spec_but_void, star_name, size_ref, attr, attrs, member, members, label, arm, arms, param, param_but_void, more_params, params, op_rest, lone_or_op, const_decl, typedef_decl, decl, version, file_attr, file, rule}
use Rattle.idl_tree.specs.Idl.{IsTree, IsIdl, FirstDeparture}
use Rattle.idl_tree.specs.declared.declaration.Ast.{Ast}
use Rattle.idl_print.specs.Canonical.{kind_of, kinds_in, canonical_text}

-- ---- levels aren't printed

abbrev unlevelled : Kind → Kind
unlevelled (kinds.Word word) = kinds.Word word
unlevelled (kinds.Name name) = kinds.Name name
unlevelled (kinds.Number value) = kinds.Number value
unlevelled (kinds.Text inside) = kinds.Text inside
unlevelled (kinds.Uuid id) = kinds.Uuid id
unlevelled (kinds.Mark mark) = kinds.Mark mark
unlevelled (kinds.Open bracket level) = kinds.Open bracket 0
unlevelled (kinds.Shut bracket) = kinds.Shut bracket
unlevelled kinds.End = kinds.End
unlevelled kinds.Bad = kinds.Bad

same_text : (k : Kind) → token_text (unlevelled k) ≡ token_text k
same_text (kinds.Word word) = refl
same_text (kinds.Name name) = refl
same_text (kinds.Number value) = refl
same_text (kinds.Text inside) = refl
same_text (kinds.Uuid id) = refl
same_text (kinds.Mark mark) = refl
same_text (kinds.Open bracket level) = refl
same_text (kinds.Shut bracket) = refl
same_text kinds.End = refl
same_text kinds.Bad = refl

same_sort : (k : Kind) → sort_of (unlevelled k) ≡ sort_of k
same_sort (kinds.Word word) = refl
same_sort (kinds.Name name) = refl
same_sort (kinds.Number value) = refl
same_sort (kinds.Text inside) = refl
same_sort (kinds.Uuid id) = refl
same_sort (kinds.Mark mark) = refl
same_sort (kinds.Open bracket level) = refl
same_sort (kinds.Shut bracket) = refl
same_sort kinds.End = refl
same_sort kinds.Bad = refl

same_printed : (indent : List ℕ) (last : Option Sort) (ks : List Kind) → printed indent last (map unlevelled ks) ≡ printed indent last ks
same_printed indent last [] = refl
same_printed indent last (k ∷ ks) =
    let s : Sort = sort_of k in
    ap (λ (x : Sort). between indent last x ++ (token_text (unlevelled k) ++ printed (indent_behind indent x) (Some x) (map unlevelled ks))) (same_sort k)
    ∙ ap (λ (x : List ℕ). between indent last s ++ (x ++ printed (indent_behind indent s) (Some s) (map unlevelled ks))) (same_text k)
    ∙ ap (λ (x : List ℕ). between indent last s ++ (token_text k ++ x)) (same_printed (indent_behind indent s) (Some s) ks)

stands : (k : Kind) (w : What) → Stands k w → unlevelled (kind_of w) ≡ unlevelled k
stands k (Of j) e = ap unlevelled (sym e)
stands k (Opens b) e = ap unlevelled (sym e.1)

front_kinds : (ts : List Token) (ps : Pieces) → Front ts ps [] → map unlevelled (kinds_in ps) ≡ map unlevelled (kinds_of ts)
front_kinds ts [] h = ap (λ (x : List Token). map unlevelled (kinds_of x)) (sym h)
front_kinds [] (p ∷ ps) h = absurd h
front_kinds (t ∷ ts) (p ∷ ps) h =
    ap (λ (x : Kind). x ∷ map unlevelled (kinds_in ps)) (stands t.kind p.what h.0)
    ∙ ap (λ (x : List Kind). unlevelled t.kind ∷ x) (front_kinds ts ps h.2)

canonical : (tree : Ast) (ts : List Token) → Written (ast_pieces tree) ts [] → canonical_text tree ≡ layout (kinds_of ts)
canonical tree ts h =
    sym (same_printed [] None (kinds_in (ast_pieces tree)))
    ∙ ap (λ (x : List Kind). printed [] None x) (front_kinds ts (ast_pieces tree) h.front)
    ∙ same_printed [] None (kinds_of ts)

-- ---- what the grammar takes has a spelling

abbrev Fine : Terminal → Type 0
Fine k = (k.class ≢ bad_class) × (k.size < 2 ^ 64)

abbrev AreFine : List Terminal → Type 0
AreFine [] = Unit {0}
AreFine (k ∷ ks) = Fine k × AreFine ks

-- it takes no token that is none, and no number that doesn't fit 64 bits
abbrev bounded_one : List ℕ → ℕ → Bool
bounded_one cs m = not (has bad_class cs) && not (nat_lt (2 ^ 64) m)

abbrev bounded : Ebnf → Bool
bounded (One cs m) = bounded_one cs m
bounded (Seq a b) = bounded a && bounded b
bounded (Alt a b) = bounded a && bounded b
bounded (Opt a) = bounded a
bounded (Many a) = bounded a
bounded (Within o r c m) = bounded_one (o ∷ []) m && bounded_one (c ∷ []) m

of_choice : (P : Ebnf → Type 0) (b : Bool) (x y : Ebnf) → P x → P y → P (if b then x else y)
of_choice P true x y p q = p
of_choice P false x y p q = q

rules_bounded : (r : ℕ) → bounded (rule r) ≡ true
unfolding rule a_word a_mark a_name a_range a_number a_text a_uuid pk signed bounds sizeable base array_size dtor dtors body struct_rest switch_part union_body union_rest enum_body enum_rest typed plain spec spec_but_void star_name size_ref attr attrs member members label arm arms param param_but_void more_params params op_rest lone_or_op const_decl typedef_decl decl version file_attr
rules_bounded r =
    let P : Ebnf → Type 0 = λ g. bounded g ≡ true in
    let Q : ℕ → Bool = λ n. eqb r n in
    of_choice P (Q 1) _ _ refl (of_choice P (Q 2) _ _ refl (of_choice P (Q 3) _ _ refl (of_choice P (Q 4) _ _ refl (of_choice P (Q 5) _ _ refl (of_choice P (Q 6) _ _ refl (of_choice P (Q 7) _ _ refl (of_choice P (Q 8) _ _ refl (of_choice P (Q 9) _ _ refl (of_choice P (Q 10) _ _ refl (of_choice P (Q 11) _ _ refl (of_choice P (Q 12) _ _ refl (of_choice P (Q 13) _ _ refl (of_choice P (Q 14) _ _ refl (of_choice P (Q 15) _ _ refl (of_choice P (Q 16) _ _ refl refl)))))))))))))))

file_bounded : bounded file ≡ true
unfolding a_word a_name the_end file
file_bounded = refl

both : (a b : Bool) → (a && b) ≡ true → (a ≡ true) × (b ≡ true)
both true b h = (refl, h)
both false b h = absurd (false≢true h)

no : (b : Bool) → not b ≡ true → b ≡ false
no true h = absurd (false≢true h)
no false h = refl

under : (m s : ℕ) → nat_lt (2 ^ 64) m ≡ false → s < m → s < 2 ^ 64
under m s h l = grind (arith, nat_tests)

one_fine : (cs : List ℕ) (m : ℕ) (k : Terminal) → bounded_one cs m ≡ true → has k.class cs ≡ true → k.size < m → Fine k
one_fine cs m k b h l =
    let parts = both (not (has bad_class cs)) (not (nat_lt (2 ^ 64) m)) b in
    (λ e. false≢true (sym (no (has bad_class cs) parts.0) ∙ ap (λ (x : ℕ). has x cs) (sym e) ∙ h), under m k.size (no (nat_lt (2 ^ 64) m) parts.1) l)

fine : {g : Ebnf} {ts rest : List Terminal} → Matches rule g ts rest → bounded g ≡ true → AreFine rest → AreFine ts
fine (one cs m k ts e l) b f = (one_fine cs m k b e l, f)
fine (seq {a = x} {b = y} p q) b f = let parts = both (bounded x) (bounded y) b in fine p parts.0 (fine q parts.1 f)
fine (left {a = x} y p) b f = fine p (both (bounded x) (bounded y) b).0 f
fine (right x {b = y} p) b f = fine p (both (bounded x) (bounded y) b).1 f
fine (none a ts) b f = f
fine (some p) b f = fine p b f
fine (stop a ts) b f = f
fine (more p q) b f = fine p b (fine q b f)
fine (within o r c m k i l p q) b f =
    let parts = both (bounded_one (o ∷ []) m) (bounded_one (c ∷ []) m) b in
    let is_one : has k.class (o ∷ []) ≡ true = or_left (eqb k.class o) false (eq-eqb k.class o i) in
    (one_fine (o ∷ []) m k parts.0 is_one l, fine p (rules_bounded r) (fine q parts.1 f))

has_text : (k : Kind) → Fine (terminal k) → HasText k
has_text (kinds.Word word) f = tt
has_text (kinds.Name name) f = tt
has_text (kinds.Number (Some value)) f = tt
has_text (kinds.Number None) f = let l = f.1 in absurd (omega (arith, l))
has_text (kinds.Text inside) f = tt
has_text (kinds.Uuid id) f = tt
has_text (kinds.Mark mark) f = tt
has_text (kinds.Open bracket level) f = tt
has_text (kinds.Shut bracket) f = tt
has_text kinds.End f = tt
has_text kinds.Bad f = absurd (f.0 refl)

have_texts : (ts : List Token) → AreFine (terminals ts) → HaveTexts (kinds_of ts)
have_texts [] f = tt
have_texts (t ∷ ts) f = (has_text t.kind f.0, have_texts ts f.1)

-- ---- the laws

pub same_kinds : (text : List ℕ) (tree : Ast) (ts : List Token) → AreTokens text ts → IsTree ts tree
    → (us : List Token) × AreTokens (canonical_text tree) us × (kinds_of us ≡ kinds_of ts)
same_kinds text tree ts cut is =
    let found = layout_again text ts cut (have_texts ts (fine is.taken file_bounded tt)) in
    (found.0, subst (λ (x : List ℕ). AreTokens x found.0) (sym (canonical tree ts is.spelled)) found.1, found.2)

terminals_are : (ts : List Token) → terminals ts ≡ map terminal (kinds_of ts)
terminals_are [] = refl
terminals_are (t ∷ ts) = ap (λ (x : List Terminal). terminal t.kind ∷ x) (terminals_are ts)

terminals_join : (ts us : List Token) → terminals (ts ++ us) ≡ terminals ts ++ terminals us
terminals_join [] us = refl
terminals_join (t ∷ ts) us = ap (λ (x : List Terminal). terminal t.kind ∷ x) (terminals_join ts us)

pub of_grammar : (text : List ℕ) (tree : Ast) → IsIdl text tree
    → (us : List Token) × AreTokens (canonical_text tree) us × Matches rule file (terminals us) []
of_grammar text tree h =
    let found = same_kinds text tree h.tokens h.cut h.tree_is in
    let same : terminals h.tokens ≡ terminals found.0 = terminals_are h.tokens ∙ ap (map terminal) (sym found.2) ∙ sym (terminals_are found.0) in
    (found.0, found.1, subst (λ (x : List Terminal). Matches rule file x []) same h.tree_is.taken)

pub departs_nowhere : (text : List ℕ) (tree : Ast) (us : List Token) (token : Token) (oversized : Bool) → IsIdl text tree → AreTokens (canonical_text tree) us
    → FirstDeparture us token oversized → ⊥
departs_nowhere text tree us token oversized h cut d =
    let found = of_grammar text tree h in
    let same : found.0 ≡ us = cut_once found.1 cut in
    let e : terminals found.0 ≡ (terminals d.before ++ terminal token.kind ∷ []) ++ terminals d.behind =
    ap terminals (same ∙ d.cut) ∙ terminals_join d.before (token ∷ d.behind) ∙ sym (append_assoc (terminals d.before) (terminal token.kind ∷ []) (terminals d.behind)) in
    d.no_further (terminals d.behind, subst (λ (x : List Terminal). Matches rule file x []) e found.2)

pub spell_the_same : (text : List ℕ) (tree other : Ast) → (a : IsIdl text tree) → (b : IsIdl (canonical_text tree) other) → kinds_of b.tokens ≡ kinds_of a.tokens
spell_the_same text tree other a b =
    let found = same_kinds text tree a.tokens a.cut a.tree_is in
    ap kinds_of (cut_once b.cut found.1) ∙ found.2
