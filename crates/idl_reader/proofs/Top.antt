-- A whole text.
use Rattle.std.proofs.Common.{◌≡◌, ℕ, ◌<◌, ◌≤◌, ◌-◌, ◌+◌, Bool, true, false, eqb, List, [], ◌∷◌, ◌++◌, refl, ap, sym, ◌∙◌, subst, inl, inr, Option, None, Some, length, length-append, get_or, arith}
use Rattle.std.specs.Prelude.{◌⊎◌, Result, Ok, Err, if◌then◌else◌}
use Rattle.std.proofs.Math.Seq.{get_or-append_seam}
use Rattle.idl_tokens.specs.Ebnf.{Ebnf, Terminal, Matches, has}
use Rattle.idl_tokens.specs.Ebnf.Ebnf.{Seq}
use Rattle.idl_tokens.specs.Machine.{Stuck, parse, token, sized, ◌>>=◌}
use Rattle.idl_tokens.specs.Stacks.{Begins, CannotGoOn}
use Rattle.idl_tokens.specs.EbnfLaws.{Gone}
use Rattle.idl_tokens.proofs.Departs.{go_departs, go_sound}
use Rattle.idl_tokens.proofs.EbnfOnce.{go_complete}
use Rattle.idl_tokens.proofs.Equations.{parse_seq, parse_one}
use Rattle.idl_tokens.specs.declared.kinds.Token.{Token}
use Rattle.idl_tokens.specs.Terminals.{terminal, terminals, bad_class, end_class}
use Rattle.idl_tokens.specs.Laws.{EndsOnce}
use Rattle.idl_tree.specs.Combinators.{a_word, a_mark, a_name, a_range, a_number, a_text, a_uuid, the_end}
use Rattle.idl_tree.specs.Grammar.{rule, file, pk, signed, bounds, sizeable, base, array_size, dtor, dtors, body, struct_rest, switch_part, union_body, union_rest, enum_body, enum_rest, typed, plain, spec, spec_but_void, star_name, size_ref, attr, attrs, member, members, label, arm, arms, param, param_but_void, more_params, params, op_rest, lone_or_op, const_decl, typedef_decl, decl, version, file_attr}
use Rattle.idl_tree.specs.Idl.{BeginsText, FirstDeparture, least, IsTree}
use Rattle.idl_tree.proofs.Deciding.{sorted, file_good, file_full}
use Rattle.idl_tokens.specs.declared.words.Word.TheVariants as words
use Rattle.idl_tokens.specs.declared.marks.Bracket.TheVariants as brackets
use Rattle.idl_tree.specs.Combinators.{in_brackets, ◌⨟◌}
use Rattle.idl_tree.specs.Pieces.{Pieces, Front, Written, within, commas, word_pieces, ident_pieces, end_pieces}
use Rattle.idl_tree.specs.Files.{ast_pieces, file_attr_pieces, decl_pieces}
use Rattle.idl_tree.specs.declared.declaration.Ast.{Ast}
use Rattle.idl_parts.proofs.Orders.{bind_same}
use Rattle.std.specs.List.{flat_map}
use Rattle.std.proofs.Common.{append_assoc}
use Rattle.idl_reader.proofs.Ends.{lacks, all_lack, LastIs, LeavesSome, go_leaves}
use Rattle.idl_parts.specs.Along.{end_at}

-- ---- what begins a text

begins_text : (ks : List Terminal) → Begins rule (file ∷ []) ks → BeginsText ks
begins_text ks b = (b.0, subst (λ (x : List Terminal). Matches rule file (ks ++ b.0) x) b.1.2 b.1.1)

all_begins : (ks : List Terminal) → BeginsText ks → Begins rule (file ∷ []) ks
all_begins ks b = (b.0, ([], b.1, refl))

-- ---- tokens by their terminals

record Split (ts : List Token) (front rest : List Terminal) : Type 0 where
  before : List Token
  behind : List Token
  cut : ts ≡ before ++ behind
  before_is : terminals before ≡ front
  behind_is : terminals behind ≡ rest

terminals_split : (ts : List Token) (front rest : List Terminal) → terminals ts ≡ front ++ rest → Split ts front rest
terminals_split ts [] rest e = record { before = []; behind = ts; cut = refl; before_is = refl; behind_is = e }
terminals_split [] (k ∷ front) rest e = cc
terminals_split (t ∷ ts) (k ∷ front) rest e =
    let tail : terminals ts ≡ front ++ rest = cc in
    let head : terminal t.kind ≡ k = cc in
    let d = terminals_split ts front rest tail in
    record { before = t ∷ d.before; behind = d.behind; cut = ap (λ x. t ∷ x) d.cut; before_is = ap (λ x. terminal t.kind ∷ x) d.before_is ∙ ap (λ x. x ∷ front) head; behind_is = d.behind_is }

length_terminals : (ts : List Token) → length (terminals ts) ≡ length ts
length_terminals [] = refl
length_terminals (t ∷ ts) = let i = length_terminals ts in omega arith

-- ---- the end stands nowhere but at the end

of_choice : (P : Ebnf → Type 0) (b : Bool) (x y : Ebnf) → P x → P y → P (if b then x else y)
of_choice P true x y p q = p
of_choice P false x y p q = q

no_end : (r : ℕ) → lacks end_class (rule r) ≡ true
unfolding rule a_word a_mark a_name a_range a_number a_text a_uuid the_end pk signed bounds sizeable base array_size dtor dtors body struct_rest switch_part union_body union_rest enum_body enum_rest typed plain spec spec_but_void star_name size_ref attr attrs member members label arm arms param param_but_void more_params params op_rest lone_or_op const_decl typedef_decl decl version file_attr
no_end r =
    let P : Ebnf → Type 0 = λ g. lacks end_class g ≡ true in
    let Q : ℕ → Bool = λ n. eqb r n in
    of_choice P (Q 1) _ _ refl (of_choice P (Q 2) _ _ refl (of_choice P (Q 3) _ _ refl (of_choice P (Q 4) _ _ refl (of_choice P (Q 5) _ _ refl (of_choice P (Q 6) _ _ refl (of_choice P (Q 7) _ _ refl (of_choice P (Q 8) _ _ refl (of_choice P (Q 9) _ _ refl (of_choice P (Q 10) _ _ refl (of_choice P (Q 11) _ _ refl (of_choice P (Q 12) _ _ refl (of_choice P (Q 13) _ _ refl (of_choice P (Q 14) _ _ refl (of_choice P (Q 15) _ _ refl (of_choice P (Q 16) _ _ refl refl)))))))))))))))

no_bad : (r : ℕ) → lacks 0 (rule r) ≡ true
unfolding rule a_word a_mark a_name a_range a_number a_text a_uuid the_end pk signed bounds sizeable base array_size dtor dtors body struct_rest switch_part union_body union_rest enum_body enum_rest typed plain spec spec_but_void star_name size_ref attr attrs member members label arm arms param param_but_void more_params params op_rest lone_or_op const_decl typedef_decl decl version file_attr
no_bad r =
    let P : Ebnf → Type 0 = λ g. lacks 0 g ≡ true in
    let Q : ℕ → Bool = λ n. eqb r n in
    of_choice P (Q 1) _ _ refl (of_choice P (Q 2) _ _ refl (of_choice P (Q 3) _ _ refl (of_choice P (Q 4) _ _ refl (of_choice P (Q 5) _ _ refl (of_choice P (Q 6) _ _ refl (of_choice P (Q 7) _ _ refl (of_choice P (Q 8) _ _ refl (of_choice P (Q 9) _ _ refl (of_choice P (Q 10) _ _ refl (of_choice P (Q 11) _ _ refl (of_choice P (Q 12) _ _ refl (of_choice P (Q 13) _ _ refl (of_choice P (Q 14) _ _ refl (of_choice P (Q 15) _ _ refl (of_choice P (Q 16) _ _ refl refl)))))))))))))))

-- the file but for its end
unfoldable before_end : Ebnf
before_end = in_brackets brackets.Square 3 ⨟ a_word words.Interface ⨟ a_name ⨟ in_brackets brackets.Curly 8

file_is : file ≡ Seq before_end the_end
unfolding file before_end
file_is = refl

front_no_end : all_lack end_class (before_end ∷ []) ≡ true
unfolding before_end a_word a_name
front_no_end = refl

front_no_bad : all_lack 0 (before_end ∷ []) ≡ true
unfolding before_end a_word a_name
front_no_bad = refl

ends_in : (ts : List Token) → EndsOnce ts → LastIs end_class (terminals ts) ⊎ LastIs bad_class (terminals ts)
ends_in [] e = absurd e
ends_in (t ∷ []) e = elim e [ inl p ↦ inl (ap (λ k. (terminal k).class) p) | inr p ↦ inr (ap (λ k. (terminal k).class) p) ]
ends_in (t ∷ u ∷ ts) e = ends_in (u ∷ ts) e.1

front_leaves : (ks : List Terminal) → LastIs end_class ks ⊎ LastIs bad_class ks → LeavesSome (parse rule before_end ks)
unfolding parse
front_leaves ks (inl l) = go_leaves rule end_class no_end (before_end ∷ []) ks front_no_end l
front_leaves ks (inr l) = go_leaves rule 0 no_bad (before_end ∷ []) ks front_no_bad l

token_stops : (h i : Bool) (k : Terminal) (ks : List Terminal) (x : Stuck) → (if h then sized i (Ok ks) (k ∷ ks) else Err (record { odd = false; rest = k ∷ ks })) ≡ Err x → x.rest ≡ [] → ⊥
token_stops true true k ks x e f = cc
token_stops true false k ks x e f = cc
token_stops false i k ks x e f = cc

end_stops : (ks : List Terminal) (x : Stuck) → (ks ≡ [] → ⊥) → end_at ks ≡ Err x → x.rest ≡ [] → ⊥
end_stops [] x n e f = n refl
end_stops (k ∷ ks) x n e f = token_stops (has k.class (end_class ∷ [])) (Rattle.std.proofs.Common.nat_lt k.size 1) k ks x e f

then_end : (r : Result (List Terminal) Stuck) (x : Stuck) → LeavesSome r → (r >>= end_at) ≡ Err x → x.rest ≡ [] → ⊥
then_end (Ok mid) x l e f = end_stops mid x l e f
then_end (Err y) x l e f = l (ap (λ (v : List Terminal). v) same ∙ f)
  where
    same : y.rest ≡ x.rest
    same = cc

by_end : (ks : List Terminal) → parse rule file ks ≡ (parse rule before_end ks >>= end_at)
unfolding the_end
by_end ks = ap (λ g. parse rule g ks) file_is ∙ (parse_seq rule before_end the_end ks ∙ bind_same (parse rule before_end ks) (parse rule the_end) end_at (parse_one rule (end_class ∷ []) 1))

-- where it stops, a token stands
stops_before : (ts : List Token) (x : Stuck) → EndsOnce ts → parse rule file (terminals ts) ≡ Err x → x.rest ≡ [] → ⊥
stops_before ts x o e f = then_end (parse rule before_end (terminals ts)) x (front_leaves (terminals ts) (ends_in ts o)) (sym (by_end (terminals ts)) ∙ e) f

-- ---- the first departure

made : (tokens before behind : List Token) (t token : Token) (odd : Bool) → tokens ≡ before ++ t ∷ behind → token ≡ t → Begins rule (file ∷ []) (terminals before) → CannotGoOn rule (file ∷ []) (terminals before) odd (terminal t.kind ∷ terminals behind) → FirstDeparture tokens token odd
made tokens before behind t token odd c same b n =
    subst (λ (v : Token). FirstDeparture tokens v odd) (sym same) (record {
      before = before;
      behind = behind;
      cut = c;
      begins = begins_text (terminals before) b;
      no_further = λ f. n.0 (all_begins _ f);
      smaller = ((λ o. begins_text _ (n.1.0 o)), (λ f. n.1.1 (all_begins _ f)));
    })

split_made : (tokens rest : List Token) (token : Token) (odd : Bool) (front : List Terminal) (before behind : List Token) → tokens ≡ before ++ behind → terminals before ≡ front → terminals behind ≡ terminals rest → (terminals rest ≡ [] → ⊥) → Begins rule (file ∷ []) front → CannotGoOn rule (file ∷ []) front odd (terminals rest) → token ≡ get_or tokens (length tokens - length rest) token → FirstDeparture tokens token odd
split_made tokens rest token odd front before [] c p q s b n g = absurd (s (sym q))
split_made tokens rest token odd front before (t ∷ behind) c p q s b n g =
    let whole : length tokens ≡ length before + length (t ∷ behind) = ap length c ∙ length-append before (t ∷ behind) in
    let left : length (t ∷ behind) ≡ length rest = sym (length_terminals (t ∷ behind)) ∙ (ap length q ∙ length_terminals rest) in
    let index : length tokens - length rest ≡ length before = omega arith in
    let same : token ≡ t = g ∙ (ap (λ i. get_or tokens i token) index ∙ (ap (λ xs. get_or xs (length before) token) c ∙ get_or-append_seam before t behind token)) in
    made tokens before behind t token odd c same (subst (λ (x : List Terminal). Begins rule (file ∷ []) x) (sym p) b) (subst (λ (x : List Terminal). CannotGoOn rule (file ∷ []) (terminals before) odd x) (sym q) (subst (λ (x : List Terminal). CannotGoOn rule (file ∷ []) x odd (terminals rest)) (sym p) n))

pub first_departure : (tokens rest : List Token) (token : Token) (odd : Bool) → EndsOnce tokens → parse rule file (terminals tokens) ≡ Err (record { odd = odd; rest = terminals rest }) → token ≡ get_or tokens (length tokens - length rest) token → FirstDeparture tokens token odd
unfolding parse
first_departure tokens rest token odd o e g =
    let d = go_departs rule sorted (file ∷ []) (terminals tokens) (record { odd = odd; rest = terminals rest }) file_good file_full e in
    let s = terminals_split tokens d.front (terminals rest) d.cut in
    split_made tokens rest token odd d.front s.before s.behind s.cut s.before_is s.behind_is (stops_before tokens (record { odd = odd; rest = terminals rest }) o e) d.begins d.no_further g

-- a token stands there
pub stands_there : (tokens rest : List Token) (odd : Bool) → EndsOnce tokens → parse rule file (terminals tokens) ≡ Err (record { odd = odd; rest = terminals rest }) → (0 < length rest) × (length rest ≤ length tokens)
unfolding parse
stands_there tokens rest odd o e =
    let d = go_departs rule sorted (file ∷ []) (terminals tokens) (record { odd = odd; rest = terminals rest }) file_good file_full e in
    let whole : length (terminals tokens) ≡ length d.front + length (terminals rest) = ap length d.cut ∙ length-append d.front (terminals rest) in
    let a = length_terminals tokens in
    let b = length_terminals rest in
    (some rest (stops_before tokens (record { odd = odd; rest = terminals rest }) o e), omega arith)
  where
    some : (ts : List Token) → (terminals ts ≡ [] → ⊥) → 0 < length ts
    some [] n = absurd (n refl)
    some (t ∷ ts) n = omega arith

-- ---- what an oversized token is

pub oversized_kind : (tokens : List Token) (token : Token) → FirstDeparture tokens token true → ((terminal token.kind).size ≡ 0) → ⊥
oversized_kind tokens token d z =
    let same : terminal token.kind ≡ least (terminal token.kind) = ap (λ n. record { class = (terminal token.kind).class; size = n }) z in
    d.no_further (subst (λ (k : Terminal). BeginsText (terminals d.before ++ k ∷ [])) (sym same) (d.smaller.0 refl))

-- ---- what is taken

pub taken : (tokens : List Token) → parse rule file (terminals tokens) ≡ Ok [] → Matches rule file (terminals tokens) []
unfolding parse
taken tokens e = from (go_sound rule (file ∷ []) (terminals tokens) [] e)
  where
    from : Gone rule (file ∷ []) (terminals tokens) [] → Matches rule file (terminals tokens) []
    from g =
        let t = g.takes [] in
        subst (λ (x : List Terminal). Matches rule file x []) (sym g.cut) (subst (λ (x : List Terminal). Matches rule file (g.front ++ []) x) t.2 t.1)

pub not_taken : (tokens : List Token) (x : Stuck) → parse rule file (terminals tokens) ≡ Err x → Matches rule file (terminals tokens) [] → ⊥
unfolding parse
not_taken tokens x e t = let o = go_complete rule sorted.rules (file ∷ []) (terminals tokens) [] file_good ([], t, refl) tt in cc

-- behind the end nothing stands
front_ends : (ps : Pieces) (ts rest : List Token) → Front ts (ps ++ end_pieces) rest → EndsOnce ts → rest ≡ []
unfolding end_pieces
front_ends [] [] rest f o = absurd o
front_ends [] (t ∷ []) rest f o = sym f.2
front_ends [] (t ∷ u ∷ ts) rest f o = absurd (o.0 (inl f.0))
front_ends (p ∷ ps) [] rest f o = absurd o
front_ends (p ∷ ps) (t ∷ []) rest f o = absurd (nothing ps rest f.2)
  where
    nothing : (ps : Pieces) (rest : List Token) → Front [] (ps ++ end_pieces) rest → ⊥
    nothing [] rest f = f
    nothing (p ∷ ps) rest f = f
front_ends (p ∷ ps) (t ∷ u ∷ ts) rest f o = front_ends ps (u ∷ ts) rest f.2 o.1

pub nothing_behind : (tree : Ast) (tokens rest : List Token) → Written (ast_pieces tree) tokens rest → EndsOnce tokens → rest ≡ []
unfolding ast_pieces
nothing_behind tree tokens rest w o =
    let a : Pieces = within brackets.Square (commas file_attr_pieces tree.attributes.items) in
    let b : Pieces = word_pieces words.Interface in
    let c : Pieces = ident_pieces tree.name in
    let d : Pieces = within brackets.Curly (flat_map decl_pieces tree.decls.items) in
    let e : a ++ (b ++ (c ++ (d ++ end_pieces))) ≡ (a ++ (b ++ (c ++ d))) ++ end_pieces = simp append_assoc in
    front_ends (a ++ (b ++ (c ++ d))) tokens rest (subst (λ (x : Pieces). Front tokens x rest) e w.front) o

pub is_tree : (tree : Ast) (tokens rest : List Token) → Written (ast_pieces tree) tokens rest → EndsOnce tokens → parse rule file (terminals tokens) ≡ Ok (terminals rest) → IsTree tokens tree
is_tree tree tokens rest w o e =
    let n = nothing_behind tree tokens rest w o in
    record {
      spelled = subst (λ (x : List Token). Written (ast_pieces tree) tokens x) n w;
      taken = taken tokens (e ∙ ap (λ (x : List Token). Ok (terminals x)) n);
    }
