-- One token decides in the grammar, and each part of it has some word.
use Rattle.std.proofs.Common.{◌≡◌, ℕ, Bool, true, false, eqb, List, [], ◌∷◌, ◌++◌, refl, subst, ◌^◌, sym, append_assoc, ◌<◌, arith}
use Rattle.std.specs.Prelude.{if◌then◌else◌}
use Rattle.std.proofs.lemmas.Bool.{eq-eqb}
use Rattle.idl_tokens.specs.Ebnf.{Ebnf, Terminal, Matches}
use Rattle.idl_tokens.specs.Ebnf.Ebnf.{One, Seq, Alt, Opt, Many, Within}
use Rattle.idl_tokens.specs.Ebnf.Matches.{one, seq, left, right, none, stop, within}
use Rattle.idl_tokens.specs.Checks.{decides, full, fulls}
use Rattle.idl_tokens.specs.Stacks.{Good}
use Rattle.idl_tokens.specs.EbnfLaws.{Word, Sorted}
use Rattle.idl_tokens.proofs.Sets.{or_left}
use Rattle.idl_tree.specs.Combinators.{a_word, a_mark, a_name, a_range, a_number, a_text, a_uuid, the_end, level_limit}
use Rattle.idl_tree.specs.Grammar.{pk, signed, bounds, sizeable, base, array_size, dtor, dtors, body, struct_rest, switch_part, union_body, union_rest, enum_body, enum_rest, typed, plain, spec, spec_but_void, star_name, size_ref, attr, attrs, member, members, label, arm, arms, param, param_but_void, more_params, params, op_rest, lone_or_op, const_decl, typedef_decl, decl, version, file_attr, file, rule}
use Rattle.idl_tokens.specs.Terminals.{of_word, of_mark, opening, closing, name_class, number_class, text_class, uuid_class, range_class}
use Rattle.idl_tokens.specs.declared.words.Word.TheVariants as words
use Rattle.idl_tokens.specs.declared.marks.Mark.TheVariants as marks
use Rattle.idl_tokens.specs.declared.marks.Bracket.TheVariants as brackets

of_choice : (P : Ebnf → Type 0) (b : Bool) (x y : Ebnf) → P x → P y → P (if b then x else y)
of_choice P true x y p q = p
of_choice P false x y p q = q

rules : (r : ℕ) → decides rule (rule r) ≡ true
unfolding rule a_word a_mark a_name a_range a_number a_text a_uuid pk signed bounds sizeable base array_size dtor dtors body struct_rest switch_part union_body union_rest enum_body enum_rest typed plain spec spec_but_void star_name size_ref attr attrs member members label arm arms param param_but_void more_params params op_rest lone_or_op const_decl typedef_decl decl version file_attr
rules r =
    let P : Ebnf → Type 0 = λ g. decides rule g ≡ true in
    let Q : ℕ → Bool = λ n. eqb r n in
    of_choice P (Q 1) _ _ refl (of_choice P (Q 2) _ _ refl (of_choice P (Q 3) _ _ refl (of_choice P (Q 4) _ _ refl (of_choice P (Q 5) _ _ refl (of_choice P (Q 6) _ _ refl (of_choice P (Q 7) _ _ refl (of_choice P (Q 8) _ _ refl (of_choice P (Q 9) _ _ refl (of_choice P (Q 10) _ _ refl (of_choice P (Q 11) _ _ refl (of_choice P (Q 12) _ _ refl (of_choice P (Q 13) _ _ refl (of_choice P (Q 14) _ _ refl (of_choice P (Q 15) _ _ refl (of_choice P (Q 16) _ _ refl refl)))))))))))))))

whole : (r : ℕ) → full (rule r) ≡ true
unfolding rule a_word a_mark a_name a_range a_number a_text a_uuid pk signed bounds sizeable base array_size dtor dtors body struct_rest switch_part union_body union_rest enum_body enum_rest typed plain spec spec_but_void star_name size_ref attr attrs member members label arm arms param param_but_void more_params params op_rest lone_or_op const_decl typedef_decl decl version file_attr
whole r =
    let P : Ebnf → Type 0 = λ g. full g ≡ true in
    let Q : ℕ → Bool = λ n. eqb r n in
    of_choice P (Q 1) _ _ refl (of_choice P (Q 2) _ _ refl (of_choice P (Q 3) _ _ refl (of_choice P (Q 4) _ _ refl (of_choice P (Q 5) _ _ refl (of_choice P (Q 6) _ _ refl (of_choice P (Q 7) _ _ refl (of_choice P (Q 8) _ _ refl (of_choice P (Q 9) _ _ refl (of_choice P (Q 10) _ _ refl (of_choice P (Q 11) _ _ refl (of_choice P (Q 12) _ _ refl (of_choice P (Q 13) _ _ refl (of_choice P (Q 14) _ _ refl (of_choice P (Q 15) _ _ refl (of_choice P (Q 16) _ _ refl refl)))))))))))))))

-- ---- some word of each part

w_one : (c : ℕ) (cs : List ℕ) (m : ℕ) → 0 < m → Word rule (One (c ∷ cs) m)
w_one c cs m l = (record { class = c; size = 0 } ∷ [], λ rest. one (c ∷ cs) m (record { class = c; size = 0 }) rest (or_left (eqb c c) _ (eq-eqb c c refl)) l)

w_seq : (a b : Ebnf) → Word rule a → Word rule b → Word rule (Seq a b)
w_seq a b u v = (u.0 ++ v.0, λ rest. seq (subst (λ (x : List Terminal). Matches rule a x (v.0 ++ rest)) (sym (append_assoc u.0 v.0 rest)) (u.1 (v.0 ++ rest))) (v.1 rest))

w_left : (a b : Ebnf) → Word rule a → Word rule (Alt a b)
w_left a b u = (u.0, λ rest. left b (u.1 rest))

w_right : (a b : Ebnf) → Word rule b → Word rule (Alt a b)
w_right a b u = (u.0, λ rest. right a (u.1 rest))

w_opt : (a : Ebnf) → Word rule (Opt a)
w_opt a = ([], λ rest. none a rest)

w_many : (a : Ebnf) → Word rule (Many a)
w_many a = ([], λ rest. stop a rest)

w_within : (o r c m : ℕ) → 0 < m → Word rule (rule r) → Word rule (Within o r c m)
w_within o r c m l u =
    let shut : Terminal = record { class = c; size = 0 } in
    (record { class = o; size = 0 } ∷ (u.0 ++ shut ∷ []), λ rest. within o r c m (record { class = o; size = 0 }) refl l (subst (λ (x : List Terminal). Matches rule (rule r) x (shut ∷ rest)) (sym (append_assoc u.0 (shut ∷ []) rest)) (u.1 (shut ∷ rest))) (one (c ∷ []) m shut rest (or_left (eqb c c) false (eq-eqb c c refl)) l))

w_uuid : Word rule (rule 4)
unfolding rule a_uuid
w_uuid = w_one uuid_class [] 1 (omega arith)

w_name : Word rule a_name
unfolding a_name
w_name = w_one name_class (range_class ∷ []) 1 (omega arith)

w_dtor : Word rule dtor
unfolding dtor
w_dtor = w_seq _ _ (w_seq _ _ (w_many _) w_name) (w_opt _)

w_spec : Word rule spec
unfolding spec plain typed
w_spec = w_right _ _ (w_right _ _ (w_right _ _ (w_right _ _ (w_left _ _ w_name))))

w_member : Word rule member
unfolding member dtors a_mark
w_member = w_seq _ _ (w_seq _ _ (w_seq _ _ (w_opt _) w_spec) (w_seq _ _ w_dtor (w_many _))) (w_one (of_mark marks.Semicolon) [] 1 (omega arith))

w_file_attr : Word rule file_attr
unfolding file_attr a_word
w_file_attr = w_left _ _ (w_seq _ _ (w_one (of_word words.Uuid) [] 1 (omega arith)) (w_within (opening brackets.Round) 4 (closing brackets.Round) level_limit (omega arith) w_uuid))

w_attr : Word rule attr
unfolding attr
w_attr = w_left _ _ (w_one (of_word words.In) _ 1 (omega arith))

w_arm : Word rule arm
unfolding arm label a_word a_mark
w_arm = w_seq _ _ (w_seq _ _ (w_right _ _ (w_seq _ _ (w_one (of_word words.Default) [] 1 (omega arith)) (w_one (of_mark marks.Colon) [] 1 (omega arith)))) (w_many _)) (w_right _ _ (w_one (of_mark marks.Semicolon) [] 1 (omega arith)))

w_bounds : Word rule bounds
unfolding bounds signed a_mark a_number
w_bounds =
    let number : Word rule signed = w_seq _ _ (w_opt _) (w_one number_class [] (2 ^ 64) (omega arith)) in
    w_seq _ _ (w_seq _ _ number (w_one (of_mark marks.Comma) [] 1 (omega arith))) number

some_word : (r : ℕ) → Word rule (rule r)
unfolding rule array_size members a_uuid version pk a_text size_ref a_number star_name params arms
some_word r =
    let P : Ebnf → Type 0 = λ g. Word rule g in
    let Q : ℕ → Bool = λ n. eqb r n in
    let starred : Word rule star_name = w_seq _ _ (w_opt _) w_name in
    of_choice P (Q 1) _ _ (w_opt _) (of_choice P (Q 2) _ _ (w_seq _ _ w_member (w_many _)) (of_choice P (Q 3) _ _ (w_seq _ _ w_file_attr (w_many _)) (of_choice P (Q 4) _ _ (w_one uuid_class [] 1 (omega arith)) (of_choice P (Q 5) _ _ (w_seq _ _ (w_one number_class [] (2 ^ 16) (omega arith)) (w_opt _)) (of_choice P (Q 6) _ _ (w_one (of_word words.Ref) _ 1 (omega arith)) (of_choice P (Q 7) _ _ (w_seq _ _ (w_one text_class [] 1 (omega arith)) (w_many _)) (of_choice P (Q 8) _ _ (w_many _) (of_choice P (Q 9) _ _ (w_seq _ _ w_attr (w_many _)) (of_choice P (Q 10) _ _ (w_right _ _ starred) (of_choice P (Q 11) _ _ starred (of_choice P (Q 12) _ _ w_spec (of_choice P (Q 13) _ _ (w_opt _) (of_choice P (Q 14) _ _ (w_seq _ _ w_spec w_name) (of_choice P (Q 15) _ _ (w_seq _ _ w_arm (w_many _)) (of_choice P (Q 16) _ _ (w_seq _ _ w_name (w_many _)) w_bounds)))))))))))))))

pub sorted : Sorted rule
sorted = record { words = some_word; rules = rules; whole = whole }

pub file_good : Good rule (file ∷ [])
unfolding rule a_word a_mark a_name a_range a_number a_text a_uuid the_end pk signed bounds sizeable base array_size dtor dtors body struct_rest switch_part union_body union_rest enum_body enum_rest typed plain spec spec_but_void star_name size_ref attr attrs member members label arm arms param param_but_void more_params params op_rest lone_or_op const_decl typedef_decl decl version file_attr file
file_good = (refl, (λ c x y. cc), tt)

pub file_full : fulls (file ∷ []) ≡ true
unfolding a_word a_name the_end file
file_full = refl
