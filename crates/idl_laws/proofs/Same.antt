-- What takes the same, whatever brackets hold.
use Rattle.std.proofs.Common.{ℕ, Bool, true, false, eqb, List, []}
use Rattle.std.specs.Prelude.{◌↔◌, if◌then◌else◌}
use Rattle.idl_tokens.specs.Ebnf.{Ebnf, Terminal, Matches}
use Rattle.idl_tokens.specs.Ebnf.Ebnf.{Seq, Alt, Opt, Many}
use Rattle.idl_tokens.specs.Ebnf.Matches.{seq, left, right, none, some, stop, more}
use Rattle.idl_tokens.specs.declared.words.Word.TheVariants as words
use Rattle.idl_tokens.specs.declared.marks.Mark.TheVariants as marks
use Rattle.idl_tree.specs.Combinators.{◌⨟◌, ◌∣◌, a_word, a_mark, a_name, a_text, a_uuid, listed}
use Rattle.idl_tree.specs.Grammar.{pk, signed, bounds, sizeable, base, array_size, dtor, dtors, body, struct_rest, union_body, union_rest, enum_body, enum_rest, typed, plain, spec, spec_but_void, size_ref, star_name, attr, attrs, member, members, label, arm, arms, param, param_but_void, more_params, params, op_rest, lone_or_op, const_decl, typedef_decl, decl, version, file_attr, file, rule}
use Rattle.idl_laws.specs.AsWritten.{written_base, written_spec, written_member, written_arm, written_param, written_params, with_tag, written_decl, written_rule}
use Rattle.idl_laws.proofs.Swap.{swapped}

module _ (f : ℕ → Ebnf) where
  abbrev To : Ebnf → Ebnf → Type 0
  To a b = (ts rest : List Terminal) → Matches f a ts rest → Matches f b ts rest

  id : (a : Ebnf) → To a a
  id a ts rest p = p

  to_seq : (a b c d : Ebnf) → To a c → To b d → To (Seq a b) (Seq c d)
  to_seq a b c d p q ts rest (seq {mid = mid} x y) = seq (p ts mid x) (q mid rest y)

  to_alt : (a b c d : Ebnf) → To a c → To b d → To (Alt a b) (Alt c d)
  to_alt a b c d p q ts rest (left _ x) = left d (p ts rest x)
  to_alt a b c d p q ts rest (right _ x) = right c (q ts rest x)

  to_opt : (a c : Ebnf) → To a c → To (Opt a) (Opt c)
  to_opt a c p ts rest (none _ _) = none c ts
  to_opt a c p ts rest (some x) = some (p ts rest x)

  to_many : (a c : Ebnf) → To a c → To (Many a) (Many c)
  to_many a c p ts rest (stop _ _) = stop c ts
  to_many a c p ts rest (more {mid = mid} x y) = more (p ts mid x) (to_many a c p mid rest y)

  -- ---- base types

  module _ (A B U C Z I : Ebnf) where
    base_to : To (Alt A (Alt B (Alt (Seq U (Alt C (Seq Z (Opt I)))) (Alt C (Seq Z (Opt I)))))) (Alt A (Alt B (Alt (Seq (Opt U) C) (Seq (Seq (Opt U) Z) (Opt I)))))
    base_to ts rest (left _ x) = left _ x
    base_to ts rest (right _ (left _ x)) = right _ (left _ x)
    base_to ts rest (right _ (right _ (left _ (seq u (left _ x))))) = right _ (right _ (left _ (seq (some u) x)))
    base_to ts rest (right _ (right _ (left _ (seq u (right _ (seq z i)))))) = right _ (right _ (right _ (seq (seq (some u) z) i)))
    base_to ts rest (right _ (right _ (right _ (left _ x)))) = right _ (right _ (left _ (seq (none U ts) x)))
    base_to ts rest (right _ (right _ (right _ (right _ (seq z i))))) = right _ (right _ (right _ (seq (seq (none U ts) z) i)))

    base_back : To (Alt A (Alt B (Alt (Seq (Opt U) C) (Seq (Seq (Opt U) Z) (Opt I))))) (Alt A (Alt B (Alt (Seq U (Alt C (Seq Z (Opt I)))) (Alt C (Seq Z (Opt I))))))
    base_back ts rest (left _ x) = left _ x
    base_back ts rest (right _ (left _ x)) = right _ (left _ x)
    base_back ts rest (right _ (right _ (left _ (seq (some u) x)))) = right _ (right _ (left _ (seq u (left _ x))))
    base_back ts rest (right _ (right _ (left _ (seq (none _ _) x)))) = right _ (right _ (right _ (left _ x)))
    base_back ts rest (right _ (right _ (right _ (seq (seq (some u) z) i)))) = right _ (right _ (left _ (seq u (right _ (seq z i)))))
    base_back ts rest (right _ (right _ (right _ (seq (seq (none _ _) z) i)))) = right _ (right _ (right _ (right _ (seq z i))))

  to_base : To base written_base
  unfolding base sizeable written_base
  to_base = base_to _ _ _ _ _ _

  back_base : To written_base base
  unfolding base sizeable written_base
  back_base = base_back _ _ _ _ _ _

  -- ---- type specs

  module _ (S U E V N H B W : Ebnf) where
    spec_to : To B W → To (Alt S (Alt U (Alt E (Alt V (Alt N (Alt H B)))))) (Alt W (Alt N (Alt V (Alt H (Alt S (Alt U E))))))
    spec_to h ts rest (left _ x) = right _ (right _ (right _ (right _ (left _ x))))
    spec_to h ts rest (right _ (left _ x)) = right _ (right _ (right _ (right _ (right _ (left _ x)))))
    spec_to h ts rest (right _ (right _ (left _ x))) = right _ (right _ (right _ (right _ (right _ (right _ x)))))
    spec_to h ts rest (right _ (right _ (right _ (left _ x)))) = right _ (right _ (left _ x))
    spec_to h ts rest (right _ (right _ (right _ (right _ (left _ x))))) = right _ (left _ x)
    spec_to h ts rest (right _ (right _ (right _ (right _ (right _ (left _ x)))))) = right _ (right _ (right _ (left _ x)))
    spec_to h ts rest (right _ (right _ (right _ (right _ (right _ (right _ x)))))) = left _ (h ts rest x)

    spec_back : To W B → To (Alt W (Alt N (Alt V (Alt H (Alt S (Alt U E)))))) (Alt S (Alt U (Alt E (Alt V (Alt N (Alt H B))))))
    spec_back h ts rest (left _ x) = right _ (right _ (right _ (right _ (right _ (right _ (h ts rest x))))))
    spec_back h ts rest (right _ (left _ x)) = right _ (right _ (right _ (right _ (left _ x))))
    spec_back h ts rest (right _ (right _ (left _ x))) = right _ (right _ (right _ (left _ x)))
    spec_back h ts rest (right _ (right _ (right _ (left _ x)))) = right _ (right _ (right _ (right _ (right _ (left _ x)))))
    spec_back h ts rest (right _ (right _ (right _ (right _ (left _ x))))) = left _ x
    spec_back h ts rest (right _ (right _ (right _ (right _ (right _ (left _ x)))))) = right _ (left _ x)
    spec_back h ts rest (right _ (right _ (right _ (right _ (right _ (right _ x)))))) = right _ (right _ (left _ x))

  to_spec : To spec written_spec
  unfolding spec plain typed written_spec
  to_spec = spec_to _ _ _ _ _ _ base written_base to_base

  back_spec : To written_spec spec
  unfolding spec plain typed written_spec
  back_spec = spec_back _ _ _ _ _ _ base written_base back_base

  to_member : To member written_member
  unfolding member written_member
  to_member = to_seq _ _ _ _ (to_seq _ _ _ _ (to_seq _ _ _ _ (id (Opt attrs)) to_spec) (id dtors)) (id (a_mark marks.Semicolon))

  back_member : To written_member member
  unfolding member written_member
  back_member = to_seq _ _ _ _ (to_seq _ _ _ _ (to_seq _ _ _ _ (id (Opt attrs)) back_spec) (id dtors)) (id (a_mark marks.Semicolon))

  to_arm : To arm written_arm
  unfolding arm written_arm
  to_arm = to_seq _ _ _ _ (id (label ⨟ Many label)) (to_alt _ _ _ _ to_member (id (a_mark marks.Semicolon)))

  back_arm : To written_arm arm
  unfolding arm written_arm
  back_arm = to_seq _ _ _ _ (id (label ⨟ Many label)) (to_alt _ _ _ _ back_member (id (a_mark marks.Semicolon)))

  to_param : To param written_param
  unfolding param written_param
  to_param = to_seq _ _ _ _ (to_seq _ _ _ _ (id (Opt attrs)) to_spec) (id dtor)

  back_param : To written_param param
  unfolding param written_param
  back_param = to_seq _ _ _ _ (to_seq _ _ _ _ (id (Opt attrs)) back_spec) (id dtor)

  -- ---- parameters

  -- void with or without a declarator, or a parameter that doesn't begin with it, and more of them
  module _ (S U E V T A D M : Ebnf) where
    abbrev Whole : Ebnf
    Whole = Alt S (Alt U (Alt E (Alt V T)))

    abbrev ButVoid : Ebnf
    ButVoid = Alt S (Alt U (Alt E T))

    but_to : To ButVoid Whole
    but_to ts rest (left _ x) = left _ x
    but_to ts rest (right _ (left _ x)) = right _ (left _ x)
    but_to ts rest (right _ (right _ (left _ x))) = right _ (right _ (left _ x))
    but_to ts rest (right _ (right _ (right _ x))) = right _ (right _ (right _ (right _ x)))

    list_to : To (Opt (Alt (Seq V (Opt (Seq D M))) (Seq (Alt (Seq (Seq A Whole) D) (Seq ButVoid D)) M))) (Opt (Alt V (Seq (Seq (Seq (Opt A) Whole) D) M)))
    list_to ts rest (none _ _) = none _ ts
    list_to ts rest (some (left _ (seq v (none _ _)))) = some (left _ v)
    list_to ts rest (some (left _ (seq v (some (seq d m))))) = some (right _ (seq (seq (seq (none A ts) (right _ (right _ (right _ (left _ v))))) d) m))
    list_to ts rest (some (right _ (seq (left _ (seq (seq a w) d)) m))) = some (right _ (seq (seq (seq (some a) w) d) m))
    list_to ts rest (some (right _ (seq (right _ (seq {mid = mid} b d)) m))) = some (right _ (seq (seq (seq (none A ts) (but_to ts mid b)) d) m))

    list_back : To (Opt (Alt V (Seq (Seq (Seq (Opt A) Whole) D) M))) (Opt (Alt (Seq V (Opt (Seq D M))) (Seq (Alt (Seq (Seq A Whole) D) (Seq ButVoid D)) M)))
    list_back ts rest (none _ _) = none _ ts
    list_back ts rest (some (left _ v)) = some (left _ (seq v (none (Seq D M) rest)))
    list_back ts rest (some (right _ (seq (seq (seq (some a) w) d) m))) = some (right _ (seq (left _ (seq (seq a w) d)) m))
    list_back ts rest (some (right _ (seq (seq (seq (none _ _) (left _ x)) d) m))) = some (right _ (seq (right _ (seq (left _ x) d)) m))
    list_back ts rest (some (right _ (seq (seq (seq (none _ _) (right _ (left _ x))) d) m))) = some (right _ (seq (right _ (seq (right _ (left _ x)) d)) m))
    list_back ts rest (some (right _ (seq (seq (seq (none _ _) (right _ (right _ (left _ x)))) d) m))) = some (right _ (seq (right _ (seq (right _ (right _ (left _ x))) d)) m))
    list_back ts rest (some (right _ (seq (seq (seq (none _ _) (right _ (right _ (right _ (left _ v))))) d) m))) = some (left _ (seq v (some (seq d m))))
    list_back ts rest (some (right _ (seq (seq (seq (none _ _) (right _ (right _ (right _ (right _ x))))) d) m))) = some (right _ (seq (right _ (seq (right _ (right _ (right _ x))) d)) m))

  -- with the specs of the grammar itself
  abbrev plain_params : Ebnf
  plain_params = Opt (a_word words.Void ∣ listed param)

  to_plain : To params plain_params
  unfolding params param_but_void more_params param spec spec_but_void plain
  to_plain = list_to _ _ _ _ _ _ _ _

  back_plain : To plain_params params
  unfolding params param_but_void more_params param spec spec_but_void plain
  back_plain = list_back _ _ _ _ _ _ _ _

  to_listed : (a b : Ebnf) → To a b → To (listed a) (listed b)
  to_listed a b h = to_seq _ _ _ _ h (to_many _ _ (to_seq _ _ _ _ (id (a_mark marks.Comma)) h))

  to_params : To params written_params
  unfolding written_params
  to_params ts rest p = to_opt _ _ (to_alt _ _ _ _ (id (a_word words.Void)) (to_listed _ _ to_param)) ts rest (to_plain ts rest p)

  back_params : To written_params params
  unfolding written_params
  back_params ts rest p = back_plain ts rest (to_opt _ _ (to_alt _ _ _ _ (id (a_word words.Void)) (to_listed _ _ back_param)) ts rest p)

  -- ---- declarations

  -- behind a word: with the tag or without
  module _ (A P M O W R : Ebnf) where
    -- A with the tag, P without; M the semicolon, O the rest of an operation; W the word, and R what may stand behind it
    lone_to : To (Alt A P) R → To (Seq W (Alt (Seq A (Alt M O)) (Seq P O))) (Alt (Seq (Seq W A) M) (Seq (Seq W R) O))
    lone_to h ts rest (seq w (left _ (seq a (left _ m)))) = left _ (seq (seq w a) m)
    lone_to h ts rest (seq {mid = mid} w (left _ (seq {mid = next} a (right _ o)))) = right _ (seq (seq w (h mid next (left P a))) o)
    lone_to h ts rest (seq {mid = mid} w (right _ (seq {mid = next} p o))) = right _ (seq (seq w (h mid next (right A p))) o)

    tagged_back : To (Seq (Seq W A) M) (Seq W (Alt (Seq A (Alt M O)) (Seq P O)))
    tagged_back ts rest (seq (seq w a) m) = seq w (left _ (seq a (left _ m)))

    behind : (ts rest : List Terminal) {mid next : List Terminal} → Matches f W ts mid → Matches f (Alt A P) mid next → Matches f O next rest → Matches f (Seq W (Alt (Seq A (Alt M O)) (Seq P O))) ts rest
    behind ts rest w (left _ a) o = seq w (left _ (seq a (right _ o)))
    behind ts rest w (right _ p) o = seq w (right _ (seq p o))

    op_back : To R (Alt A P) → To (Seq (Seq W R) O) (Seq W (Alt (Seq A (Alt M O)) (Seq P O)))
    op_back h ts rest (seq (seq {mid = mid} {rest = next} w r) o) = behind ts rest w (h mid next r) o

  named_to : (n b : Ebnf) → To (Alt (Seq n b) b) (Seq (Opt n) b)
  named_to n b ts rest (left _ (seq x y)) = seq (some x) y
  named_to n b ts rest (right _ y) = seq (none n ts) y

  named_back : (n b : Ebnf) → To (Seq (Opt n) b) (Alt (Seq n b) b)
  named_back n b ts rest (seq (some x) y) = left _ (seq x y)
  named_back n b ts rest (seq (none _ _) y) = right _ y

  union_to : To (a_name ⨟ union_body ∣ union_body) union_rest
  unfolding union_rest
  union_to = named_to a_name union_body

  union_back : To union_rest (a_name ⨟ union_body ∣ union_body)
  unfolding union_rest
  union_back = named_back a_name union_body

  enum_to : To (a_name ⨟ enum_body ∣ enum_body) enum_rest
  unfolding enum_rest
  enum_to = named_to a_name enum_body

  enum_back : To enum_rest (a_name ⨟ enum_body ∣ enum_body)
  unfolding enum_rest
  enum_back = named_back a_name enum_body

  struct_to : To (a_name ⨟ Opt body ∣ body) struct_rest
  unfolding struct_rest
  struct_to = id _

  struct_back : To struct_rest (a_name ⨟ Opt body ∣ body)
  unfolding struct_rest
  struct_back = id _

  abbrev semi : Ebnf
  semi = a_mark marks.Semicolon

  -- the specs of three words, and any other
  module _ (S U E P : Ebnf) where
    in_first : To S (Alt S (Alt U (Alt E P)))
    in_first ts rest x = left _ x

    in_second : To U (Alt S (Alt U (Alt E P)))
    in_second ts rest x = right _ (left _ x)

    in_third : To E (Alt S (Alt U (Alt E P)))
    in_third ts rest x = right _ (right _ (left _ x))

    in_fourth : To P (Alt S (Alt U (Alt E P)))
    in_fourth ts rest x = right _ (right _ (right _ x))

  -- declarations of three words: G is what the grammar has, T the tagged one, R the whole spec
  module _ (G1 G2 G3 T1 T2 T3 R1 R2 R3 P O M : Ebnf) where
    abbrev Tags : Ebnf
    Tags = Alt T1 (Alt T2 T3)

    abbrev Specs : Ebnf
    Specs = Alt R1 (Alt R2 (Alt R3 P))

    first_of : (ts rest : List Terminal) → Matches f (Alt (Seq T1 M) (Seq R1 O)) ts rest → Matches f (Alt (Seq Tags M) (Seq Specs O)) ts rest
    first_of ts rest (left _ (seq t m)) = left _ (seq (left _ t) m)
    first_of ts rest (right _ (seq r o)) = right _ (seq (left _ r) o)

    second_of : (ts rest : List Terminal) → Matches f (Alt (Seq T2 M) (Seq R2 O)) ts rest → Matches f (Alt (Seq Tags M) (Seq Specs O)) ts rest
    second_of ts rest (left _ (seq t m)) = left _ (seq (right _ (left _ t)) m)
    second_of ts rest (right _ (seq r o)) = right _ (seq (right _ (left _ r)) o)

    third_of : (ts rest : List Terminal) → Matches f (Alt (Seq T3 M) (Seq R3 O)) ts rest → Matches f (Alt (Seq Tags M) (Seq Specs O)) ts rest
    third_of ts rest (left _ (seq t m)) = left _ (seq (right _ (right _ t)) m)
    third_of ts rest (right _ (seq r o)) = right _ (seq (right _ (right _ (left _ r))) o)

    decls_to : To G1 (Alt (Seq T1 M) (Seq R1 O)) → To G2 (Alt (Seq T2 M) (Seq R2 O)) → To G3 (Alt (Seq T3 M) (Seq R3 O)) → To (Alt G1 (Alt G2 (Alt G3 (Seq P O)))) (Alt (Seq Tags M) (Seq Specs O))
    decls_to a b c ts rest (left _ x) = first_of ts rest (a ts rest x)
    decls_to a b c ts rest (right _ (left _ x)) = second_of ts rest (b ts rest x)
    decls_to a b c ts rest (right _ (right _ (left _ x))) = third_of ts rest (c ts rest x)
    decls_to a b c ts rest (right _ (right _ (right _ (seq p o)))) = right _ (seq (right _ (right _ (right _ p))) o)

    decls_back : To (Seq T1 M) G1 → To (Seq R1 O) G1 → To (Seq T2 M) G2 → To (Seq R2 O) G2 → To (Seq T3 M) G3 → To (Seq R3 O) G3 → To (Alt (Seq Tags M) (Seq Specs O)) (Alt G1 (Alt G2 (Alt G3 (Seq P O))))
    decls_back a1 b1 a2 b2 a3 b3 ts rest (left _ (seq (left _ t) m)) = left _ (a1 ts rest (seq t m))
    decls_back a1 b1 a2 b2 a3 b3 ts rest (left _ (seq (right _ (left _ t)) m)) = right _ (left _ (a2 ts rest (seq t m)))
    decls_back a1 b1 a2 b2 a3 b3 ts rest (left _ (seq (right _ (right _ t)) m)) = right _ (right _ (left _ (a3 ts rest (seq t m))))
    decls_back a1 b1 a2 b2 a3 b3 ts rest (right _ (seq (left _ r) o)) = left _ (b1 ts rest (seq r o))
    decls_back a1 b1 a2 b2 a3 b3 ts rest (right _ (seq (right _ (left _ r)) o)) = right _ (left _ (b2 ts rest (seq r o)))
    decls_back a1 b1 a2 b2 a3 b3 ts rest (right _ (seq (right _ (right _ (left _ r))) o)) = right _ (right _ (left _ (b3 ts rest (seq r o))))
    decls_back a1 b1 a2 b2 a3 b3 ts rest (right _ (seq (right _ (right _ (right _ p))) o)) = right _ (right _ (right _ (seq p o)))

  -- with the specs of the grammar itself
  abbrev plain_lone : Ebnf
  plain_lone = with_tag ⨟ semi ∣ spec ⨟ op_rest

  to_lone : To lone_or_op plain_lone
  unfolding lone_or_op with_tag spec
  to_lone =
      decls_to _ _ _ _ _ _ _ _ _ plain op_rest semi
      (lone_to (a_name ⨟ Opt body) body semi op_rest (a_word words.Struct) struct_rest struct_to)
      (lone_to (a_name ⨟ union_body) union_body semi op_rest (a_word words.Union) union_rest union_to)
      (lone_to (a_name ⨟ enum_body) enum_body semi op_rest (a_word words.Enum) enum_rest enum_to)

  back_lone : To plain_lone lone_or_op
  unfolding lone_or_op with_tag spec
  back_lone =
      decls_back _ _ _ _ _ _ _ _ _ plain op_rest semi
      (tagged_back (a_name ⨟ Opt body) body semi op_rest (a_word words.Struct) struct_rest) (op_back (a_name ⨟ Opt body) body semi op_rest (a_word words.Struct) struct_rest struct_back)
      (tagged_back (a_name ⨟ union_body) union_body semi op_rest (a_word words.Union) union_rest) (op_back (a_name ⨟ union_body) union_body semi op_rest (a_word words.Union) union_rest union_back)
      (tagged_back (a_name ⨟ enum_body) enum_body semi op_rest (a_word words.Enum) enum_rest) (op_back (a_name ⨟ enum_body) enum_body semi op_rest (a_word words.Enum) enum_rest enum_back)

  to_written_lone : To plain_lone (with_tag ⨟ semi ∣ written_spec ⨟ op_rest)
  to_written_lone = to_alt _ _ _ _ (id (with_tag ⨟ semi)) (to_seq _ _ _ _ to_spec (id op_rest))

  back_written_lone : To (with_tag ⨟ semi ∣ written_spec ⨟ op_rest) plain_lone
  back_written_lone = to_alt _ _ _ _ (id (with_tag ⨟ semi)) (to_seq _ _ _ _ back_spec (id op_rest))

  to_decl : To decl written_decl
  unfolding decl written_decl const_decl typedef_decl
  to_decl =
      to_alt _ _ _ _ (to_seq _ _ _ _ (to_seq _ _ _ _ (to_seq _ _ _ _ (to_seq _ _ _ _ (to_seq _ _ _ _ (id (a_word words.Const)) to_base) (id a_name)) (id (a_mark marks.Equals))) (id signed)) (id semi))
      (to_alt _ _ _ _ (to_seq _ _ _ _ (to_seq _ _ _ _ (to_seq _ _ _ _ (id (a_word words.Typedef ⨟ Opt attrs)) to_spec) (id dtors)) (id semi))
      (to_seq _ _ _ _ (id (Opt attrs)) (λ ts rest p. to_written_lone ts rest (to_lone ts rest p))))

  back_decl : To written_decl decl
  unfolding decl written_decl const_decl typedef_decl
  back_decl =
      to_alt _ _ _ _ (to_seq _ _ _ _ (to_seq _ _ _ _ (to_seq _ _ _ _ (to_seq _ _ _ _ (to_seq _ _ _ _ (id (a_word words.Const)) back_base) (id a_name)) (id (a_mark marks.Equals))) (id signed)) (id semi))
      (to_alt _ _ _ _ (to_seq _ _ _ _ (to_seq _ _ _ _ (to_seq _ _ _ _ (id (a_word words.Typedef ⨟ Opt attrs)) back_spec) (id dtors)) (id semi))
      (to_seq _ _ _ _ (id (Opt attrs)) (λ ts rest p. back_lone ts rest (back_written_lone ts rest p))))

  -- ---- what brackets hold

  by_rule : (b : Bool) (x y z w : Ebnf) → To x z → To y w → To (if b then x else y) (if b then z else w)
  by_rule true x y z w p q = p
  by_rule false x y z w p q = q

  pub to_rules : (r : ℕ) → To (rule r) (written_rule r)
  unfolding rule written_rule members arms
  to_rules r =
      let Q : ℕ → Bool = λ n. eqb r n in
      by_rule (Q 1) _ _ _ _ (id array_size) (by_rule (Q 2) _ _ _ _ (to_seq _ _ _ _ to_member (to_many _ _ to_member)) (by_rule (Q 3) _ _ _ _ (id (listed file_attr)) (by_rule (Q 4) _ _ _ _ (id a_uuid) (by_rule (Q 5) _ _ _ _ (id version) (by_rule (Q 6) _ _ _ _ (id pk) (by_rule (Q 7) _ _ _ _ (id (listed a_text)) (by_rule (Q 8) _ _ _ _ (to_many _ _ to_decl) (by_rule (Q 9) _ _ _ _ (id (listed attr)) (by_rule (Q 10) _ _ _ _ (id size_ref) (by_rule (Q 11) _ _ _ _ (id star_name) (by_rule (Q 12) _ _ _ _ to_spec (by_rule (Q 13) _ _ _ _ to_params (by_rule (Q 14) _ _ _ _ (to_seq _ _ _ _ to_spec (id a_name)) (by_rule (Q 15) _ _ _ _ (to_seq _ _ _ _ to_arm (to_many _ _ to_arm)) (by_rule (Q 16) _ _ _ _ (id (listed a_name)) (id bounds))))))))))))))))

  pub back_rules : (r : ℕ) → To (written_rule r) (rule r)
  unfolding rule written_rule members arms
  back_rules r =
      let Q : ℕ → Bool = λ n. eqb r n in
      by_rule (Q 1) _ _ _ _ (id array_size) (by_rule (Q 2) _ _ _ _ (to_seq _ _ _ _ back_member (to_many _ _ back_member)) (by_rule (Q 3) _ _ _ _ (id (listed file_attr)) (by_rule (Q 4) _ _ _ _ (id a_uuid) (by_rule (Q 5) _ _ _ _ (id version) (by_rule (Q 6) _ _ _ _ (id pk) (by_rule (Q 7) _ _ _ _ (id (listed a_text)) (by_rule (Q 8) _ _ _ _ (to_many _ _ back_decl) (by_rule (Q 9) _ _ _ _ (id (listed attr)) (by_rule (Q 10) _ _ _ _ (id size_ref) (by_rule (Q 11) _ _ _ _ (id star_name) (by_rule (Q 12) _ _ _ _ back_spec (by_rule (Q 13) _ _ _ _ back_params (by_rule (Q 14) _ _ _ _ (to_seq _ _ _ _ back_spec (id a_name)) (by_rule (Q 15) _ _ _ _ (to_seq _ _ _ _ back_arm (to_many _ _ back_arm)) (by_rule (Q 16) _ _ _ _ (id (listed a_name)) (id bounds))))))))))))))))

pub as_written : (ks : List Terminal) → Matches rule file ks [] ↔ Matches written_rule file ks []
as_written ks = ((λ p. swapped rule written_rule (to_rules rule) file ks [] p), (λ p. swapped written_rule rule (back_rules written_rule) file ks [] p))
