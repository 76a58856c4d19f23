-- What no grammar takes: a token of class 0, and a number that does not fit 64 bits.
use Rattle.std.proofs.Common.{◌≡◌, ℕ, ◌<◌, ◌+◌, ◌^◌, ◌&&◌, not, eqb, Bool, true, false, List, [], ◌∷◌, refl, ap, sym, ◌∙◌, subst, nat_lt, ltb-true, arith}
use Rattle.std.specs.Prelude.{if◌then◌else◌}
use Rattle.std.proofs.lemmas.Bool.{eq-eqb}
use Rattle.std.proofs.Math.Bool.{or-false}
use Rattle.idl_tokens.specs.Ebnf.{Ebnf, Terminal, has, Matches}
use Rattle.idl_tokens.specs.Ebnf.Ebnf.{One, Seq, Alt, Opt, Many, Within}
use Rattle.idl_tokens.specs.Ebnf.Matches.{one, seq, left, right, none, some, stop, more, within}
use Rattle.idl_tokens.proofs.Sound.{and_both}
use Rattle.idl_tokens.specs.declared.kinds.Token.{Token}
use Rattle.idl_tokens.specs.Terminals.{terminals, bad_class}
use Rattle.idl_tree.specs.Combinators.{a_word, a_mark, a_name, a_range, a_number, a_text, a_uuid, the_end}
use Rattle.idl_tree.specs.Grammar.{pk, signed, bounds, sizeable, base, array_size, dtor, dtors, body, struct_rest, switch_part, union_body, union_rest, enum_body, enum_rest, typed, plain, spec, spec_but_void, star_name, size_ref, attr, attrs, member, members, label, arm, arms, param, param_but_void, more_params, params, op_rest, lone_or_op, const_decl, typedef_decl, decl, version, file_attr, file, rule}
use Rattle.idl_forms.proofs.Stream.{Clean, seen, without_level_class}

-- It names no class 0, and has no limit above 2 ^ 64.
abbrev sane : Ebnf → Bool
sane (One cs m) = not (has bad_class cs) && nat_lt m (2 ^ 64 + 1)
sane (Seq a b) = sane a && sane b
sane (Alt a b) = sane a && sane b
sane (Opt a) = sane a
sane (Many a) = sane a
sane (Within o r c m) = not (eqb bad_class o) && (not (eqb bad_class c) && nat_lt m (2 ^ 64 + 1))

pub record Sane (k : Terminal) : Type 0 where
  pub class : k.class ≡ bad_class → ⊥
  pub size : k.size < 2 ^ 64

abbrev pub AreSane : List Terminal → Type 0
AreSane [] = Unit {0}
AreSane (k ∷ ks) = Sane k × AreSane ks

not_not : (b : Bool) → not b ≡ true → b ≡ true → ⊥
not_not true e h = cc
not_not false e h = cc

below : (n m : ℕ) → n < m → nat_lt m (2 ^ 64 + 1) ≡ true → n < 2 ^ 64
below n m l e = let k = ltb-true m (2 ^ 64 + 1) e in omega arith

one_sane : (cs : List ℕ) (m : ℕ) (k : Terminal) → sane (One cs m) ≡ true → has k.class cs ≡ true → k.size < m → Sane k
one_sane cs m k e h l =
    let p = and_both (not (has bad_class cs)) (nat_lt m (2 ^ 64 + 1)) e in
    record { class = λ z. not_not (has bad_class cs) p.0 (subst (λ (v : ℕ). has v cs ≡ true) z h); size = below k.size m l p.1 }

closing_sane : (c m : ℕ) → (not (eqb bad_class c) && nat_lt m (2 ^ 64 + 1)) ≡ true → sane (One (c ∷ []) m) ≡ true
closing_sane c m e = ap (λ b. not b && nat_lt m (2 ^ 64 + 1)) (or-false (eqb bad_class c)) ∙ e

module _ (rules : ℕ → Ebnf) (all : (r : ℕ) → sane (rules r) ≡ true) where
  taken_sane : {g : Ebnf} {ts rest : List Terminal} → Matches rules g ts rest → sane g ≡ true → AreSane rest → AreSane ts
  taken_sane (one cs m k ts h l) e s = (one_sane cs m k e h l, s)
  taken_sane (seq {a = a} {b = b} p q) e s = let both = and_both (sane a) (sane b) e in taken_sane p both.0 (taken_sane q both.1 s)
  taken_sane (left {a = a} b p) e s = taken_sane p (and_both (sane a) (sane b) e).0 s
  taken_sane (right a {b = b} p) e s = taken_sane p (and_both (sane a) (sane b) e).1 s
  taken_sane (none a ts) e s = s
  taken_sane (some p) e s = taken_sane p e s
  taken_sane (stop a ts) e s = s
  taken_sane (more p q) e s = taken_sane p e (taken_sane q e s)
  taken_sane (within o r c m k is l p q) e s =
      let two = and_both (not (eqb bad_class o)) (not (eqb bad_class c) && nat_lt m (2 ^ 64 + 1)) e in
      let shut = and_both (not (eqb bad_class c)) (nat_lt m (2 ^ 64 + 1)) two.1 in
      (record { class = λ z. not_not (eqb bad_class o) two.0 (eq-eqb bad_class o (sym z ∙ is)); size = below k.size m l shut.1 }, taken_sane p (all r) (taken_sane q (closing_sane c m two.1) s))

of_choice : (P : Ebnf → Type 0) (b : Bool) (x y : Ebnf) → P x → P y → P (if b then x else y)
of_choice P true x y p q = p
of_choice P false x y p q = q

rules_sane : (r : ℕ) → sane (rule r) ≡ true
unfolding rule a_word a_mark a_name a_range a_number a_text a_uuid pk signed bounds sizeable base array_size dtor dtors body struct_rest switch_part union_body union_rest enum_body enum_rest typed plain spec spec_but_void star_name size_ref attr attrs member members label arm arms param param_but_void more_params params op_rest lone_or_op const_decl typedef_decl decl version file_attr
rules_sane r =
    let P : Ebnf → Type 0 = λ g. sane g ≡ true in
    let Q : ℕ → Bool = λ n. eqb r n in
    of_choice P (Q 1) _ _ refl (of_choice P (Q 2) _ _ refl (of_choice P (Q 3) _ _ refl (of_choice P (Q 4) _ _ refl (of_choice P (Q 5) _ _ refl (of_choice P (Q 6) _ _ refl (of_choice P (Q 7) _ _ refl (of_choice P (Q 8) _ _ refl (of_choice P (Q 9) _ _ refl (of_choice P (Q 10) _ _ refl (of_choice P (Q 11) _ _ refl (of_choice P (Q 12) _ _ refl (of_choice P (Q 13) _ _ refl (of_choice P (Q 14) _ _ refl (of_choice P (Q 15) _ _ refl (of_choice P (Q 16) _ _ refl refl)))))))))))))))

file_sane : (ks : List Terminal) → Matches rule file ks [] → AreSane ks
unfolding file a_word a_name the_end
file_sane ks h = taken_sane rule rules_sane h refl tt

-- ---- the tokens of a text of the grammar

terminals_clean : (f : ℕ → ℕ) (ts : List Token) → AreSane (terminals ts) → Clean (seen f ts)
terminals_clean f [] s = tt
terminals_clean f (t ∷ ts) s = (λ z. s.0.class (sym (without_level_class t.kind) ∙ z), terminals_clean f ts s.1)

pub taken_clean : (f : ℕ → ℕ) (ts : List Token) → Matches rule file (terminals ts) [] → Clean (seen f ts)
taken_clean f ts h = terminals_clean f ts (file_sane (terminals ts) h)
