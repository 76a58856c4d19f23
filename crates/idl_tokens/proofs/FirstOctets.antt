-- What a token's first octet says of its kind.
use Rattle.std.proofs.Common.{◌≡◌, ◌≢◌, ℕ, Bool, List, ◌∷◌, true, false, Option, MatchBool, ◌&&◌, drop, refl, sym, ap, ◌∙◌, arith, nat_eq}
use Rattle.std.proofs.lemmas.Bool.{false≢true}
use Rattle.std.proofs.lemmas.Bool.Decides.{nat_tests}
use Rattle.std.specs.Prelude.{codes}
use Rattle.std.specs.List.{starts_with}
use Rattle.std.specs.Char.{is_ascii_digit, is_digit}
use Rattle.idl_tokens.specs.declared.kinds.Kind.{Kind}
use Rattle.idl_tokens.specs.declared.kinds.Kind.TheVariants as kinds
use Rattle.idl_tokens.specs.Firsts.{IsMarkOrBracket}
use Rattle.idl_tokens.specs.Tokens.{Spells, IsNumberAt, IsNumeralAt, is_letter}

-- a digit in radix 10 is one
same_digits : (c : ℕ) → is_digit c 10 ≡ true → is_ascii_digit c ≡ true
same_digits c h = grind (arith, nat_tests)

zero_first : (c : ℕ) (r : Bool) → (nat_eq 48 c && r) ≡ true → c ≡ 48
zero_first c r h = grind (arith, nat_tests)

by_prefix : (c : ℕ) (cs : List ℕ) (value : Option ℕ) (rest : List ℕ) (b : Bool) → is_ascii_digit c ≡ false → starts_with nat_eq (c ∷ cs) (codes "0x") ≡ b
    → MatchBool b (IsNumeralAt 16 (drop 2 (c ∷ cs)) value rest) (IsNumeralAt 10 (c ∷ cs) value rest) → ⊥
by_prefix c cs value rest true digit e h = false≢true (sym digit ∙ ap is_ascii_digit (zero_first c _ e))
by_prefix c cs value rest false digit e h = false≢true (sym digit ∙ same_digits c h.some)

pub no_number : (c : ℕ) (cs : List ℕ) (value : Option ℕ) (rest : List ℕ) → is_ascii_digit c ≡ false → IsNumberAt (c ∷ cs) value rest → ⊥
no_number c cs value rest digit h = by_prefix c cs value rest (starts_with nat_eq (c ∷ cs) (codes "0x")) digit refl h

pub begins_none : (depth c : ℕ) (cs : List ℕ) → is_letter c ≡ false → is_ascii_digit c ≡ false → c ≢ 34 → ((kind : Kind) → IsMarkOrBracket depth c kind → ⊥)
    → (kind : Kind) (rest : List ℕ) → Spells depth (c ∷ cs) kind rest → ⊥
begins_none depth c cs letter digit quote none (kinds.Word word) rest h = false≢true (sym letter ∙ h.first)
begins_none depth c cs letter digit quote none (kinds.Name name) rest h = false≢true (sym letter ∙ h.0.first)
begins_none depth c cs letter digit quote none (kinds.Number value) rest h = no_number c cs value rest digit h
begins_none depth c cs letter digit quote none (kinds.Text inside) rest h = let e = h.opened in quote cc
begins_none depth c cs letter digit quote none (kinds.Uuid id) rest h = h
begins_none depth c cs letter digit quote none (kinds.Mark mark) rest h = none (kinds.Mark mark) cc
begins_none depth c cs letter digit quote none (kinds.Open bracket level) rest h = let e = h.0 in none (kinds.Open bracket level) (cc, h.1)
begins_none depth c cs letter digit quote none (kinds.Shut bracket) rest h = none (kinds.Shut bracket) cc
begins_none depth c cs letter digit quote none kinds.End rest h = h
begins_none depth c cs letter digit quote none kinds.Bad rest h = h
