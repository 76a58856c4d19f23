-- Single tokens.
use Rattle.std.proofs.Common.{◌≡◌, ℕ, ◌<◌, ◌≤◌, ◌≢◌, Bool, true, false, cond, ◌++◌, eqb, nat_lt, ◌||◌, List, [], ◌∷◌, refl, ap, sym, ◌∙◌, subst, Some, length, arith, map, inl, inr}
use Rattle.std.specs.Prelude.{◌⊎◌, Ok, Err, if◌then◌else◌}
use Rattle.std.proofs.lemmas.Bool.{eqb-true, eq-eqb, lt-ltb, le-ltb, false_from_ne_true}
use Rattle.std.proofs.Math.Bool.{or-false}
use Rattle.idl_tokens.specs.Ebnf.{has}
use Rattle.idl_tokens.specs.Machine.{token, sized}
use Rattle.idl_tokens.specs.declared.words.Word.{Word}
use Rattle.idl_tokens.specs.declared.marks.Mark.{Mark}
use Rattle.idl_tokens.specs.declared.marks.Bracket.{Bracket}
use Rattle.idl_tokens.specs.declared.kinds.Kind.{Kind}
use Rattle.idl_tokens.specs.declared.kinds.Kind.TheVariants as kinds
use Rattle.idl_tokens.specs.declared.kinds.Token.{Token}
use Rattle.idl_tokens.specs.Terminals.{terminal, terminals, of_word, of_mark, opening, closing, end_class, range_class}
use Rattle.idl_tree.specs.declared.leaf.Ident.{Ident}
use Rattle.idl_tree.specs.declared.leaf.Num.{Num}
use Rattle.idl_tree.specs.Pieces.{Pieces, Front, Written, word_pieces, mark_pieces, open_pieces, shut_pieces, end_pieces, text_pieces, uuid_pieces, ident_pieces, range_pieces, number_pieces, num_pieces, alone, placed, BeginsAt}
use Rattle.idl_tree.proofs.Classes.{word_told, mark_told, shut_told, open_told, end_told, name_told, range_told, number_told, text_told, uuid_told}
use Rattle.idl_tree.proofs.Writing.{write_join, write_placed}
use Rattle.idl_tokens.specs.declared.marks.Mark.TheVariants as marks
use Rattle.idl_parts.specs.Reads.{IsTaken}

yes : (c : ℕ) (t : Token) → (terminal t.kind).class ≡ c → has (terminal t.kind).class (c ∷ []) ≡ true
yes c t e = or-false _ ∙ eq-eqb _ c e

pub take_other : (c m : ℕ) (t : Token) (ts : List Token) → (terminal t.kind).class ≢ c → token (c ∷ []) m (terminals (t ∷ ts)) ≡ Err (record { odd = false; rest = terminals (t ∷ ts) })
take_other c m t ts n =
    let no : has (terminal t.kind).class (c ∷ []) ≡ false = or-false _ ∙ false_from_ne_true _ (λ e. n (eqb-true _ c e)) in
    ap (λ b. if b then sized (nat_lt (terminal t.kind).size m) (Ok (terminals ts)) (terminals (t ∷ ts)) else Err (record { odd = false; rest = terminals (t ∷ ts) })) no

pub take_over : (c m : ℕ) (t : Token) (ts : List Token) → (terminal t.kind).class ≡ c → m ≤ (terminal t.kind).size → token (c ∷ []) m (terminals (t ∷ ts)) ≡ Err (record { odd = true; rest = terminals (t ∷ ts) })
take_over c m t ts e l =
    ap (λ b. if b then sized (nat_lt (terminal t.kind).size m) (Ok (terminals ts)) (terminals (t ∷ ts)) else Err (record { odd = false; rest = terminals (t ∷ ts) })) (yes c t e)
    ∙ ap (λ b. sized b (Ok (terminals ts)) (terminals (t ∷ ts))) (le-ltb _ m l)

pub take_ok : (c m : ℕ) (t : Token) (ts : List Token) → (terminal t.kind).class ≡ c → (terminal t.kind).size < m → token (c ∷ []) m (terminals (t ∷ ts)) ≡ Ok (terminals ts)
take_ok c m t ts e l =
    ap (λ b. if b then sized (nat_lt (terminal t.kind).size m) (Ok (terminals ts)) (terminals (t ∷ ts)) else Err (record { odd = false; rest = terminals (t ∷ ts) })) (yes c t e)
    ∙ ap (λ b. sized b (Ok (terminals ts)) (terminals (t ∷ ts))) (lt-ltb _ m l)

pub ruleset taking = (take_other, take_over, take_ok)

-- ---- what was taken is written

written_one : (ps : Pieces) (t : Token) (ts rest : List Token) → ts ≡ t ∷ rest → Front (t ∷ rest) ps rest → Written ps ts rest
written_one ps t ts rest e f = record { front = subst (λ (x : List Token). Front x ps rest) (sym e) f }

pub shorter : (t : Token) (ts rest : List Token) → ts ≡ t ∷ rest → length rest < length ts
shorter t ts rest e = let a : length ts ≡ length (t ∷ rest) = ap length e in omega arith

pub word_written : (w : Word) (c m : ℕ) (t : Token) (ts rest : List Token) → c ≡ of_word w → IsTaken c m t ts rest → Written (word_pieces w) ts rest
unfolding word_pieces
word_written w c m t ts rest e h = written_one _ t ts rest h.first (word_told t.kind w (h.class_is ∙ e), tt, refl)

pub mark_written : (k : Mark) (c m : ℕ) (t : Token) (ts rest : List Token) → c ≡ of_mark k → IsTaken c m t ts rest → Written (mark_pieces k) ts rest
unfolding mark_pieces
mark_written k c m t ts rest e h = written_one _ t ts rest h.first (mark_told t.kind k (h.class_is ∙ e), tt, refl)

pub open_written : (b : Bracket) (c m : ℕ) (t : Token) (ts rest : List Token) → c ≡ opening b → IsTaken c m t ts rest → Written (open_pieces b) ts rest
unfolding open_pieces
open_written b c m t ts rest e h = written_one _ t ts rest h.first (open_told t.kind b (h.class_is ∙ e), tt, refl)

pub shut_written : (b : Bracket) (c m : ℕ) (t : Token) (ts rest : List Token) → c ≡ closing b → IsTaken c m t ts rest → Written (shut_pieces b) ts rest
unfolding shut_pieces
shut_written b c m t ts rest e h = written_one _ t ts rest h.first (shut_told t.kind b (h.class_is ∙ e), tt, refl)

pub end_written : (m : ℕ) (t : Token) (ts rest : List Token) → IsTaken end_class m t ts rest → Written end_pieces ts rest
unfolding end_pieces
end_written m t ts rest h = written_one _ t ts rest h.first (end_told t.kind h.class_is, tt, refl)

pub range_written : (m : ℕ) (t : Token) (ts rest : List Token) → IsTaken range_class m t ts rest → Written range_pieces ts rest
unfolding range_pieces
range_written m t ts rest h = written_one _ t ts rest h.first (range_told t.kind h.class_is, tt, refl)

pub name_written : (i : Ident) (t : Token) (ts rest : List Token) → ts ≡ t ∷ rest → t.kind ≡ kinds.Name i.text → i.at ≡ t.at → Written (ident_pieces i) ts rest
unfolding ident_pieces
name_written i t ts rest e k p = written_one _ t ts rest e (k, (p, tt), refl)

-- a number that has no minus
num_plain : (n : Num) → n.minus ≡ false → num_pieces n ≡ number_pieces n.at n.value
unfolding num_pieces
num_plain n e = ap (λ b. cond b (placed n.at (mark_pieces marks.Minus) ++ alone (kinds.Number (Some n.value)) ∷ []) (number_pieces n.at n.value)) e

front_of : (at v : ℕ) (ts rest : List Token) (t : Token) → ts ≡ t ∷ rest → t.kind ≡ kinds.Number (Some v) → at ≡ t.at → Written (number_pieces at v) ts rest
unfolding number_pieces
front_of at v ts rest t e k p = written_one _ t ts rest e (k, (p, tt), refl)

pub number_written : (n : Num) (t : Token) (ts rest : List Token) → n.minus ≡ false → ts ≡ t ∷ rest → t.kind ≡ kinds.Number (Some n.value) → n.at ≡ t.at → Written (num_pieces n) ts rest
number_written n t ts rest m e k p = subst (λ (x : Pieces). Written x ts rest) (sym (num_plain n m)) (front_of n.at n.value ts rest t e k p)

without_place : (at v : ℕ) (ts rest : List Token) → Front ts (number_pieces at v) rest → Front ts (alone (kinds.Number (Some v)) ∷ []) rest
unfolding number_pieces
without_place at v [] rest f = absurd f
without_place at v (t ∷ ts) rest f = (f.0, tt, f.2)

-- a number behind its minus
pub signed_written : (n m : Num) (ts mid rest : List Token) → n.minus ≡ true → n.value ≡ m.value → m.minus ≡ false → BeginsAt n.at ts → Written (mark_pieces marks.Minus) ts mid → Written (num_pieces m) mid rest → Written (num_pieces n) ts rest
unfolding num_pieces
signed_written n m ts mid rest a v b p q r =
    let digits : Written (alone (kinds.Number (Some n.value)) ∷ []) mid rest = record { front = subst (λ (x : ℕ). Front mid (alone (kinds.Number (Some x)) ∷ []) rest) (sym v) (without_place m.at m.value mid rest (subst (λ (x : Pieces). Written x mid rest) (num_plain m b) r).front) } in
    subst (λ (x : Bool). Written (cond x (placed n.at (mark_pieces marks.Minus) ++ alone (kinds.Number (Some n.value)) ∷ []) (number_pieces n.at n.value)) ts rest) (sym a) (write_join (write_placed p q) digits)

pub text_written : (text : List ℕ) (t : Token) (ts rest : List Token) → ts ≡ t ∷ rest → t.kind ≡ kinds.Text text → Written (text_pieces text) ts rest
unfolding text_pieces
text_written text t ts rest e k = written_one _ t ts rest e (k, tt, refl)

pub uuid_written : (id : Rattle.uuid.specs.declared.Uuid.Uuid) (t : Token) (ts rest : List Token) → ts ≡ t ∷ rest → t.kind ≡ kinds.Uuid id → Written (uuid_pieces id) ts rest
unfolding uuid_pieces
uuid_written id t ts rest e k = written_one _ t ts rest e (k, tt, refl)

pub ruleset names = (name_told, name_written)

pub ruleset numbers = (number_told, number_written)

pub ruleset texts = (text_told, text_written)

pub ruleset uuids = (uuid_told, uuid_written)

-- ---- one of some words

or_cases : (a b : Bool) → (a || b) ≡ true → (a ≡ true) ⊎ (b ≡ true)
or_cases true b e = inl refl
or_cases false b e = inr e

-- a class among those of words is some word's
word_of : (c : ℕ) (ws : List Word) → has c (map of_word ws) ≡ true → (w : Word) × (c ≡ of_word w)
word_of c [] e = cc
word_of c (w ∷ ws) e = elim (or_cases (eqb c (of_word w)) (has c (map of_word ws)) e) [ inl p ↦ (w, eqb-true c (of_word w) p) | inr p ↦ word_of c ws p ]

pub among_told : (k : Kind) (ws : List Word) → has (terminal k).class (map of_word ws) ≡ true → (w : Word) × (k ≡ kinds.Word w)
among_told k ws e = let p = word_of (terminal k).class ws e in (p.0, word_told k p.0 p.1)

pub among_written : (w : Word) (t : Token) (ts rest : List Token) → ts ≡ t ∷ rest → t.kind ≡ kinds.Word w → Written (word_pieces w) ts rest
unfolding word_pieces
among_written w t ts rest e k = written_one _ t ts rest e (k, tt, refl)

pub ruleset among = (among_told, among_written)
