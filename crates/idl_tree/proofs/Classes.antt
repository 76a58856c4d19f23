-- A class tells its token.
use Rattle.std.proofs.Common.{arith, List, [], ◌∷◌, ◌<◌, ◌^◌, ◌≡◌, ℕ, eqb, cond, refl, ap, sym, ◌∙◌, None, Some, inl, inr}
use Rattle.std.specs.Prelude.{◌⊎◌, Bool, true, false, bytes_eq, if◌then◌else◌}
use Rattle.std.proofs.lemmas.Bool.{eqb-true}
use Rattle.std.proofs.lemmas.Slice.Eq.{bytes_eq-Decides}
use Rattle.std.proofs.Math.Bool.{or-false}
use Rattle.idl_tokens.specs.Ebnf.{has}
use Rattle.idl_tokens.proofs.Sets.{has_either}
use Rattle.idl_tree.specs.Combinators.{name_classes}
use Rattle.idl_tokens.specs.declared.words.Word.{Word}
use Rattle.idl_tokens.specs.declared.words.Word.TheVariants as words
use Rattle.idl_tokens.specs.declared.marks.Mark.{Mark}
use Rattle.idl_tokens.specs.declared.marks.Mark.TheVariants as marks
use Rattle.idl_tokens.specs.declared.marks.Bracket.{Bracket}
use Rattle.idl_tokens.specs.declared.marks.Bracket.TheVariants as brackets
use Rattle.idl_tokens.specs.declared.kinds.Kind.{Kind}
use Rattle.idl_tokens.specs.declared.kinds.Kind.TheVariants as kinds
use Rattle.idl_tokens.specs.Terminals.{of_word, of_mark, opening, closing, terminal, bad_class, name_class, number_class, text_class, uuid_class, end_class, range_class, range_text, of_name}
use Rattle.uuid.specs.declared.Uuid.{Uuid}

-- the word, mark, closing bracket or end of a class; for any other class Bad
told : ℕ → Kind
told c = cond (eqb c (of_word words.Interface)) (kinds.Word words.Interface) (cond (eqb c (of_word words.Uuid)) (kinds.Word words.Uuid) (cond (eqb c (of_word words.Version)) (kinds.Word words.Version) (cond (eqb c (of_word words.PointerDefault)) (kinds.Word words.PointerDefault) (cond (eqb c (of_word words.Endpoint)) (kinds.Word words.Endpoint) (cond (eqb c (of_word words.Ref)) (kinds.Word words.Ref) (cond (eqb c (of_word words.Unique)) (kinds.Word words.Unique) (cond (eqb c (of_word words.Ptr)) (kinds.Word words.Ptr) (cond (eqb c (of_word words.Const)) (kinds.Word words.Const) (cond (eqb c (of_word words.Typedef)) (kinds.Word words.Typedef) (cond (eqb c (of_word words.Void)) (kinds.Word words.Void) (cond (eqb c (of_word words.In)) (kinds.Word words.In) (cond (eqb c (of_word words.Out)) (kinds.Word words.Out) (cond (eqb c (of_word words.String)) (kinds.Word words.String) (cond (eqb c (of_word words.Idempotent)) (kinds.Word words.Idempotent) (cond (eqb c (of_word words.Maybe)) (kinds.Word words.Maybe) (cond (eqb c (of_word words.ContextHandle)) (kinds.Word words.ContextHandle) (cond (eqb c (of_word words.ContextHandleSerialize)) (kinds.Word words.ContextHandleSerialize) (cond (eqb c (of_word words.ContextHandleNoserialize)) (kinds.Word words.ContextHandleNoserialize) (cond (eqb c (of_word words.SizeIs)) (kinds.Word words.SizeIs) (cond (eqb c (of_word words.MaxIs)) (kinds.Word words.MaxIs) (cond (eqb c (of_word words.LengthIs)) (kinds.Word words.LengthIs) (cond (eqb c (of_word words.SwitchIs)) (kinds.Word words.SwitchIs) (cond (eqb c (of_word words.SwitchType)) (kinds.Word words.SwitchType) (cond (eqb c (of_word words.HandleT)) (kinds.Word words.HandleT) (cond (eqb c (of_word words.ErrorStatusT)) (kinds.Word words.ErrorStatusT) (cond (eqb c (of_word words.Boolean)) (kinds.Word words.Boolean) (cond (eqb c (of_word words.Byte)) (kinds.Word words.Byte) (cond (eqb c (of_word words.Unsigned)) (kinds.Word words.Unsigned) (cond (eqb c (of_word words.Char)) (kinds.Word words.Char) (cond (eqb c (of_word words.Small)) (kinds.Word words.Small) (cond (eqb c (of_word words.Short)) (kinds.Word words.Short) (cond (eqb c (of_word words.Long)) (kinds.Word words.Long) (cond (eqb c (of_word words.Hyper)) (kinds.Word words.Hyper) (cond (eqb c (of_word words.Int)) (kinds.Word words.Int) (cond (eqb c (of_word words.Struct)) (kinds.Word words.Struct) (cond (eqb c (of_word words.Union)) (kinds.Word words.Union) (cond (eqb c (of_word words.Switch)) (kinds.Word words.Switch) (cond (eqb c (of_word words.Enum)) (kinds.Word words.Enum) (cond (eqb c (of_word words.Case)) (kinds.Word words.Case) (cond (eqb c (of_word words.Default)) (kinds.Word words.Default) (cond (eqb c (of_mark marks.Comma)) (kinds.Mark marks.Comma) (cond (eqb c (of_mark marks.Semicolon)) (kinds.Mark marks.Semicolon) (cond (eqb c (of_mark marks.Colon)) (kinds.Mark marks.Colon) (cond (eqb c (of_mark marks.Star)) (kinds.Mark marks.Star) (cond (eqb c (of_mark marks.Equals)) (kinds.Mark marks.Equals) (cond (eqb c (of_mark marks.Minus)) (kinds.Mark marks.Minus) (cond (eqb c (of_mark marks.Dot)) (kinds.Mark marks.Dot) (cond (eqb c (closing brackets.Square)) (kinds.Shut brackets.Square) (cond (eqb c (closing brackets.Round)) (kinds.Shut brackets.Round) (cond (eqb c (closing brackets.Curly)) (kinds.Shut brackets.Curly) (cond (eqb c end_class) kinds.End kinds.Bad)))))))))))))))))))))))))))))))))))))))))))))))))))

word_back : (w : Word) → told (of_word w) ≡ kinds.Word w
unfolding told
word_back words.Interface = refl
word_back words.Uuid = refl
word_back words.Version = refl
word_back words.PointerDefault = refl
word_back words.Endpoint = refl
word_back words.Ref = refl
word_back words.Unique = refl
word_back words.Ptr = refl
word_back words.Const = refl
word_back words.Typedef = refl
word_back words.Void = refl
word_back words.In = refl
word_back words.Out = refl
word_back words.String = refl
word_back words.Idempotent = refl
word_back words.Maybe = refl
word_back words.ContextHandle = refl
word_back words.ContextHandleSerialize = refl
word_back words.ContextHandleNoserialize = refl
word_back words.SizeIs = refl
word_back words.MaxIs = refl
word_back words.LengthIs = refl
word_back words.SwitchIs = refl
word_back words.SwitchType = refl
word_back words.HandleT = refl
word_back words.ErrorStatusT = refl
word_back words.Boolean = refl
word_back words.Byte = refl
word_back words.Unsigned = refl
word_back words.Char = refl
word_back words.Small = refl
word_back words.Short = refl
word_back words.Long = refl
word_back words.Hyper = refl
word_back words.Int = refl
word_back words.Struct = refl
word_back words.Union = refl
word_back words.Switch = refl
word_back words.Enum = refl
word_back words.Case = refl
word_back words.Default = refl

mark_back : (m : Mark) → told (of_mark m) ≡ kinds.Mark m
unfolding told
mark_back marks.Comma = refl
mark_back marks.Semicolon = refl
mark_back marks.Colon = refl
mark_back marks.Star = refl
mark_back marks.Equals = refl
mark_back marks.Minus = refl
mark_back marks.Dot = refl

shut_back : (b : Bracket) → told (closing b) ≡ kinds.Shut b
unfolding told
shut_back brackets.Square = refl
shut_back brackets.Round = refl
shut_back brackets.Curly = refl

open_none : (b : Bracket) → told (opening b) ≡ kinds.Bad
unfolding told
open_none brackets.Square = refl
open_none brackets.Round = refl
open_none brackets.Curly = refl

only : (c d : ℕ) → has c (d ∷ []) ≡ true → c ≡ d
only c d e = eqb-true c d (sym (or-false (eqb c d)) ∙ e)

-- a name's class is one of two
name_among : (b : Bool) → has (if b then range_class else name_class) name_classes ≡ true
name_among true = refl
name_among false = refl

pub is_name_class : (text : List ℕ) → has (of_name text) name_classes ≡ true
is_name_class text = name_among (bytes_eq text range_text)

name_none : (b : Bool) → told (if b then range_class else name_class) ≡ kinds.Bad
unfolding told
name_none true = refl
name_none false = refl

-- and no other class
no_name : (text : List ℕ) (c : ℕ) → of_name text ≡ c → has c name_classes ≡ false → ⊥
no_name text c e n = let yes : has c name_classes ≡ true = sym (ap (λ x. has x name_classes) e) ∙ is_name_class text in cc

off_open : (b : Bracket) → has (opening b) name_classes ≡ false
off_open brackets.Square = refl
off_open brackets.Round = refl
off_open brackets.Curly = refl

others : (told name_class ≡ kinds.Bad) × (told number_class ≡ kinds.Bad) × (told text_class ≡ kinds.Bad) × (told uuid_class ≡ kinds.Bad) × (told end_class ≡ kinds.End) × (told bad_class ≡ kinds.Bad)
unfolding told
others = (refl, refl, refl, refl, refl, refl)

-- its class tells a kind, or tells nothing
back : (k : Kind) → (told (terminal k).class ≡ k) ⊎ (told (terminal k).class ≡ kinds.Bad)
back (kinds.Word w) = inl (word_back w)
back (kinds.Mark m) = inl (mark_back m)
back (kinds.Shut b) = inl (shut_back b)
back kinds.End = inl others.4
back (kinds.Name text) = inr (name_none (bytes_eq text range_text))
back (kinds.Number (Some n)) = inr others.1
back (kinds.Number None) = inr others.1
back (kinds.Text text) = inr others.2
back (kinds.Uuid id) = inr others.3
back (kinds.Open b l) = inr (open_none b)
back kinds.Bad = inr others.5

pub word_told : (k : Kind) (w : Word) → (terminal k).class ≡ of_word w → k ≡ kinds.Word w
word_told k w e = let f : told (terminal k).class ≡ kinds.Word w = ap told e ∙ word_back w in elim (back k) [ inl p ↦ sym p ∙ f | inr p ↦ cc ]

pub mark_told : (k : Kind) (m : Mark) → (terminal k).class ≡ of_mark m → k ≡ kinds.Mark m
mark_told k m e = let f : told (terminal k).class ≡ kinds.Mark m = ap told e ∙ mark_back m in elim (back k) [ inl p ↦ sym p ∙ f | inr p ↦ cc ]

pub shut_told : (k : Kind) (b : Bracket) → (terminal k).class ≡ closing b → k ≡ kinds.Shut b
shut_told k b e = let f : told (terminal k).class ≡ kinds.Shut b = ap told e ∙ shut_back b in elim (back k) [ inl p ↦ sym p ∙ f | inr p ↦ cc ]

pub end_told : (k : Kind) → (terminal k).class ≡ end_class → k ≡ kinds.End
end_told k e = let f : told (terminal k).class ≡ kinds.End = ap told e ∙ others.4 in elim (back k) [ inl p ↦ sym p ∙ f | inr p ↦ cc ]

pub word_same : (v w : Word) → of_word v ≡ of_word w → v ≡ w
word_same v w e = let f : kinds.Word v ≡ kinds.Word w = sym (word_back v) ∙ (ap told e ∙ word_back w) in cc

-- ---- the kinds that hold something

-- a class that tells nothing is none of these
no_word : (w : Word) (c : ℕ) → of_word w ≡ c → told c ≡ kinds.Bad → ⊥
no_word w c e f = let g : kinds.Word w ≡ kinds.Bad = sym (word_back w) ∙ (ap told e ∙ f) in cc

no_mark : (m : Mark) (c : ℕ) → of_mark m ≡ c → told c ≡ kinds.Bad → ⊥
no_mark m c e f = let g : kinds.Mark m ≡ kinds.Bad = sym (mark_back m) ∙ (ap told e ∙ f) in cc

no_shut : (b : Bracket) (c : ℕ) → closing b ≡ c → told c ≡ kinds.Bad → ⊥
no_shut b c e f = let g : kinds.Shut b ≡ kinds.Bad = sym (shut_back b) ∙ (ap told e ∙ f) in cc

below_70 : (b : Bracket) → opening b < 70
below_70 brackets.Square = omega arith
below_70 brackets.Round = omega arith
below_70 brackets.Curly = omega arith

-- the class of no token that holds nothing, and of no other that holds something
told_off : (c : ℕ) → has c name_classes ≡ true → told c ≡ kinds.Bad
unfolding told
told_off c e = elim (has_either c (name_class ∷ []) (range_class ∷ []) e) [
  | inl p ↦ ap told (only c name_class p)
  | inr p ↦ ap told (only c range_class p)
]

pub name_told : (k : Kind) → has (terminal k).class name_classes ≡ true → (text : List ℕ) × (k ≡ kinds.Name text)
name_told (kinds.Word w) e = absurd (no_word w _ refl (told_off _ e))
name_told (kinds.Mark m) e = absurd (no_mark m _ refl (told_off _ e))
name_told (kinds.Shut b) e = absurd (no_shut b _ refl (told_off _ e))
name_told (kinds.Name text) e = (text, refl)
name_told (kinds.Number (Some n)) e = cc
name_told (kinds.Number None) e = cc
name_told (kinds.Text text) e = cc
name_told (kinds.Uuid id) e = cc
name_told (kinds.Open b l) e = let n = off_open b in cc
name_told kinds.End e = cc
name_told kinds.Bad e = cc

text_is : (text : List ℕ) (b : Bool) → bytes_eq text range_text ≡ b → (if b then range_class else name_class) ≡ range_class → text ≡ range_text
text_is text true e h = (bytes_eq-Decides text range_text).0 e
text_is text false e h = absurd (omega arith)

pub range_told : (k : Kind) → (terminal k).class ≡ range_class → k ≡ kinds.Name range_text
range_told k e = let t = name_told k (ap (λ x. has x name_classes) e) in
    let same : k ≡ kinds.Name t.0 = t.1 in
    let named : of_name t.0 ≡ range_class = sym (ap (λ x. (terminal x).class) same) ∙ e in
    same ∙ ap kinds.Name (text_is t.0 (bytes_eq t.0 range_text) refl named)

pub number_told : (k : Kind) → (terminal k).class ≡ number_class → (terminal k).size < 2 ^ 64 → (n : ℕ) × (k ≡ kinds.Number (Some n))
number_told (kinds.Word w) e l = absurd (no_word w _ e others.1)
number_told (kinds.Mark m) e l = absurd (no_mark m _ e others.1)
number_told (kinds.Shut b) e l = absurd (no_shut b _ e others.1)
number_told (kinds.Name text) e l = absurd (no_name text _ e refl)
number_told (kinds.Number (Some n)) e l = (n, refl)
number_told (kinds.Number None) e l = absurd (omega arith)
number_told (kinds.Text text) e l = absurd (omega arith)
number_told (kinds.Uuid id) e l = absurd (omega arith)
number_told (kinds.Open b level) e l = let a = below_70 b in absurd (omega arith)
number_told kinds.End e l = absurd (omega arith)
number_told kinds.Bad e l = absurd (omega arith)

pub text_told : (k : Kind) → (terminal k).class ≡ text_class → (text : List ℕ) × (k ≡ kinds.Text text)
text_told (kinds.Word w) e = absurd (no_word w _ e others.2)
text_told (kinds.Mark m) e = absurd (no_mark m _ e others.2)
text_told (kinds.Shut b) e = absurd (no_shut b _ e others.2)
text_told (kinds.Name text) e = absurd (no_name text _ e refl)
text_told (kinds.Number (Some n)) e = absurd (omega arith)
text_told (kinds.Number None) e = absurd (omega arith)
text_told (kinds.Text text) e = (text, refl)
text_told (kinds.Uuid id) e = absurd (omega arith)
text_told (kinds.Open b l) e = let a = below_70 b in absurd (omega arith)
text_told kinds.End e = absurd (omega arith)
text_told kinds.Bad e = absurd (omega arith)

pub uuid_told : (k : Kind) → (terminal k).class ≡ uuid_class → (id : Uuid) × (k ≡ kinds.Uuid id)
uuid_told (kinds.Word w) e = absurd (no_word w _ e others.3)
uuid_told (kinds.Mark m) e = absurd (no_mark m _ e others.3)
uuid_told (kinds.Shut b) e = absurd (no_shut b _ e others.3)
uuid_told (kinds.Name text) e = absurd (no_name text _ e refl)
uuid_told (kinds.Number (Some n)) e = absurd (omega arith)
uuid_told (kinds.Number None) e = absurd (omega arith)
uuid_told (kinds.Text text) e = absurd (omega arith)
uuid_told (kinds.Uuid id) e = (id, refl)
uuid_told (kinds.Open b l) e = let a = below_70 b in absurd (omega arith)
uuid_told kinds.End e = absurd (omega arith)
uuid_told kinds.Bad e = absurd (omega arith)

bracket_of : ℕ → Bracket
bracket_of c = cond (eqb c (opening brackets.Square)) brackets.Square (cond (eqb c (opening brackets.Round)) brackets.Round brackets.Curly)

open_back : (b : Bracket) → bracket_of (opening b) ≡ b
unfolding bracket_of
open_back brackets.Square = refl
open_back brackets.Round = refl
open_back brackets.Curly = refl

above_0 : (b : Bracket) → 0 < opening b
above_0 brackets.Square = omega arith
above_0 brackets.Round = omega arith
above_0 brackets.Curly = omega arith

pub open_told : (k : Kind) (b : Bracket) → (terminal k).class ≡ opening b → (level : ℕ) × (k ≡ kinds.Open b level)
open_told (kinds.Word w) b e = absurd (no_word w _ e (open_none b))
open_told (kinds.Mark m) b e = absurd (no_mark m _ e (open_none b))
open_told (kinds.Shut d) b e = absurd (no_shut d _ e (open_none b))
open_told (kinds.Name text) b e = absurd (no_name text _ e (off_open b))
open_told (kinds.Number (Some n)) b e = let a = below_70 b in let o = above_0 b in absurd (omega arith)
open_told (kinds.Number None) b e = let a = below_70 b in let o = above_0 b in absurd (omega arith)
open_told (kinds.Text text) b e = let a = below_70 b in let o = above_0 b in absurd (omega arith)
open_told (kinds.Uuid id) b e = let a = below_70 b in let o = above_0 b in absurd (omega arith)
open_told (kinds.Open d l) b e = (l, ap (λ x. kinds.Open x l) (sym (open_back d) ∙ (ap bracket_of e ∙ open_back b)))
open_told kinds.End b e = let a = below_70 b in let o = above_0 b in absurd (omega arith)
open_told kinds.Bad b e = let a = below_70 b in let o = above_0 b in absurd (omega arith)
