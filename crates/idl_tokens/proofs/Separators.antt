-- Separators.
use Rattle.std.proofs.Common.{◌≡◌, ℕ, List, ◌∷◌, Option, Some, None, true, MatchOption, Bor, sym, ap, ◌∙◌, arith}
use Rattle.std.specs.Option.{option_copied}
use Rattle.std.proofs.lemmas.Bool.{false≢true}
use Rattle.idl_tokens.specs.Tokens.{Separates, after_comment, is_blank, behind, is_in_line}
use Rattle.idl_tokens.specs.Tokens.Separates.{blank, block, line}

-- a text that begins with a blank
pub blank_of : (text rest : List ℕ) (c : ℕ) → text ≡ c ∷ rest → true ≡ is_blank c → Separates text rest
blank_of text rest c cut test = blank c (sym test) cut

-- a text that begins as a comment up to the first `*/`
no_block : (text inside rest : List ℕ) → text ≡ 47 ∷ 42 ∷ inside → None ≡ after_comment inside → Separates text rest → ⊥
no_block text inside rest begins never (blank c test cut) =
    let same : c ≡ 47 = cc in
    false≢true (ap is_blank (sym same) ∙ test)
no_block text inside rest begins never (block inside' cut ends) =
    let same : inside ≡ inside' = cc in
    let e : None ≡ Some rest = never ∙ ap after_comment same ∙ ends in cc
no_block text inside rest begins never (line inside' cut ends) = let e : ◌≡◌ {A = ℕ} 42 47 = cc in absurd (omega arith)

pub block_of : (text inside : List ℕ) (r : Option (Bor (List ℕ))) → text ≡ 47 ∷ 42 ∷ inside → option_copied r ≡ after_comment inside
    → MatchOption r ((rest : List ℕ) → Separates text rest → ⊥) (λ rest. Separates text rest.now)
block_of text inside None begins e = λ rest s. no_block text inside rest begins e s
block_of text inside (Some x) begins e = block inside begins (sym e)

-- and one up to the end of its line
pub line_of : (text inside rest : List ℕ) → text ≡ 47 ∷ 47 ∷ inside → rest ≡ behind is_in_line inside → Separates text rest
line_of text inside rest begins e = line inside begins (sym e)

pub two : {a b m n : ℕ} {text after inside : List ℕ} → text ≡ a ∷ after → after ≡ b ∷ inside → a ≡ m → b ≡ n → text ≡ m ∷ n ∷ inside
two e f g h = cc
