-- Parts of a text off its tokens, and what is left of them: how each is read by the tokens that come next.
use Rattle.std.specs.Prelude.{ℕ, zero, suc, Bool, true, false, eqb, List, [], ◌∷◌, Option, Some, None, if◌then◌else◌}
use Rattle.idl_tokens.specs.Ebnf.{has}
use Rattle.idl_forms.proofs.Stream.{Seen, head, tail, place}
use Rattle.idl_tokens.specs.Terminals.{of_mark, opening}
use Rattle.idl_tokens.specs.declared.marks.Mark.TheVariants as marks
use Rattle.idl_tokens.specs.declared.marks.Bracket.TheVariants as brackets

unfoldable pub mapped : {A B : Type 0} → (A → B) → (List Seen → A × List Seen) → List Seen → B × List Seen
mapped g d ss = (g (d ss).0, (d ss).1)

unfoldable pub both : {A B : Type 0} → (List Seen → A × List Seen) → (List Seen → B × List Seen) → List Seen → (A × B) × List Seen
both d e ss = (((d ss).0, (e (d ss).1).0), (e (d ss).1).1)

unfoldable pub behind : {A : Type 0} → (List Seen → A × List Seen) → List Seen → A × List Seen
behind d ss = d (tail ss)

unfoldable pub upto : {A : Type 0} → (List Seen → A × List Seen) → List Seen → A × List Seen
upto d ss = ((d ss).0, tail (d ss).1)

unfoldable pub chosen : {A : Type 0} → (ℕ → List Seen → A × List Seen) → List Seen → A × List Seen
chosen by ss = by (head ss) ss

unfoldable pub flag : ℕ → List Seen → Bool × List Seen
flag c ss = if eqb (head ss) c then (true, tail ss) else (false, ss)

unfoldable pub maybe : {A : Type 0} → List ℕ → (List Seen → A × List Seen) → List Seen → Option A × List Seen
maybe cs d ss = if has (head ss) cs then (Some (d ss).0, (d ss).1) else (None, ss)

unfoldable pub loop : {A : Type 0} → ℕ → List ℕ → (List Seen → A × List Seen) → List Seen → List A × List Seen
loop zero cs d ss = ([], ss)
loop (suc k) cs d ss = if has (head ss) cs then ((d ss).0 ∷ (loop k cs d (d ss).1).0, (loop k cs d (d ss).1).1) else ([], ss)

-- a list by commas of one or more
unfoldable pub listed : {A : Type 0} → ℕ → (List Seen → A × List Seen) → List Seen → List A × List Seen
listed n d = mapped (λ p. p.0 ∷ p.1) (both d (loop n (of_mark marks.Comma ∷ []) (behind d)))

-- one of none or more, whose items begin with these classes
unfoldable pub maybe_listed : {A : Type 0} → List ℕ → ℕ → (List Seen → A × List Seen) → List Seen → List A × List Seen
maybe_listed cs n d ss = if has (head ss) cs then listed n d ss else ([], ss)

-- one in square brackets, if they are there
unfoldable pub squares : {A : Type 0} → ℕ → (List Seen → A × List Seen) → List Seen → List A × List Seen
squares n d ss = if has (head ss) (opening brackets.Square ∷ []) then behind (upto (listed n d)) ss else ([], ss)

-- a part and its place
unfoldable pub at_place : {A : Type 0} → (List Seen → A × List Seen) → List Seen → (ℕ × A) × List Seen
at_place d ss = ((place ss, (d ss).0), (d ss).1)

-- a choice by the first token
unfoldable pub split : {A : Type 0} → List ℕ → (List Seen → A × List Seen) → (List Seen → A × List Seen) → List Seen → A × List Seen
split cs d e ss = if has (head ss) cs then d ss else e ss

-- one token
unfoldable pub single : {A : Type 0} → (Seen → A) → A → List Seen → A × List Seen
single g z [] = (z, [])
single g z (s ∷ ss) = (g s, ss)
