-- Texts that are no addresses ask for nothing.
use Rattle.std.proofs.Common.{◌≡◌, ◌==◌, false, ℕ, List, [], ◌∷◌, refl, ap, Option}
use Rattle.std.proofs.lemmas.Bool.{eqb-false}
use Rattle.app_words.specs.Texts.{FitsHost, Host, host_text}
use Rattle.app_words.specs.declared.command.Asked.{Asked}
use Rattle.app_words.specs.declared.command.Asked.TheVariants.{Replay, Idl, Audit, Load, Serve, Call}
use Rattle.app_words.specs.Asks.{IsInRange, Line, Text, call_line, line_of, serve_line}

-- the first octet of a word
abbrev first_octet : Text → ℕ
first_octet [] = 0
first_octet (c ∷ cs) = c

abbrev first_operand : List Text → Text
first_operand [] = []
first_operand (word ∷ words) = word

other_word : (l m : Line) → (first_octet l.word == first_octet m.word) ≡ false → l ≡ m → ⊥
other_word l m d e = eqb-false (first_octet l.word) (first_octet m.word) d (ap (λ (x : Line). first_octet x.word) e)

-- it is the text of no address
abbrev pub IsNone : Text → Type 0
IsNone text = (x : Host) → FitsHost x → host_text x ≡ text → ⊥

pub no_serve : (address connections : Text) (idl : Option Text) → IsNone address → (asked : Asked) → IsInRange asked → line_of asked ≡ serve_line address connections idl → ⊥
no_serve address connections idl none (Replay file i) r e = other_word (line_of (Replay file i)) (serve_line address connections idl) refl e
no_serve address connections idl none (Idl file) r e = other_word (line_of (Idl file)) (serve_line address connections idl) refl e
no_serve address connections idl none (Audit file) r e = other_word (line_of (Audit file)) (serve_line address connections idl) refl e
no_serve address connections idl none (Load n s) r e = other_word (line_of (Load n s)) (serve_line address connections idl) refl e
no_serve address connections idl none (Call ip port i s) r e = other_word (line_of (Call ip port i s)) (serve_line address connections idl) refl e
no_serve address connections idl none (Serve ip port n i) r e = none (ip, port) r.0 (ap (λ (l : Line). first_operand l.operands) e)

pub no_call : (address idl script : Text) → IsNone address → (asked : Asked) → IsInRange asked → line_of asked ≡ call_line address idl script → ⊥
no_call address idl script none (Replay file i) r e = other_word (line_of (Replay file i)) (call_line address idl script) refl e
no_call address idl script none (Idl file) r e = other_word (line_of (Idl file)) (call_line address idl script) refl e
no_call address idl script none (Audit file) r e = other_word (line_of (Audit file)) (call_line address idl script) refl e
no_call address idl script none (Load n s) r e = other_word (line_of (Load n s)) (call_line address idl script) refl e
no_call address idl script none (Serve ip port n i) r e = other_word (line_of (Serve ip port n i)) (call_line address idl script) refl e
no_call address idl script none (Call ip port i s) r e = none (ip, port) r (ap (λ (l : Line). first_operand l.operands) e)
