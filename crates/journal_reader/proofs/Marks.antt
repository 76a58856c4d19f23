-- The octets of parts: digits, small letters up to f, and names.
use Rattle.std.proofs.Common.{◌≡◌, ◌≢◌, ℕ, ◌+◌, ◌%◌, ◌<◌, ◌^◌, true, false, not, ◌==◌, List, [], ◌∷◌, ◌++◌, length, refl, sym, ◌∙◌, ap, arith, All, append_assoc, get_or, codes, decimal}
use Rattle.std.specs.List.{list_all, join_with_byte}
use Rattle.std.proofs.lemmas.Bool.{and_parts}
use Rattle.std.proofs.lemmas.Bool.Decides.{nat_tests}
use Rattle.std.proofs.lemmas.List.Elements.{All-cons, All-nil, All-append}
use Rattle.std.proofs.lemmas.Fmt.{decimal_by_steps}
use Rattle.base_words.specs.Reads.{HasNo}
use Rattle.base_words.specs.Words.{is_hex_mark}
use Rattle.handle_model.specs.declared.entry.Slot.{Slot}
use Rattle.handle_model.specs.declared.entry.Slot.TheVariants.{Shares, Holds, Changes, Opens}
use Rattle.handle_model.specs.declared.entry.DueItem.{DueItem}
use Rattle.handle_model.specs.declared.entry.Outcome.{Outcome}
use Rattle.handle_model.specs.declared.entry.Outcome.TheVariants.{Keep, Close, Issue, Nothing}
use Rattle.handle_model.specs.declared.entry.Said.{Said}
use Rattle.handle_model.specs.declared.entry.Said.TheVariants.{Out, Fault}
use Rattle.journal_text.specs.Texts.{wire_text, use_word, slot_text, due_text, outcome_text, said_text}
use Rattle.journal_reader.specs.Fits.{FitsSlot, FitsDue, FitsIssue, FitsOutcome, FitsSaid}
use Rattle.journal_reader.specs.Parts.{Apart, OneOrTwo, due_parts, slot_parts, use_name, issue_parts, issue_text, outcome_parts, said_parts}

-- each octet is a digit or a small letter up to f
abbrev pub IsMarks : List ℕ → Type 0
IsMarks w = All (λ b. is_hex_mark b ≡ true) w

pub HasNo-marks : (c : ℕ) (w : List ℕ) → is_hex_mark c ≡ false → IsMarks w → HasNo c w
HasNo-marks c w off h = λ k d lt e. let on = h k d lt in let f = rw e at on in absurd (cc)

-- names: `no_name 58 (codes "shares") refl`
pub no_name : (c : ℕ) (w : List ℕ) → list_all (λ b. not (b == c)) w ≡ true → HasNo c w
no_name c [] h = All-nil (λ b. b ≢ c)
no_name c (b ∷ w) h =
    let parts = and_parts (not (b == c)) (list_all (λ b. not (b == c)) w) h in
    All-cons (λ b. b ≢ c) b w (let first = parts.0 in grind (arith, nat_tests)) (no_name c w parts.1)

-- NUMBERS

digit_mark : (d : ℕ) → d < 10 → is_hex_mark (48 + d) ≡ true
digit_mark d lt = grind (arith, nat_tests)

one_mark : (d : ℕ) → d < 10 → IsMarks ((48 + d) ∷ [])
one_mark d lt = All-cons (λ b. is_hex_mark b ≡ true) (48 + d) [] (digit_mark d lt) (All-nil (λ b. is_hex_mark b ≡ true))

pub marks_decimal : (n : ℕ) → n < 2 ^ 64 → IsMarks (decimal n)
marks_decimal n h =
    decimal_by_steps (λ n ds. IsMarks ds) (λ m lt. one_mark m lt) (λ m ds le marks. All-append (λ b. is_hex_mark b ≡ true) ds _ marks (one_mark (m % 10) (omega arith))) n h

pub no_decimal : (c n : ℕ) → is_hex_mark c ≡ false → n < 2 ^ 64 → HasNo c (decimal n)
no_decimal c n off h = HasNo-marks c (decimal n) off (marks_decimal n h)

-- PARTS

pub due_own : (d : DueItem) → FitsDue d → (length (due_parts d) ≡ 3) × Apart 58 (due_parts d)
due_own d f =
    let a = f.0 in
    let b = f.1 in
    (refl, (no_decimal 58 d.serial refl (omega arith), (no_decimal 58 d.kind refl (omega arith), tt)))

-- texts go on from the left, cuts from the right
pub three : (c : ℕ) (x y z : List ℕ) → x ++ (c ∷ (y ++ (c ∷ z))) ≡ (((x ++ (c ∷ [])) ++ y) ++ (c ∷ [])) ++ z
three c x y z =
    sym (append_assoc ((x ++ (c ∷ [])) ++ y) (c ∷ []) z ∙ (append_assoc (x ++ (c ∷ [])) y (c ∷ z) ∙ append_assoc x (c ∷ []) (y ++ (c ∷ z))))

pub due_joined : (d : DueItem) → join_with_byte 58 (due_parts d) ≡ due_text d
due_joined d = three 58 (decimal d.serial) (decimal d.kind) (decimal d.cookie)

pub slot_own : (s : Slot) → FitsSlot s → (length (slot_parts s) ≡ 3) × Apart 58 (slot_parts s)
unfolding use_name
slot_own (Shares k w) f = let a = f.0 in (refl, (no_name 58 (codes "shares") refl, (no_decimal 58 k refl (omega arith), tt)))
slot_own (Holds k w) f = let a = f.0 in (refl, (no_name 58 (codes "holds") refl, (no_decimal 58 k refl (omega arith), tt)))
slot_own (Changes k w) f = let a = f.0 in (refl, (no_name 58 (codes "changes") refl, (no_decimal 58 k refl (omega arith), tt)))
slot_own (Opens k s) f = let a = f.0 in (refl, (no_name 58 (codes "opens") refl, (no_decimal 58 k refl (omega arith), tt)))

pub slot_joined : (s : Slot) → join_with_byte 58 (slot_parts s) ≡ slot_text s
unfolding use_name use_word
slot_joined (Shares k w) = ap (λ x. codes "shares:" ++ x) (sym (append_assoc (decimal k) (codes ":") (wire_text w)))
slot_joined (Holds k w) = ap (λ x. codes "holds:" ++ x) (sym (append_assoc (decimal k) (codes ":") (wire_text w)))
slot_joined (Changes k w) = ap (λ x. codes "changes:" ++ x) (sym (append_assoc (decimal k) (codes ":") (wire_text w)))
slot_joined (Opens k s) = ap (λ x. codes "opens:" ++ x) (sym (append_assoc (decimal k) (codes ":") (decimal s)))

pub issue_own : (x : ℕ × ℕ) → FitsIssue x → (length (issue_parts x) ≡ 2) × Apart 58 (issue_parts x)
issue_own x f = let a = f.0 in (refl, (no_decimal 58 x.0 refl (omega arith), tt))

pub outcome_own : (o : Outcome) → FitsOutcome o → OneOrTwo 58 (outcome_parts o)
outcome_own (Keep c) f = no_name 58 (codes "keep") refl
outcome_own Close f = no_name 58 (codes "close") refl
outcome_own (Issue s c) f = no_name 58 (codes "issue") refl
outcome_own Nothing f = no_name 58 (codes "none") refl

pub outcome_joined : (o : Outcome) → join_with_byte 58 (outcome_parts o) ≡ outcome_text o
outcome_joined (Keep c) = refl
outcome_joined Close = refl
outcome_joined (Issue s c) = ap (λ x. codes "issue:" ++ x) (sym (append_assoc (decimal s) (codes ":") (decimal c)))
outcome_joined Nothing = refl

pub said_own : (s : Said) → FitsSaid s → (length (said_parts s) ≡ 2) × Apart 58 (said_parts s)
said_own (Out stub) f = (refl, (no_name 58 (codes "out") refl, tt))
said_own (Fault status) f = (refl, (no_name 58 (codes "fault") refl, tt))

pub said_joined : (s : Said) → join_with_byte 58 (said_parts s) ≡ said_text s
said_joined (Out stub) = refl
said_joined (Fault status) = refl

-- what has the name of an issue is one
abbrev pub second : List (List ℕ) → List ℕ
second ws = get_or ws 1 []

abbrev pub mark : List (List ℕ) → ℕ
mark ws = get_or (get_or ws 0 []) 0 0

pub issue_alone : (o : Outcome) (name rest : List ℕ) → FitsOutcome o → name ≡ codes "issue" → outcome_parts o ≡ name ∷ rest ∷ [] → ((x : ℕ × ℕ) → FitsIssue x → issue_text x ≡ rest → ⊥) → ⊥
issue_alone (Issue s k) name rest fits e f none = none (s, k) fits (ap second f)
issue_alone o name rest fits e f none =
    let first : mark (outcome_parts o) ≡ 105 = ap mark f ∙ ap (λ w. get_or w 0 0) e in absurd (omega arith)
