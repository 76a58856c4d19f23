-- The first line of a text, and the first lines of a text, are one.
use Rattle.std.proofs.Common.{◌≡◌, ℕ, ◌≤◌, List, [], ◌∷◌, ◌++◌, length, refl, ap, sym, ◌∙◌, arith, append_assoc, get_or, length-append, codes, decimal}
use Rattle.std.specs.List.{AllByRecursion, flat_map}
use Rattle.std.proofs.lemmas.Fmt.{decimal_injective}
use Rattle.hex.specs.Hex.{IsBytes}
use Rattle.base_words.specs.Reads.{HasNo}
use Rattle.base_words.specs.Words.{octets_text}
use Rattle.base_words.proofs.Cuts.{same_cut, no_cut}
use Rattle.base_words.proofs.Ink.{IsInk, HasNo-ink, HasNo-join, ink_name, ink_decimal, ink_octets, ink_hex_u64}
use Rattle.base_words.proofs.Numbers.{hex_u64_injective}
use Rattle.base_words.proofs.Octets.{octets_text_injective}
use Rattle.replay_script.specs.declared.line.Line.{Line}
use Rattle.replay_script.specs.declared.line.Line.TheVariants.{Boot, Open, Send, Run, Finish, Lose}
use Rattle.replay_script.specs.Lines.{words_of, line_body, line_text, text_of_lines, FitsLine, FitLines, IsConnection}
use Rattle.replay_script.specs.Heads.{head_and_rest}
use Rattle.replay_script.proofs.Heads.{heads_same}

-- ---- no body of a line has a line feed

ink_words : (l : Line) → FitsLine l → AllByRecursion IsInk (words_of l)
ink_words (Boot x) fits = (ink_name (codes "boot") refl, (ink_hex_u64 x, tt))
ink_words (Open c) fits = (ink_name (codes "open") refl, (ink_decimal c (omega arith), tt))
ink_words (Send c octets) fits = (ink_name (codes "send") refl, (ink_decimal c (omega arith), (ink_octets octets fits.1, tt)))
ink_words (Run c) fits = (ink_name (codes "run") refl, (ink_decimal c (omega arith), tt))
ink_words (Finish c) fits = (ink_name (codes "finish") refl, (ink_decimal c (omega arith), tt))
ink_words (Lose c) fits = (ink_name (codes "lose") refl, (ink_decimal c (omega arith), tt))

pub HasNo-line : (l : Line) → FitsLine l → HasNo 10 (line_body l)
HasNo-line l fits = HasNo-join 10 (words_of l) (omega arith) (omega arith) (ink_words l fits)

-- a text with a line in front has a line feed
pub no_line_without_feed : (l : Line) (tail text : List ℕ) → HasNo 10 text → text ≡ line_text l ++ tail → ⊥
unfolding line_text
no_line_without_feed l tail text none e =
    no_cut 10 (line_body l) tail text none (e ∙ append_assoc (line_body l) (10 ∷ []) tail)

pub text_of_cut : (l : Line) (body rest : List ℕ) → line_body l ≡ body → body ++ (10 ∷ rest) ≡ line_text l ++ rest
unfolding line_text
text_of_cut l body rest e = ap (λ b. b ++ (10 ∷ rest)) (sym e) ∙ sym (append_assoc (line_body l) (10 ∷ []) rest)

-- a text that is cut at its first line feed begins with the line, if any
pub body_of_cut : (l : Line) (tail body rest : List ℕ) → FitsLine l → HasNo 10 body → line_text l ++ tail ≡ body ++ (10 ∷ rest) → (line_body l ≡ body) × (tail ≡ rest)
unfolding line_text
body_of_cut l tail body rest fits none e =
    same_cut 10 (line_body l) body tail rest (HasNo-line l fits) none (sym (append_assoc (line_body l) (10 ∷ []) tail) ∙ e)

-- ---- a line has its text to itself

-- the first octet of the first word, and the second word
abbrev mark : List (List ℕ) → ℕ
mark [] = 0
mark (w ∷ ws) = get_or w 0 0

abbrev second : List (List ℕ) → List ℕ
second ws = get_or ws 1 []

HasNo-connection : (c : ℕ) → IsConnection c → HasNo 32 (decimal c)
HasNo-connection c fits = HasNo-ink 32 (decimal c) (omega arith) (ink_decimal c (omega arith))

pub connection_injective : (c d : ℕ) → IsConnection c → IsConnection d → decimal c ≡ decimal d → c ≡ d
connection_injective c d p q e = decimal_injective c d (omega arith) (omega arith) e

pub arrival_of_cut : (c : ℕ) (octets first rest : List ℕ) → IsConnection c → HasNo 32 first → decimal c ++ (32 ∷ octets_text octets) ≡ first ++ (32 ∷ rest) → (decimal c ≡ first) × (octets_text octets ≡ rest)
arrival_of_cut c octets first rest fits none e =
    same_cut 32 (decimal c) first (octets_text octets) rest (HasNo-connection c fits) none e

heads_injective : (l m : Line) → FitsLine l → FitsLine m → head_and_rest l ≡ head_and_rest m → l ≡ m
heads_injective (Boot x) (Boot y) p q e = ap Boot (hex_u64_injective x y p q (ap second e))
heads_injective (Open c) (Open d) p q e = ap Open (connection_injective c d p q (ap second e))
heads_injective (Send c xs) (Send d ys) p q e =
    let parts = arrival_of_cut c xs (decimal d) (octets_text ys) p.0 (HasNo-connection d q.0) (ap second e) in
    let number = connection_injective c d p.0 q.0 parts.0 in
    let octets = octets_text_injective xs ys p.1 q.1 parts.1 in
    cc
heads_injective (Run c) (Run d) p q e = ap Run (connection_injective c d p q (ap second e))
heads_injective (Finish c) (Finish d) p q e = ap Finish (connection_injective c d p q (ap second e))
heads_injective (Lose c) (Lose d) p q e = ap Lose (connection_injective c d p q (ap second e))
heads_injective l m p q e = let no = ap mark e in absurd (omega arith)

pub line_injective : (l m : Line) → FitsLine l → FitsLine m → line_body l ≡ line_body m → l ≡ m
line_injective l m p q e = heads_injective l m p q (heads_same l m e)

-- the first line of a text is one
pub first_line_unique : (l m : Line) (x y : List ℕ) → FitsLine l → FitsLine m → line_text l ++ x ≡ line_text m ++ y → (l ≡ m) × (x ≡ y)
unfolding line_text
first_line_unique l m x y p q e =
    let cut = same_cut 10 (line_body l) (line_body m) x y (HasNo-line l p) (HasNo-line m q) (sym (append_assoc (line_body l) (10 ∷ []) x) ∙ (e ∙ append_assoc (line_body m) (10 ∷ []) y)) in
    (line_injective l m p q cut.0, cut.1)

pub length-line_text : (l : Line) → 1 ≤ length (line_text l)
unfolding line_text
length-line_text l = omega (arith, length-append (line_body l) (10 ∷ []))

-- ---- texts of lists of lines

-- as many first lines of a text are one
pub front_unique : (a b : List Line) (x y : List ℕ) → FitLines a → FitLines b → length a ≡ length b → text_of_lines a ++ x ≡ text_of_lines b ++ y → (a ≡ b) × (x ≡ y)
unfolding text_of_lines
front_unique [] [] x y p q n e = (refl, e)
front_unique [] (m ∷ b) x y p q n e = absurd (omega arith)
front_unique (l ∷ a) [] x y p q n e = absurd (omega arith)
front_unique (l ∷ a) (m ∷ b) x y p q n e =
    let first = first_line_unique l m (flat_map line_text a ++ x) (flat_map line_text b ++ y) p.0 q.0 (sym (append_assoc (line_text l) (flat_map line_text a) x) ∙ (e ∙ append_assoc (line_text m) (flat_map line_text b) y)) in
    let rest = front_unique a b x y p.1 q.1 (omega arith) first.1 in
    (cc, rest.1)

-- a line in front makes a text that isn't empty
pub not_empty : (l : Line) (x : List ℕ) → line_text l ++ x ≡ [] → ⊥
not_empty l x e = omega (arith, ap length e, length-append (line_text l) x, length-line_text l)

-- a text is that of one list of lines
pub lines_unique : (a b : List Line) → FitLines a → FitLines b → text_of_lines a ≡ text_of_lines b → a ≡ b
unfolding text_of_lines
lines_unique [] [] p q e = refl
lines_unique [] (m ∷ b) p q e = absurd (not_empty m (flat_map line_text b) (sym e))
lines_unique (l ∷ a) [] p q e = absurd (not_empty l (flat_map line_text a) e)
lines_unique (l ∷ a) (m ∷ b) p q e =
    let first = first_line_unique l m (flat_map line_text a) (flat_map line_text b) p.0 q.0 e in
    let rest = lines_unique a b p.1 q.1 first.1 in
    cc

-- a line whose first word is `send` carries what stands behind it
pub send_alone : (l : Line) (name rest : List ℕ) → FitsLine l → name ≡ codes "send" → head_and_rest l ≡ name ∷ rest ∷ [] → ((c : ℕ) (octets : List ℕ) → IsConnection c → IsBytes octets → decimal c ++ (32 ∷ octets_text octets) ≡ rest → ⊥) → ⊥
send_alone (Send c octets) name rest fits e f none = none c octets fits.0 fits.1 (ap second f)
send_alone l name rest fits e f none =
    let first : mark (head_and_rest l) ≡ 115 = ap mark f ∙ ap (λ w. get_or w 0 0) e in
    absurd (omega arith)
