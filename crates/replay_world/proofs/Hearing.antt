-- Printed lines, read again.
use Rattle.std.proofs.Common.{◌≡◌, ℕ, ◌^◌, ◌<◌, Bool, true, Result, Ok, Err, IfOk, OnOk, Option, Some, None, option_to_list, List, [], ◌∷◌, ◌++◌, length, codes, decimal, refl, sym, ap, ◌∙◌, arith, append_assoc, length-append}
use Rattle.std.specs.List.{AllByRecursion, join_with_byte, list_all}
use Rattle.std.proofs.lemmas.List.{append-nil}
use Rattle.hex.specs.Hex.{IsBytes, encode_lower}
use Rattle.base_words.specs.Reads.{Reads, HasNo}
use Rattle.base_words.specs.Words.{is_hex_mark}
use Rattle.base_words.proofs.Cuts.{same_cut, no_cut}
use Rattle.base_words.proofs.Ink.{IsInk, HasNo-ink, HasNo-join, ink_name, ink_decimal, ink_hex}
use Rattle.base_words.proofs.Hexadecimal.{decodes_marks, hex_injective}
use Rattle.replay_world.specs.Worlds.{Printed}
use Rattle.replay_world.specs.Worlds.Printed.{Answered, Waits, Idle}
use Rattle.replay_world.specs.Printing.{printed_body, printed_text, out_text}
use Rattle.replay_world.specs.Answered.{answered, answered_pdus, FitsPrinted, LineTells, AddsLine, AddsText}

-- ---- a line is the connection's name, a space, and a word or more

abbrev name_of : Printed → ℕ
name_of (Answered c octets) = c
name_of (Waits c k) = c
name_of (Idle c) = c

abbrev word_of : Printed → List ℕ
word_of (Answered c octets) = encode_lower octets
word_of (Waits c k) = codes "waits " ++ decimal k
word_of (Idle c) = codes "idle"

body_is : (p : Printed) → printed_body p ≡ decimal (name_of p) ++ (32 ∷ word_of p)
body_is (Answered c octets) = append_assoc (decimal c) (32 ∷ []) (encode_lower octets)
body_is (Waits c k) = append_assoc (decimal c) (codes " waits ") (decimal k)
body_is (Idle c) = refl

name_low : (p : Printed) → FitsPrinted p → name_of p < 2 ^ 64
name_low (Answered c octets) fits = fits.0
name_low (Waits c k) fits = fits.0
name_low (Idle c) fits = fits

name_whole : (p : Printed) → FitsPrinted p → HasNo 32 (decimal (name_of p))
name_whole p fits = HasNo-ink 32 (decimal (name_of p)) (omega arith) (ink_decimal (name_of p) (name_low p fits))

words_of : Printed → List (List ℕ)
words_of (Answered c octets) = decimal c ∷ encode_lower octets ∷ []
words_of (Waits c k) = decimal c ∷ codes "waits" ∷ decimal k ∷ []
words_of (Idle c) = decimal c ∷ codes "idle" ∷ []

no_feed : (p : Printed) → FitsPrinted p → HasNo 10 (decimal (name_of p) ++ (32 ∷ word_of p))
no_feed (Answered c octets) fits = HasNo-join 10 (decimal c ∷ encode_lower octets ∷ []) (omega arith) (omega arith) (ink_decimal c fits.0, (ink_hex octets fits.1, tt))
no_feed (Waits c k) fits = HasNo-join 10 (decimal c ∷ codes "waits" ∷ decimal k ∷ []) (omega arith) (omega arith) (ink_decimal c fits.0, (ink_name (codes "waits") refl, (ink_decimal k fits.1, tt)))
no_feed (Idle c) fits = HasNo-join 10 (decimal c ∷ codes "idle" ∷ []) (omega arith) (omega arith) (ink_decimal c fits, (ink_name (codes "idle") refl, tt))

-- ---- a line

pub tells_none : (line : List ℕ) → HasNo 32 line → LineTells line None
tells_none line none p fits is = absurd (no_cut 32 (decimal (name_of p)) (word_of p) line none (is ∙ body_is p))

found_is : (p : Printed) (word : List ℕ) (found : Option (List ℕ)) → FitsPrinted p → word_of p ≡ word → Reads IsBytes encode_lower word found → found ≡ answered p
found_is (Answered c octets) word None fits is reads = absurd (reads octets fits.1 is)
found_is (Answered c octets) word (Some read) fits is reads = ap Some (hex_injective read octets reads.0 fits.1 (reads.1 ∙ sym is))
found_is (Waits c k) word None fits is reads = refl
found_is (Waits c k) word (Some read) fits is reads = let marks = decodes_marks read (codes "waits " ++ decimal k) reads.0 (reads.1 ∙ sym is) in absurd (cc)
found_is (Idle c) word None fits is reads = refl
found_is (Idle c) word (Some read) fits is reads = let marks = decodes_marks read (codes "idle") reads.0 (reads.1 ∙ sym is) in absurd (cc)

cut_tells : (line front word : List ℕ) (found : Option (List ℕ)) → line ≡ front ++ (32 ∷ word) → HasNo 32 front → Reads IsBytes encode_lower word found → LineTells line found
cut_tells line front word found cut none reads p fits is =
    let same = same_cut 32 (decimal (name_of p)) front (word_of p) word (name_whole p fits) none (sym (body_is p) ∙ sym is ∙ cut) in
    found_is p word found fits same.1 reads

pub tells_word : {E : Type 0} (line front word : List ℕ) (r : Result (Option (List ℕ)) E) → line ≡ front ++ (32 ∷ word) → HasNo 32 front → IfOk r (Reads IsBytes encode_lower word) → IfOk r (LineTells line)
tells_word line front word (Ok found) cut none reads = cut_tells line front word found cut none reads
tells_word line front word (Err fault) cut none reads = reads

pub adds_none : (line : List ℕ) (old : List (List ℕ)) → LineTells line None → AddsLine line old old
adds_none line old tells p fits is = sym (append-nil old) ∙ ap (λ (o : Option (List ℕ)). old ++ option_to_list o) (tells p fits is)

pub adds_some : (line octets : List ℕ) (old : List (List ℕ)) → LineTells line (Some octets) → AddsLine line old (old ++ octets ∷ [])
adds_some line octets old tells p fits is = ap (λ (o : Option (List ℕ)). old ++ option_to_list o) (tells p fits is)

-- ---- a text

text_is : (p : Printed) (more : List Printed) → out_text (p ∷ more) ≡ (decimal (name_of p) ++ (32 ∷ word_of p)) ++ (10 ∷ out_text more)
unfolding out_text printed_text
text_is p more = append_assoc (printed_body p) (10 ∷ []) (out_text more) ∙ ap (λ (l : List ℕ). l ++ (10 ∷ out_text more)) (body_is p)

empty_text : out_text [] ≡ []
unfolding out_text
empty_text = refl

pub text_none : (text : List ℕ) (old : List (List ℕ)) → HasNo 10 text → AddsText text old old
text_none text old none [] fits is = sym (append-nil old)
text_none text old none (p ∷ more) fits is = absurd (no_cut 10 (decimal (name_of p) ++ (32 ∷ word_of p)) (out_text more) text none (is ∙ text_is p more))

text_more : (text line rest : List ℕ) (old mid new : List (List ℕ)) → text ≡ line ++ (10 ∷ rest) → HasNo 10 line → AddsLine line old mid → AddsText rest mid new → AddsText text old new
text_more text line rest old mid new cut none adds more_adds [] fits is =
    let n : length text ≡ 0 = ap length (is ∙ empty_text) in
    let m : length text ≡ length (line ++ (10 ∷ rest)) = ap length cut in
    absurd (omega (arith, n, m, length-append line (10 ∷ rest)))
text_more text line rest old mid new cut none adds more_adds (p ∷ more) fits is =
    let same = same_cut 10 line (decimal (name_of p) ++ (32 ∷ word_of p)) rest (out_text more) none (no_feed p fits.0) (sym cut ∙ is ∙ text_is p more) in
    let one : mid ≡ old ++ option_to_list (answered p) = adds p fits.0 (same.0 ∙ sym (body_is p)) in
    more_adds more fits.1 same.1 ∙ ap (λ (l : List (List ℕ)). l ++ answered_pdus more) one ∙ append_assoc old (option_to_list (answered p)) (answered_pdus more)

pub text_on : {T E : Type 0} (text line rest : List ℕ) (old mid new : List (List ℕ)) (r : Result T E) → text ≡ line ++ (10 ∷ rest) → HasNo 10 line → AddsLine line old mid → OnOk r (AddsText rest mid new) → OnOk r (AddsText text old new)
text_on text line rest old mid new (Ok x) cut none adds more = text_more text line rest old mid new cut none adds more
text_on text line rest old mid new (Err e) cut none adds more = more
