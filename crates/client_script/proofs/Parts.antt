-- The parts of a line.
use Rattle.std.proofs.Common.{◌≡◌, ◌≢◌, ℕ, ◌<◌, List, [], ◌∷◌, ◌++◌, refl, ap, sym, ◌∙◌, subst, arith, append_assoc, get_or, codes, decimal, Option, Some, None, Result, Ok, Err}
use Rattle.std.specs.Prelude.{IfOk}
use Rattle.base_words.specs.Reads.{HasNo, Reads}
use Rattle.base_words.proofs.Cuts.{same_cut, no_cut}
use Rattle.base_words.proofs.Ink.{HasNo-ink, ink_name, ink_decimal}
use Rattle.client_script.specs.declared.line.CallLine.{CallLine}
use Rattle.client_script.specs.declared.line.CallLine.TheVariants.{Bind, Start, Cancel, Wait, Close}
use Rattle.client_script.specs.Lines.{IsConnection, FitsGroup, FitsBind, FitsStart, FitsLine, with_text, group_text, bind_text, start_text, name_of, rest_of, parts_of, line_body, line_text, IsLine}

one_word : (l : CallLine) → HasNo 32 (name_of l)
one_word (Bind c group) = HasNo-ink 32 (codes "bind") (omega arith) (ink_name (codes "bind") refl)
one_word (Start c name values) = HasNo-ink 32 (codes "start") (omega arith) (ink_name (codes "start") refl)
one_word (Cancel c) = HasNo-ink 32 (codes "cancel") (omega arith) (ink_name (codes "cancel") refl)
one_word (Wait c) = HasNo-ink 32 (codes "wait") (omega arith) (ink_name (codes "wait") refl)
one_word (Close c) = HasNo-ink 32 (codes "close") (omega arith) (ink_name (codes "close") refl)

two : (a b x y : List ℕ) → a ≡ x → b ≡ y → a ∷ b ∷ [] ≡ x ∷ y ∷ []
two a b x y e f = cc

-- a line has a space
pub no_parts : (l : CallLine) (body : List ℕ) → HasNo 32 body → line_body l ≡ body → ⊥
no_parts l body none e = no_cut 32 (name_of l) (rest_of l) body none (sym e)

-- a body that is cut at its first space has these two parts alone
pub parts_of_cut : (l : CallLine) (name rest : List ℕ) → HasNo 32 name → line_body l ≡ name ++ (32 ∷ rest) → parts_of l ≡ name ∷ rest ∷ []
parts_of_cut l name rest none e =
    let same = same_cut 32 (name_of l) name (rest_of l) rest (one_word l) none e in
    two _ _ _ _ same.0 same.1

abbrev body_of : List (List ℕ) → List ℕ
body_of ws = get_or ws 0 [] ++ (32 ∷ get_or ws 1 [])

reads : (body name rest : List ℕ) (found : Option CallLine) → body ≡ name ++ (32 ∷ rest) → HasNo 32 name → Reads FitsLine parts_of (name ∷ rest ∷ []) found → Reads FitsLine line_body body found
reads body name rest None e none h = λ l fits f. h l fits (parts_of_cut l name rest none (f ∙ e))
reads body name rest (Some l) e none h = (h.0, ap body_of h.1 ∙ sym e)

-- what is exact of the two parts is exact of the body
pub reads_body : {E : Type 0} (body name rest : List ℕ) (r : Result (Option CallLine) E) → body ≡ name ++ (32 ∷ rest) → HasNo 32 name → IfOk r (Reads FitsLine parts_of (name ∷ rest ∷ [])) → IfOk r (Reads FitsLine line_body body)
reads_body body name rest (Ok found) e none h = reads body name rest found e none h
reads_body body name rest (Err x) e none h = tt

HasNo-connection : (c : ℕ) → IsConnection c → HasNo 32 (decimal c)
HasNo-connection c fits = HasNo-ink 32 (decimal c) (omega arith) (ink_decimal c (omega arith))

-- a connection's number, and what stands after the space after it
pub number_of_cut : (c : ℕ) (more number rest : List ℕ) → IsConnection c → HasNo 32 number → decimal c ++ (32 ∷ more) ≡ number ++ (32 ∷ rest) → (decimal c ≡ number) × (more ≡ rest)
number_of_cut c more number rest fits none e = same_cut 32 (decimal c) number more rest (HasNo-connection c fits) none e

pub no_number : (c : ℕ) (more text : List ℕ) → HasNo 32 text → decimal c ++ (32 ∷ more) ≡ text → ⊥
no_number c more text none e = no_cut 32 (decimal c) more text none (sym e)

-- ---- whole lines

pub no_line_without_feed : (l : CallLine) (tail text : List ℕ) → HasNo 10 text → text ≡ line_text l ++ tail → ⊥
unfolding line_text
no_line_without_feed l tail text none e = no_cut 10 (line_body l) tail text none (e ∙ append_assoc (line_body l) (10 ∷ []) tail)

pub text_of_cut : (l : CallLine) (body rest : List ℕ) → line_body l ≡ body → body ++ (10 ∷ rest) ≡ line_text l ++ rest
unfolding line_text
text_of_cut l body rest e = ap (λ b. b ++ (10 ∷ rest)) (sym e) ∙ sym (append_assoc (line_body l) (10 ∷ []) rest)

pub body_of_cut : (l : CallLine) (tail body rest : List ℕ) → IsLine l → HasNo 10 body → line_text l ++ tail ≡ body ++ (10 ∷ rest) → (line_body l ≡ body) × (tail ≡ rest)
unfolding line_text
body_of_cut l tail body rest fits none e = same_cut 10 (line_body l) body tail rest fits.1 none (sym (append_assoc (line_body l) (10 ∷ []) tail) ∙ e)

-- ---- groups

with_word : HasNo 32 (codes "with")
with_word = HasNo-ink 32 (codes "with") (omega arith) (ink_name (codes "with") refl)

pub with_parts : (d : ℕ) (text word other : List ℕ) → text ≡ word ++ (32 ∷ other) → HasNo 32 word → with_text d ≡ text → (codes "with" ≡ word) × (decimal d ≡ other)
with_parts d text word other cut none e = same_cut 32 (codes "with") word (decimal d) other with_word none (e ∙ cut)

pub no_with : (d : ℕ) (text : List ℕ) → HasNo 32 text → with_text d ≡ text → ⊥
no_with d text none e = no_cut 32 (codes "with") (decimal d) text none (sym e)

pub with_reads : (text word other : List ℕ) (o : Option ℕ) → text ≡ word ++ (32 ∷ other) → HasNo 32 word → word ≡ codes "with" → Reads IsConnection decimal other o → Reads IsConnection with_text text o
with_reads text word other None cut none is h = λ d fits e. h d fits (with_parts d text word other cut none e).1
with_reads text word other (Some d) cut none is h = (h.0, ap (λ (u : List ℕ). codes "with" ++ (32 ∷ u)) h.1 ∙ (ap (λ (w : List ℕ). w ++ (32 ∷ other)) (sym is) ∙ sym cut))

pub new_text : (text : List ℕ) → text ≡ codes "new" → group_text None ≡ text
unfolding group_text
new_text text e = sym e

pub some_group : (d : ℕ) (text : List ℕ) → with_text d ≡ text → group_text (Some d) ≡ text
unfolding group_text
some_group d text e = e

pub no_group : (o : Option ℕ) (text : List ℕ) → (text ≡ codes "new" → ⊥) → ((d : ℕ) → IsConnection d → with_text d ≡ text → ⊥) → FitsGroup o → group_text o ≡ text → ⊥
unfolding group_text
no_group None text n w fits e = n (sym e)
no_group (Some d) text n w fits e = w d fits e

-- ---- a line whose first word is `bind`

abbrev mark : List (List ℕ) → ℕ
mark ws = get_or (get_or ws 0 []) 0 0

abbrev second : List (List ℕ) → List ℕ
second ws = get_or ws 1 []

pub bind_alone : (l : CallLine) (name rest : List ℕ) → FitsLine l → name ≡ codes "bind" → parts_of l ≡ name ∷ rest ∷ [] → ((x : ℕ × Option ℕ) → FitsBind x → bind_text x ≡ rest → ⊥) → ⊥
bind_alone (Bind c group) name rest fits e f none = none (c, group) fits (ap second f)
bind_alone l name rest fits e f none =
    let first : mark (parts_of l) ≡ 98 = ap mark f ∙ ap (λ w. get_or w 0 0) e in
    absurd (omega arith)
