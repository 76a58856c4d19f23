-- Where a text departs from the scripts of a grammar P.
--
-- A reader that has read some lines, a front of a script, and stands before the rest of the text
-- ends in one of four ways, each with its lemma: no line begins the rest (`departs-no_line`), the line
-- that does makes no front (`departs-line`), the lines are a script that nothing can follow and the rest
-- isn't empty (`departs-after`), or they are no script and the rest is empty (`departs-missing`).
use Rattle.std.proofs.Common.{◌≡◌, ℕ, zero, suc, ◌+◌, ◌-◌, ◌<◌, ◌≤◌, inl, inr, List, [], ◌∷◌, ◌++◌, length, take, drop, refl, ap, sym, ◌∙◌, subst, arith, append_assoc, length-append, length-take-le, append-nil}
use Rattle.std.specs.List.{flat_map}
use Rattle.std.proofs.lemmas.Bool.{cases_lt}
use Rattle.std.proofs.lemmas.List.{take_at, take-append-drop}
use Rattle.std.proofs.lemmas.Grind.{flat_map-append}
use Rattle.replay_script.specs.declared.line.Line.{Line}
use Rattle.replay_script.specs.Lines.{line_text, text_of_lines, FitsLine, FitLines, BeginsWith, BeginsWithNoLine}
use Rattle.replay_script.specs.Scripts.{IsScript, BeginsScript, DepartsAt, IsFront}
use Rattle.replay_script.proofs.Fronts.{front_unique, first_line_unique, not_empty, length-line_text}

-- ---- texts and lists of lines

pub text-append : (a b : List Line) → text_of_lines (a ++ b) ≡ text_of_lines a ++ text_of_lines b
unfolding text_of_lines
text-append a b = flat_map-append line_text a b

pub text-push : (a : List Line) (l : Line) (rest : List ℕ) → text_of_lines (a ++ l ∷ []) ++ rest ≡ text_of_lines a ++ (line_text l ++ rest)
unfolding text_of_lines
text-push a l rest =
    ap (λ t. t ++ rest) (flat_map-append line_text a (l ∷ []) ∙ ap (λ t. flat_map line_text a ++ t) (append-nil (line_text l))) ∙ append_assoc (flat_map line_text a) (line_text l) rest

-- one line more was read
pub text-more : (lines : List Line) (l : Line) (octets rest after : List ℕ) → octets ≡ text_of_lines lines ++ rest → BeginsWith l after rest → octets ≡ text_of_lines (lines ++ l ∷ []) ++ after
text-more lines l octets rest after e f = e ∙ (ap (λ t. text_of_lines lines ++ t) f.1 ∙ sym (text-push lines l after))

-- the rest gets shorter
pub shorter : (l : Line) (rest after : List ℕ) → BeginsWith l after rest → length after < length rest
shorter l rest after f = omega (arith, ap length f.1, length-append (line_text l) after, length-line_text l)

pub fit-parts : (a b : List Line) → FitLines (a ++ b) → FitLines a × FitLines b
fit-parts [] b h = (tt, h)
fit-parts (l ∷ a) b h = let parts = fit-parts a b h.1 in ((h.0, parts.0), parts.1)

pub fit-append : (a b : List Line) → FitLines a → FitLines b → FitLines (a ++ b)
fit-append [] b p q = q
fit-append (l ∷ a) b p q = (p.0, fit-append a b p.1 q)

pub fit-push : (a : List Line) (l : Line) → FitLines a → FitsLine l → FitLines (a ++ l ∷ [])
fit-push a l p q = fit-append a (l ∷ []) p (q, tt)

-- a list at one of its places
at_place : (k : ℕ) (ls : List Line) → k < length ls → (l : Line) × ((more : List Line) × (ls ≡ take k ls ++ l ∷ more) × (take (k + 1) ls ≡ take k ls ++ l ∷ []) × (length (take k ls) ≡ k))
at_place k [] h = absurd (omega arith)
at_place zero (l ∷ ls) h = (l, (ls, refl, refl, refl))
at_place (suc k) (l ∷ ls) h =
    let p = at_place k ls (omega arith) in
    let more : suc k + 1 ≡ suc (k + 1) = omega arith in
    (p.0, (p.1.0, ap (λ t. l ∷ t) p.1.1, ap (λ n. take n (l ∷ ls)) more ∙ ap (λ t. l ∷ t) p.1.2, ap suc p.1.3))

-- ---- what was read, and no line that goes on

-- whatever line begins the rest, with it the lines are no front of a script
abbrev pub GoesNowhere : (List Line → Type 0) → List Line → List ℕ → Type 0
GoesNowhere P lines rest = (l : Line) (after : List ℕ) → BeginsWith l after rest → IsFront P (lines ++ l ∷ []) → ⊥

no_further : (P : List Line → Type 0) (lines : List Line) (octets rest : List ℕ) → FitLines lines → octets ≡ text_of_lines lines ++ rest → GoesNowhere P lines rest → BeginsScript P (length lines + 1) octets → ⊥
no_further P lines octets rest fits e none b =
    let whole = b.lines in
    let p = at_place (length lines) whole (omega (arith, b.has)) in
    let l = p.0 in
    let more = p.1.0 in
    let front = take (length lines) whole in
    let all = fit-parts front (l ∷ more) (subst FitLines p.1.1 b.fits) in
    let there : octets ≡ text_of_lines front ++ (line_text l ++ b.rest) = b.text ∙ (ap (λ t. text_of_lines t ++ b.rest) p.1.2 ∙ text-push _ l b.rest) in
    let one = front_unique lines front rest (line_text l ++ b.rest) fits all.0 (sym p.1.3) (sym e ∙ there) in
    let same : whole ≡ (lines ++ l ∷ []) ++ more = p.1.1 ∙ (ap (λ t. t ++ l ∷ more) (sym one.0) ∙ sym (append_assoc lines (l ∷ []) more)) in
    none l b.rest (all.1.0, one.1) (record { more = more; fits = subst FitLines same b.fits; script = subst P same b.script })

nothing_left : (b : List Line) (rest : List ℕ) → text_of_lines b ++ rest ≡ [] → (b ≡ []) × (rest ≡ [])
unfolding text_of_lines
nothing_left [] rest e = (refl, e)
nothing_left (l ∷ b) rest e =
    absurd (not_empty l (flat_map line_text b ++ rest) (sym (append_assoc (line_text l) (flat_map line_text b) rest) ∙ e))

not_whole : (P : List Line → Type 0) (lines : List Line) (octets rest : List ℕ) → FitLines lines → octets ≡ text_of_lines lines ++ rest → (BeginsScript P (length lines + 1) octets → ⊥) → (P lines → rest ≡ [] → ⊥) → IsScript P octets → ⊥
not_whole P lines octets rest fits e none unfinished w =
    let whole = w.lines in
    elim (cases_lt (length lines) (length whole)) [
      | inl lt ↦
          let cut : octets ≡ text_of_lines (take (length lines + 1) whole) ++ text_of_lines (drop (length lines + 1) whole) =
          w.text ∙ (ap text_of_lines (sym (take-append-drop (length lines + 1) whole)) ∙ text-append _ _) in
          none (record { lines = whole; fits = w.fits; script = w.script; has = omega arith; rest = text_of_lines (drop (length lines + 1) whole); text = cut })
      | inr le ↦
          let a = take (length whole) lines in
          let b = drop (length whole) lines in
          let joined : a ++ b ≡ lines = take-append-drop (length whole) lines in
          let parts = fit-parts a b (subst FitLines (sym joined) fits) in
          let there : text_of_lines a ++ (text_of_lines b ++ rest) ≡ text_of_lines whole ++ [] =
          sym (append_assoc (text_of_lines a) (text_of_lines b) rest) ∙ (ap (λ t. t ++ rest) (sym (text-append a b) ∙ ap text_of_lines joined) ∙ (sym e ∙ (w.text ∙ sym (append-nil (text_of_lines whole))))) in
          let one = front_unique a whole (text_of_lines b ++ rest) [] parts.0 w.fits (length-take-le (length whole) lines le) there in
          let left = nothing_left b rest one.1 in
          let same : whole ≡ lines = sym (append-nil whole) ∙ (ap (λ t. t ++ []) (sym one.0) ∙ (ap (λ t. a ++ t) (sym left.0) ∙ joined)) in
          unfinished (subst P same w.script) left.1
    ]

-- The general form: the lines are a front, nothing that begins the rest goes on, and they aren't the whole.
pub departs : (P : List Line → Type 0) (lines : List Line) (octets rest : List ℕ) → IsFront P lines → octets ≡ text_of_lines lines ++ rest → GoesNowhere P lines rest → (P lines → rest ≡ [] → ⊥) → DepartsAt P (length lines + 1) octets
departs P lines octets rest front e none unfinished =
    let fits = (fit-parts lines front.more front.fits).0 in
    let here = no_further P lines octets rest fits e none in
    let one : length lines + 1 - 1 ≡ length lines = omega arith in
    let begin : take (length lines) (lines ++ front.more) ≡ lines = take_at lines front.more _ refl in
    record {
      from_one = omega arith;
      before = record {
        lines = lines ++ front.more;
        fits = front.fits;
        script = front.script;
        has = omega (arith, length-append lines front.more);
        rest = rest;
        text = e ∙ ap (λ t. text_of_lines t ++ rest) (sym (ap (λ n. take n (lines ++ front.more)) one ∙ begin));
      };
      here = here;
      whole = not_whole P lines octets rest fits e here unfinished;
    }

-- no line begins the rest, and this isn't the end of a script
pub departs-no_line : (P : List Line → Type 0) (lines : List Line) (octets rest : List ℕ) → IsFront P lines → octets ≡ text_of_lines lines ++ rest → BeginsWithNoLine rest → (P lines → rest ≡ [] → ⊥) → DepartsAt P (length lines + 1) octets
departs-no_line P lines octets rest front e none unfinished =
    departs P lines octets rest front e (λ l after f more. none l after f.0 f.1) unfinished

-- the line that begins the rest makes no front
pub departs-line : (P : List Line → Type 0) (lines : List Line) (l : Line) (octets rest after : List ℕ) → IsFront P lines → octets ≡ text_of_lines lines ++ rest → BeginsWith l after rest → (IsFront P (lines ++ l ∷ []) → ⊥) → DepartsAt P (length lines + 1) octets
departs-line P lines l octets rest after front e begins stop =
    departs P lines octets rest front e
    (λ m tail f more.
    let same = first_line_unique m l tail after f.0 begins.0 (sym f.1 ∙ begins.1) in
    stop (subst (λ t. IsFront P (lines ++ t ∷ [])) same.0 more))
    (λ script none. not_empty l after (sym begins.1 ∙ none))

-- nothing can follow the lines, and something does
pub departs-after : (P : List Line → Type 0) (lines : List Line) (octets rest : List ℕ) → IsFront P lines → octets ≡ text_of_lines lines ++ rest → ((l : Line) → FitsLine l → IsFront P (lines ++ l ∷ []) → ⊥) → (rest ≡ [] → ⊥) → DepartsAt P (length lines + 1) octets
departs-after P lines octets rest front e over some =
    departs P lines octets rest front e (λ l after f more. over l f.0 more) (λ script none. some none)

-- the text ends before the script does
pub departs-missing : (P : List Line → Type 0) (lines : List Line) (octets rest : List ℕ) → IsFront P lines → octets ≡ text_of_lines lines ++ rest → rest ≡ [] → (P lines → ⊥) → DepartsAt P (length lines + 1) octets
departs-missing P lines octets rest front e none unlike =
    departs P lines octets rest front e (λ l after f more. not_empty l after (sym f.1 ∙ none)) (λ script end. unlike script)

-- ---- scripts

-- the text of lines that are a script
pub script : (P : List Line → Type 0) (lines : List Line) (octets : List ℕ) → FitLines lines → P lines → octets ≡ text_of_lines lines → IsScript P octets
script P lines octets fits p e = record { lines = lines; fits = fits; script = p; text = e }

-- no script departs
pub not_both : (P : List Line → Type 0) (n : ℕ) (octets : List ℕ) → IsScript P octets → DepartsAt P n octets → ⊥
not_both P n octets w d = d.whole w

-- ---- a text departs at one line at most

take-fewer : (m n : ℕ) (ls : List Line) → m ≤ n → (more : List Line) × (take n ls ≡ take m ls ++ more)
take-fewer zero n ls h = (take n ls, refl)
take-fewer (suc m) zero ls h = absurd (omega arith)
take-fewer (suc m) (suc n) [] h = ([], refl)
take-fewer (suc m) (suc n) (l ∷ ls) h = let p = take-fewer m n ls (omega arith) in (p.0, ap (λ t. l ∷ t) p.1)

pub begins-fewer : (P : List Line → Type 0) (m n : ℕ) (octets : List ℕ) → m ≤ n → BeginsScript P n octets → BeginsScript P m octets
begins-fewer P m n octets le b =
    let p = take-fewer m n b.lines le in
    record {
      lines = b.lines;
      fits = b.fits;
      script = b.script;
      has = omega (arith, b.has);
      rest = text_of_lines p.0 ++ b.rest;
      text = b.text ∙ (ap (λ t. text_of_lines t ++ b.rest) p.1 ∙ (ap (λ t. t ++ b.rest) (text-append (take m b.lines) p.0) ∙ append_assoc (text_of_lines (take m b.lines)) (text_of_lines p.0) b.rest));
    }

not_later : (P : List Line → Type 0) (m n : ℕ) (octets : List ℕ) → DepartsAt P m octets → DepartsAt P n octets → n ≤ m
not_later P m n octets d f =
    elim (cases_lt m n) [
      | inl lt ↦ absurd (d.here (begins-fewer P m (n - 1) octets (omega arith) f.before))
      | inr le ↦ le
    ]

pub one_departure : (P : List Line → Type 0) (m n : ℕ) (octets : List ℕ) → DepartsAt P m octets → DepartsAt P n octets → m ≡ n
one_departure P m n octets d f =
    let a = not_later P m n octets d f in
    let b = not_later P n m octets f d in
    omega arith
