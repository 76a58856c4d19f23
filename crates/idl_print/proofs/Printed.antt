-- Printed texts.
use Rattle.std.proofs.Common.{◌≡◌, ℕ, zero, suc, ◌-◌, ◌≤◌, Bool, true, false, ◌&&◌, List, [], ◌∷◌, ◌++◌, length, length-append, take, Option, Some, None, refl, sym, ap, subst, arith}
use Rattle.std.specs.Prelude.{codes}
use Rattle.std.specs.List.{list_all}
use Rattle.std.proofs.lemmas.Bool.{false≢true, cond_both}
use Rattle.idl_tokens.specs.declared.words.Word.{Word}
use Rattle.idl_tokens.specs.declared.marks.Mark.TheVariants as marks
use Rattle.idl_tokens.specs.declared.marks.Bracket.TheVariants as brackets
use Rattle.idl_tokens.specs.declared.kinds.Kind.{Kind}
use Rattle.idl_tokens.specs.declared.kinds.Kind.TheVariants as kinds
use Rattle.idl_tokens.specs.declared.kinds.Token.{Token}
use Rattle.idl_tokens.specs.Tokens.{Gap, starts, is_blank, is_name_octet, BeginsWith, Cut, AreTokens}
use Rattle.idl_tokens.specs.Tokens.Separates.{blank}
use Rattle.idl_tokens.specs.Tokens.Gap.{none, more}
use Rattle.idl_tokens.specs.Tokens.Cut.{end, bad, next}
use Rattle.idl_print.specs.declared.sorts.Sort.{Sort}
use Rattle.idl_print.specs.declared.sorts.Sort.TheVariants as sorts
use Rattle.idl_print.specs.Layout.{token_text, sort_of, is_end, closes_brace, ends_line, clings, between, indent_behind, printed, layout, kinds_of, HasText, HaveTexts}
use Rattle.idl_print.proofs.Again.{Apart, begins_again}

-- ---- what stands between

abbrev IsBlanks : List ℕ → Type 0
IsBlanks bs = list_all is_blank bs ≡ true

both_blank : (b c : Bool) → (b && c) ≡ true → (b ≡ true) × (c ≡ true)
both_blank true c h = (refl, h)
both_blank false c h = absurd (false≢true h)

gap_of : (bs rest : List ℕ) → IsBlanks bs → Gap rest (bs ++ rest)
gap_of [] rest h = none
gap_of (b ∷ bs) rest h = let both = both_blank (is_blank b) (list_all is_blank bs) h in more (blank b both.0 refl) (gap_of bs rest both.1)

blanks_append : (a b : List ℕ) → IsBlanks a → IsBlanks b → IsBlanks (a ++ b)
blanks_append [] b h g = g
blanks_append (x ∷ xs) b h g = let both = both_blank (is_blank x) (list_all is_blank xs) h in rw both.0 (blanks_append xs b both.1 g)

blanks_take : (n : ℕ) (xs : List ℕ) → IsBlanks xs → IsBlanks (take n xs)
blanks_take zero xs h = refl
blanks_take (suc n) [] h = refl
blanks_take (suc n) (x ∷ xs) h = let both = both_blank (is_blank x) (list_all is_blank xs) h in rw both.0 (blanks_take n xs both.1)

blanks_between : (indent : List ℕ) (last : Option Sort) (sort : Sort) → IsBlanks indent → IsBlanks (between indent last sort)
blanks_between indent None sort h = refl
blanks_between indent (Some last) sort h =
    cond_both (is_end sort) _ _ IsBlanks (λ e. refl) (λ e.
    cond_both (closes_brace sort) _ _ IsBlanks (λ e. blanks_take (length indent - 2) indent h) (λ e.
    cond_both (ends_line last sort) _ _ IsBlanks (λ e. h) (λ e.
    cond_both (clings last sort) _ _ IsBlanks (λ e. refl) (λ e. refl))))

blanks_behind : (indent : List ℕ) (sort : Sort) → IsBlanks indent → IsBlanks (indent_behind indent sort)
blanks_behind indent (sorts.Word word) h = h
blanks_behind indent sorts.Name h = h
blanks_behind indent sorts.Number h = h
blanks_behind indent sorts.Text h = h
blanks_behind indent sorts.Uuid h = h
blanks_behind indent (sorts.Mark mark) h = h
blanks_behind indent (sorts.Open brackets.Square) h = h
blanks_behind indent (sorts.Open brackets.Round) h = h
blanks_behind indent (sorts.Open brackets.Curly) h = blanks_append indent (codes "  ") h refl
blanks_behind indent (sorts.Shut brackets.Square) h = h
blanks_behind indent (sorts.Shut brackets.Round) h = h
blanks_behind indent (sorts.Shut brackets.Curly) h = blanks_take (length indent - 2) indent h
blanks_behind indent sorts.End h = h

-- ---- names and numbers aren't carried on

behind_word : (indent : List ℕ) (word : Word) (kind : Kind) (q : List ℕ) → starts is_name_octet (between indent (Some (sorts.Word word)) (sort_of kind) ++ (token_text kind ++ q)) ≡ false
behind_word indent word (kinds.Word other) q = refl
behind_word indent word (kinds.Name other) q = refl
behind_word indent word (kinds.Number other) q = refl
behind_word indent word (kinds.Text inside) q = refl
behind_word indent word (kinds.Uuid id) q = refl
behind_word indent word (kinds.Mark marks.Comma) q = refl
behind_word indent word (kinds.Mark marks.Semicolon) q = refl
behind_word indent word (kinds.Mark marks.Colon) q = refl
behind_word indent word (kinds.Mark marks.Star) q = refl
behind_word indent word (kinds.Mark marks.Equals) q = refl
behind_word indent word (kinds.Mark marks.Minus) q = refl
behind_word indent word (kinds.Mark marks.Dot) q = refl
behind_word indent word (kinds.Open brackets.Square level) q = refl
behind_word indent word (kinds.Open brackets.Round level) q = refl
behind_word indent word (kinds.Open brackets.Curly level) q = refl
behind_word indent word (kinds.Shut brackets.Square) q = refl
behind_word indent word (kinds.Shut brackets.Round) q = refl
behind_word indent word (kinds.Shut brackets.Curly) q = refl
behind_word indent word kinds.End q = refl
behind_word indent word kinds.Bad q = refl

behind_name : (indent : List ℕ) (kind : Kind) (q : List ℕ) → starts is_name_octet (between indent (Some sorts.Name) (sort_of kind) ++ (token_text kind ++ q)) ≡ false
behind_name indent (kinds.Word other) q = refl
behind_name indent (kinds.Name other) q = refl
behind_name indent (kinds.Number other) q = refl
behind_name indent (kinds.Text inside) q = refl
behind_name indent (kinds.Uuid id) q = refl
behind_name indent (kinds.Mark marks.Comma) q = refl
behind_name indent (kinds.Mark marks.Semicolon) q = refl
behind_name indent (kinds.Mark marks.Colon) q = refl
behind_name indent (kinds.Mark marks.Star) q = refl
behind_name indent (kinds.Mark marks.Equals) q = refl
behind_name indent (kinds.Mark marks.Minus) q = refl
behind_name indent (kinds.Mark marks.Dot) q = refl
behind_name indent (kinds.Open brackets.Square level) q = refl
behind_name indent (kinds.Open brackets.Round level) q = refl
behind_name indent (kinds.Open brackets.Curly level) q = refl
behind_name indent (kinds.Shut brackets.Square) q = refl
behind_name indent (kinds.Shut brackets.Round) q = refl
behind_name indent (kinds.Shut brackets.Curly) q = refl
behind_name indent kinds.End q = refl
behind_name indent kinds.Bad q = refl

behind_number : (indent : List ℕ) (kind : Kind) (q : List ℕ) → starts is_name_octet (between indent (Some sorts.Number) (sort_of kind) ++ (token_text kind ++ q)) ≡ false
behind_number indent (kinds.Word other) q = refl
behind_number indent (kinds.Name other) q = refl
behind_number indent (kinds.Number other) q = refl
behind_number indent (kinds.Text inside) q = refl
behind_number indent (kinds.Uuid id) q = refl
behind_number indent (kinds.Mark marks.Comma) q = refl
behind_number indent (kinds.Mark marks.Semicolon) q = refl
behind_number indent (kinds.Mark marks.Colon) q = refl
behind_number indent (kinds.Mark marks.Star) q = refl
behind_number indent (kinds.Mark marks.Equals) q = refl
behind_number indent (kinds.Mark marks.Minus) q = refl
behind_number indent (kinds.Mark marks.Dot) q = refl
behind_number indent (kinds.Open brackets.Square level) q = refl
behind_number indent (kinds.Open brackets.Round level) q = refl
behind_number indent (kinds.Open brackets.Curly level) q = refl
behind_number indent (kinds.Shut brackets.Square) q = refl
behind_number indent (kinds.Shut brackets.Round) q = refl
behind_number indent (kinds.Shut brackets.Curly) q = refl
behind_number indent kinds.End q = refl
behind_number indent kinds.Bad q = refl

apart_following : (indent : List ℕ) (kind following : Kind) (q : List ℕ) → Apart kind (between indent (Some (sort_of kind)) (sort_of following) ++ (token_text following ++ q))
apart_following indent (kinds.Word word) following q = behind_word indent word following q
apart_following indent (kinds.Name name) following q = behind_name indent following q
apart_following indent (kinds.Number value) following q = behind_number indent following q
apart_following indent (kinds.Text inside) following q = tt
apart_following indent (kinds.Uuid id) following q = tt
apart_following indent (kinds.Mark mark) following q = tt
apart_following indent (kinds.Open bracket level) following q = tt
apart_following indent (kinds.Shut bracket) following q = tt
apart_following indent kinds.End following q = tt
apart_following indent kinds.Bad following q = tt

apart_nothing : (kind : Kind) → Apart kind []
apart_nothing (kinds.Word word) = refl
apart_nothing (kinds.Name name) = refl
apart_nothing (kinds.Number value) = refl
apart_nothing (kinds.Text inside) = tt
apart_nothing (kinds.Uuid id) = tt
apart_nothing (kinds.Mark mark) = tt
apart_nothing (kinds.Open bracket level) = tt
apart_nothing (kinds.Shut bracket) = tt
apart_nothing kinds.End = tt
apart_nothing kinds.Bad = tt

apart_printed : (indent : List ℕ) (kind : Kind) (following : List Kind) → Apart kind (printed indent (Some (sort_of kind)) following)
apart_printed indent kind [] = apart_nothing kind
apart_printed indent kind (k ∷ ks) = apart_following indent kind k (printed (indent_behind indent (sort_of k)) (Some (sort_of k)) ks)

-- ---- whole texts

-- The text has tokens of these kinds.
record HasKinds (total : ℕ) (before : List Kind) (text : List ℕ) (ks : List Kind) : Type 0 where
  tokens : List Token
  cut : Cut total before text tokens
  kinds_are : kinds_of tokens ≡ ks

the_end : (total : ℕ) (before : List Kind) (indent : List ℕ) (last : Option Sort) → IsBlanks indent → HasKinds total before (printed indent last (kinds.End ∷ [])) (kinds.End ∷ [])
the_end total before indent last h = record {
  tokens = record { at = total; kind = kinds.End } ∷ [];
  cut = end _ (gap_of (between indent last sorts.End) [] (blanks_between indent last sorts.End h)) refl refl;
  kinds_are = refl;
}

one_more : (total : ℕ) (before : List Kind) (here : List ℕ) (kind : Kind) (rest : List ℕ) (ks : List Kind) (indent : List ℕ) (last : Option Sort)
    → HasText kind → IsBlanks indent → length (printed indent last (kind ∷ ks)) ≤ total → BeginsWith before here kind rest
    → HasKinds total (kind ∷ before) (printed (indent_behind indent (sort_of kind)) (Some (sort_of kind)) ks) ks
    → HasKinds total before (printed indent last (kind ∷ ks)) (kind ∷ ks)
one_more total before here kind rest ks indent last text blanks fits begins others =
    let q = printed (indent_behind indent (sort_of kind)) (Some (sort_of kind)) ks in
    let stands = token_text kind ++ q in
    let gap = between indent last (sort_of kind) in
    let within : length stands ≤ total = omega (arith, length-append gap stands) in
    record {
      tokens = record { at = total - length stands; kind = kind } ∷ others.tokens;
      cut = next _ (gap_of gap stands (blanks_between indent last (sort_of kind) blanks)) (omega arith)
          (begins_again before here kind rest q text (apart_printed (indent_behind indent (sort_of kind)) kind ks) begins) others.cut;
      kinds_are = ap (λ xs. kind ∷ xs) others.kinds_are;
    }

has_kinds : {whole : ℕ} {before : List Kind} {text : List ℕ} {ts : List Token} → Cut whole before text ts → HaveTexts (kinds_of ts)
    → (total : ℕ) (indent : List ℕ) (last : Option Sort) → IsBlanks indent → length (printed indent last (kinds_of ts)) ≤ total
    → HasKinds total before (printed indent last (kinds_of ts)) (kinds_of ts)
has_kinds {before = before} (end t g at is) texts total indent last blanks fits =
    subst (λ kind. HasKinds total before (printed indent last (kind ∷ [])) (kind ∷ [])) (sym is) (the_end total before indent last blanks)
has_kinds (bad t g at is stuck) texts total indent last blanks fits = absurd (subst HasText is texts.0)
has_kinds {before = before} (next {here = here} {rest = rest} {ts = ts} t g at begins cut) texts total indent last blanks fits =
    let q = printed (indent_behind indent (sort_of t.kind)) (Some (sort_of t.kind)) (kinds_of ts) in
    let stands = token_text t.kind ++ q in
    let within : length q ≤ total = omega (arith, length-append (between indent last (sort_of t.kind)) stands, length-append (token_text t.kind) q) in
    one_more total before here t.kind rest (kinds_of ts) indent last texts.0 blanks fits begins
    (has_kinds cut texts.1 total (indent_behind indent (sort_of t.kind)) (Some (sort_of t.kind)) (blanks_behind indent (sort_of t.kind) blanks) within)

pub layout_again : (text : List ℕ) (ts : List Token) → AreTokens text ts → HaveTexts (kinds_of ts)
    → (us : List Token) × AreTokens (layout (kinds_of ts)) us × (kinds_of us ≡ kinds_of ts)
layout_again text ts cut texts =
    let found = has_kinds cut texts (length (layout (kinds_of ts))) [] None refl (omega arith) in (found.tokens, found.cut, found.kinds_are)
