-- What kinds of long options there are, by the names that a command takes.
use Rattle.std.proofs.Common.{◌≡◌, ◌∙◌, ℕ, zero, suc, true, false, true≢false, Bool, [], ◌∷◌, ◌++◌, refl, sym, ap, ap₂, arith, Option, Some, None, codes, cond, inl, inr, ◌⊎◌, ◌==◌, eqb-true}
use Rattle.std.specs.List.{after_first}
use Rattle.std.specs.Str.{bytes_eq}
use Rattle.std.proofs.lemmas.Bool.{cases_Bool}
use Rattle.std.proofs.lemmas.Bool.Decides.{nat_tests}
use Rattle.clap.specs.Lexer.{long_of, name_and_value}
use Rattle.clap.specs.Walk.{Text}
use Rattle.clap.proofs.CutLemmas.{Lacks, before_first-Lacks, before_first-at, after_first-at, list_any-Lacks, list_any-at}
use Rattle.app_words.proofs.WordKinds.{IsLong, IsShort}
use Rattle.app_words.proofs.Uses.{Options, knows}
use Rattle.app_words.proofs.Says.{IsUnknown, mark_is}

-- the text is cut at its first `=` (61), or has none
record IsCut (text : Text) : Type 0 where
  pub front : Text
  pub back : Text
  pub is : text ≡ front ++ 61 ∷ back
  pub lacks : Lacks 61 front

nothing_lacks : Lacks 61 []
nothing_lacks i lt = absurd (omega arith)

cons_lacks : (c : ℕ) (xs : Text) → (c == 61) ≡ false → Lacks 61 xs → Lacks 61 (c ∷ xs)
cons_lacks c xs e h zero lt = grind (arith, nat_tests)
cons_lacks c xs e h (suc i) lt = h i (omega arith)

cut : (text : Text) → IsCut text ⊎ Lacks 61 text
cut [] = inr nothing_lacks
cut (c ∷ xs) = cut_by c xs (cases_Bool (c == 61)) (cut xs)
  where
    cut_by : (c : ℕ) (xs : Text) → (c == 61 ≡ true) ⊎ (c == 61 ≡ false) → IsCut xs ⊎ Lacks 61 xs → IsCut (c ∷ xs) ⊎ Lacks 61 (c ∷ xs)
    cut_by c xs (inl e) h = inl (record { front = []; back = xs; is = ap (λ x. x ∷ xs) (eqb-true c 61 e); lacks = nothing_lacks })
    cut_by c xs (inr e) (inl h) = inl (record { front = c ∷ h.front; back = h.back; is = ap (λ ys. c ∷ ys) h.is; lacks = cons_lacks c h.front e h.lacks })
    cut_by c xs (inr e) (inr h) = inr (cons_lacks c xs e h)

-- `--name`, that with a value, or another name
pub record IsBare (os : Options) (word : Text) : Type 0 where
  pub name : Text
  pub is : word ≡ codes "--" ++ name
  pub known : knows os name ≡ true
  pub dashes : bytes_eq word (codes "--") ≡ false
  pub long : long_of word ≡ Some (name, None)

pub record IsJoined (os : Options) (word : Text) : Type 0 where
  pub name : Text
  pub value : Text
  pub is : word ≡ codes "--" ++ name ++ codes "=" ++ value
  pub known : knows os name ≡ true
  pub dashes : bytes_eq word (codes "--") ≡ false
  pub long : long_of word ≡ Some (name, Some value)

pub record IsOther (os : Options) (word : Text) : Type 0 where
  pub long : IsLong word
  pub other : knows os (name_and_value long.text).0 ≡ false

abbrev pub LongKind : Options → Text → Type 0
LongKind os word = IsBare os word ⊎ IsJoined os word ⊎ IsOther os word

cut_at : (front back : Text) → Lacks 61 front → name_and_value (front ++ 61 ∷ back) ≡ (front, Some back)
cut_at front back h =
    ap₂ (λ n v. (n, v)) (before_first-at 61 front back h)
    (ap (λ b. cond b (Some (after_first (λ x. x == 61) (front ++ 61 ∷ back))) None) (list_any-at 61 front back) ∙ ap (λ t. Some t) (after_first-at 61 front back h))

uncut : (text : Text) → Lacks 61 text → name_and_value text ≡ (text, None)
uncut text h =
    ap₂ (λ n v. (n, v)) (before_first-Lacks 61 text h) (ap (λ b. cond b (Some (after_first (λ x. x == 61) text)) None) (list_any-Lacks 61 text h))

named_kind : (os : Options) (word : Text) (l : IsLong word) → knows os (name_and_value l.text).0 ≡ true → IsCut l.text ⊎ Lacks 61 l.text → LongKind os word
named_kind os word l e (inl c) =
    let split : name_and_value l.text ≡ (c.front, Some c.back) = ap name_and_value c.is ∙ cut_at c.front c.back c.lacks in
    inr (inl (record {
      name = c.front;
      value = c.back;
      is = l.is ∙ ap (λ t. 45 ∷ 45 ∷ t) (c.is ∙ sym (mark_is c.front c.back));
      known = sym (ap (λ (s : Text × Option Text). knows os s.0) split) ∙ e;
      dashes = l.dashes;
      long = l.long ∙ ap (λ s. Some s) split;
    }))
named_kind os word l e (inr h) =
    let whole : name_and_value l.text ≡ (l.text, None) = uncut l.text h in
    inl (record {
      name = l.text;
      is = l.is;
      known = sym (ap (λ (s : Text × Option Text). knows os s.0) whole) ∙ e;
      dashes = l.dashes;
      long = l.long ∙ ap (λ s. Some s) whole;
    })

pub long_kind : (os : Options) (word : Text) → IsLong word → LongKind os word
long_kind os word l = by (cases_Bool (knows os (name_and_value l.text).0))
  where
    by : (knows os (name_and_value l.text).0 ≡ true) ⊎ (knows os (name_and_value l.text).0 ≡ false) → LongKind os word
    by (inl e) = named_kind os word l e (cut l.text)
    by (inr e) = inr (inr (record { long = l; other = e }))

-- ---- words that are no option of the command

not_dashes : (word : Text) → bytes_eq word (codes "--") ≡ false → word ≡ codes "--" → ⊥
not_dashes word d e = true≢false (sym (ap (λ w. bytes_eq w (codes "--")) e) ∙ d)

-- the text after two hyphens
abbrev text_of : Text → Text
text_of (a ∷ b ∷ rest) = rest
text_of other = []

module _ (os : Options) (lacks : (name : Text) → knows os name ≡ true → Lacks 61 name) where
  pub other_unknown : (word : Text) → IsOther os word → IsUnknown os word
  other_unknown word o = record {
    dashes = not_dashes word o.long.dashes;
    option = o.long.option;
    bare = λ name k e.
        let same : o.long.text ≡ name = ap text_of (sym o.long.is ∙ e) in
        true≢false (sym k ∙ ap (λ (s : Text × Option Text). knows os s.0) (sym (ap name_and_value same ∙ uncut name (lacks name k))) ∙ o.other);
    joined = λ name value k e.
        let same : o.long.text ≡ name ++ 61 ∷ value = ap text_of (sym o.long.is ∙ e) ∙ mark_is name value in
        true≢false (sym k ∙ ap (λ (s : Text × Option Text). knows os s.0) (sym (ap name_and_value same ∙ cut_at name value (lacks name k))) ∙ o.other);
  }

abbrev is_long : Option (Text × Option Text) → Bool
is_long None = false
is_long (Some p) = true

long_word : (text : Text) → (text ≡ [] → ⊥) → is_long (long_of (codes "--" ++ text)) ≡ true
long_word [] n = absurd (n refl)
long_word (c ∷ cs) n = refl

marked : (name value : Text) → name ++ codes "=" ++ value ≡ [] → ⊥
marked [] value e = absurd (cc)
marked (c ∷ cs) value e = absurd (cc)

pub short_unknown : (os : Options) (some : (name : Text) → knows os name ≡ true → name ≡ [] → ⊥) (word : Text) → IsShort word → IsUnknown os word
short_unknown os some word h = record {
  dashes = not_dashes word h.dashes;
  option = h.option;
  bare = λ name k e. true≢false (sym (long_word name (some name k)) ∙ ap (λ w. is_long (long_of w)) (sym e) ∙ ap is_long h.long);
  joined = λ name value k e.
      true≢false (sym (long_word (name ++ codes "=" ++ value) (marked name value)) ∙ ap (λ w. is_long (long_of w)) (sym e) ∙ ap is_long h.long);
}
