-- What is judged event by event is the first breach of each rule.
use Rattle.std.proofs.Common.{◌≡◌, ℕ, ◌≤◌, List, [], ◌∷◌, ◌++◌, None, refl, ap, subst, sym, ◌∙◌, append_assoc, arith}
use Rattle.std.proofs.lemmas.Grind.{common_steps}
use Rattle.std.proofs.lemmas.Bool.Decides.{nat_tests}
use Rattle.idl_forms.specs.Forms.{TreeForm}
use Rattle.idl_outline.specs.declared.event.Event.{Event}
use Rattle.idl_outline.specs.Outline.{outline}
use Rattle.idl_rules.specs.Places.{gathered}
use Rattle.idl_rules.specs.BadAttribute.{bad_attribute, bad_file}
use Rattle.idl_rules.proofs.Leasts.{least_append}
use Rattle.idl_check.specs.declared.firsts.Firsts.{Firsts}
use Rattle.idl_check.specs.Firsts.{lesser_of, firsts_at, firsts_of, firsts_of_file, first_place, Gives}

pub firsts_step : (past : List Event) (e : Event) → firsts_of (e ∷ past) ≡ lesser_of (firsts_at past e) (firsts_of past)
firsts_step past e = simp least_append

no_rule : (t : TreeForm) (n : ℕ) → 10 ≤ n → first_place t n ≡ None
no_rule t n h = grind (arith, nat_tests, common_steps)

pub gives : (t : TreeForm) → Gives (first_place t) (lesser_of (firsts_of_file t) (firsts_of (outline t)))
gives t = record {
  one = refl;
  two = refl;
  three = least_append (bad_file t) (gathered bad_attribute (outline t));
  four = refl;
  five = refl;
  six = refl;
  seven = refl;
  eight = refl;
  nine = refl;
  zero = refl;
  more = no_rule t;
}

-- ---- one event more

pub all_left : (front old past now all : List Event) (e : Event) → old ≡ front ++ e ∷ [] → now ≡ e ∷ past → old ++ past ≡ all → front ++ now ≡ all
all_left front old past now all e p n h =
    ap (λ xs. front ++ xs) n
    ∙ (sym (append_assoc front (e ∷ []) past)
    ∙ (ap (λ xs. xs ++ past) (sym p) ∙ h))

pub judged_more : (past now : List Event) (e : Event) (a b all : Firsts) → now ≡ e ∷ past → a ≡ firsts_at past e → b ≡ firsts_of past → all ≡ lesser_of a b → all ≡ firsts_of now
judged_more past now e a b all n p q m =
    m
    ∙ ((λ j. lesser_of (p j) (q j))
    ∙ (sym (firsts_step past e)
    ∙ ap firsts_of (sym n)))

-- the interface's own attributes, and its events
pub judged_all : (t : TreeForm) (past : List Event) (events file all : Firsts) → past ≡ outline t → events ≡ firsts_of past → file ≡ firsts_of_file t → all ≡ lesser_of file events → Gives (first_place t) all
judged_all t past events file all is e f a =
    subst (λ (x : Firsts). Gives (first_place t) x)
    (sym (a ∙ ((λ j. lesser_of (f j) (e j)) ∙ ap (λ (p : List Event). lesser_of (firsts_of_file t) (firsts_of p)) is)))
    (gives t)
