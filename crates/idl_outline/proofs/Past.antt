-- What is kept beside the events, behind one event more.
use Rattle.std.proofs.Common.{◌≡◌, ℕ, ◌+◌, Bool, cond, List, [], ◌∷◌, ◌++◌, ap, sym, ◌∙◌, subst, reverse, arith}
use Rattle.std.specs.List.{count_by}
use Rattle.std.proofs.lemmas.List.{reverse-append}
use Rattle.std.proofs.lemmas.List.Sums.{sum_by-cons}
use Rattle.idl_outline.specs.declared.event.Event.{Event}
use Rattle.idl_outline.specs.declared.known.Known.{Known}
use Rattle.idl_outline.specs.Names.{Past, declared_by, is_operation, is_typedef_event, is_body, is_kind}
use Rattle.idl_outline.specs.Kept.{IsKept, shown, one_if}

-- ---- one event more

pub reverse-snoc : {X : Type 0} (xs : List X) (x : X) → reverse (xs ++ x ∷ []) ≡ x ∷ reverse xs
reverse-snoc xs x = reverse-append xs (x ∷ [])

more : {X : Type 0} (p : X → Bool) (x : X) (xs : List X) → count_by p (x ∷ xs) ≡ count_by p xs + one_if (p x)
more p x xs = omega (arith, sum_by-cons (λ y. cond (p y) 1 0) x xs)

kept_on : (past : Past) (e : Event) (known new : Known) (operations typedefs bodies kinds : ℕ) → IsKept past known operations typedefs bodies kinds → shown new ≡ declared_by e (shown known)
    → IsKept (e ∷ past) new (operations + one_if (is_operation e)) (typedefs + one_if (is_typedef_event e)) (bodies + one_if (is_body e)) (kinds + one_if (is_kind e))
kept_on past e known new operations typedefs bodies kinds k h = record {
  declared = h ∙ ap (declared_by e) k.declared;
  operations_are = ap (λ m. m + one_if (is_operation e)) k.operations_are ∙ sym (more is_operation e past);
  typedefs_are = ap (λ m. m + one_if (is_typedef_event e)) k.typedefs_are ∙ sym (more is_typedef_event e past);
  bodies_are = ap (λ m. m + one_if (is_body e)) k.bodies_are ∙ sym (more is_body e past);
  kinds_are = ap (λ m. m + one_if (is_kind e)) k.kinds_are ∙ sym (more is_kind e past);
}

pub kept_pushed : (xs ys : List Event) (e : Event) (known new : Known) (operations typedefs bodies kinds o t b n : ℕ) → ys ≡ xs ++ e ∷ [] → IsKept (reverse xs) known operations typedefs bodies kinds → shown new ≡ declared_by e (shown known)
    → o ≡ operations + one_if (is_operation e) → t ≡ typedefs + one_if (is_typedef_event e) → b ≡ bodies + one_if (is_body e) → n ≡ kinds + one_if (is_kind e) → IsKept (reverse ys) new o t b n
kept_pushed xs ys e known new operations typedefs bodies kinds o t b n p k h c d f g =
    rw (c, d, f, g) (subst (λ (past : Past). IsKept past new (operations + one_if (is_operation e)) (typedefs + one_if (is_typedef_event e)) (bodies + one_if (is_body e)) (kinds + one_if (is_kind e))) (sym (ap reverse p ∙ reverse-snoc xs e)) (kept_on (reverse xs) e known new operations typedefs bodies kinds k h))

pub kept_still : (past : Past) (known new : Known) (operations typedefs bodies kinds : ℕ) → IsKept past known operations typedefs bodies kinds → shown new ≡ shown known → IsKept past new operations typedefs bodies kinds
kept_still past known new operations typedefs bodies kinds k h = record { declared = h ∙ k.declared; operations_are = k.operations_are; typedefs_are = k.typedefs_are; bodies_are = k.bodies_are; kinds_are = k.kinds_are }

pub ruleset kept = (reverse-snoc, kept_pushed, kept_still)
