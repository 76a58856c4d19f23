-- What the events of a past give, as code goes over them from the oldest on.
use Rattle.std.proofs.Common.{◌≡◌, List, [], ◌∷◌, ◌++◌, length, refl, ap, sym, ◌∙◌, append_assoc, append-nil, reverse, length-append, arith}
use Rattle.std.specs.List.{flat_map}
use Rattle.std.proofs.lemmas.List.{reverse-append}
use Rattle.idl_outline.specs.declared.event.Event.{Event}
use Rattle.idl_outline.specs.declared.event.Event.TheVariants as events
use Rattle.idl_outline.specs.Names.{Past}
use Rattle.marshal_table.specs.Interfaces.{op_in, uses_in, collected}

collected_front : {X : Type 0} (f : Event → List X) (xs : Past) (e : Event) → collected f (xs ++ e ∷ []) ≡ f e ++ collected f xs
collected_front f [] e = sym (append-nil (f e))
collected_front f (x ∷ xs) e = ap (λ ys. ys ++ f x) (collected_front f xs e) ∙ append_assoc (f e) (collected f xs) (f x)

reverse-first : (e : Event) (es : List Event) → reverse (e ∷ es) ≡ reverse es ++ e ∷ []
reverse-first e es = reverse-append (e ∷ []) es

pub collected_is : {X : Type 0} (f : Event → List X) (es : List Event) → flat_map f es ≡ collected f (reverse es)
collected_is f [] = refl
collected_is f (e ∷ es) = ap (λ ys. f e ++ ys) (collected_is f es) ∙ (sym (collected_front f (reverse es) e) ∙ sym (ap (collected f) (reverse-first e es)))

pub collected_of : {X : Type 0} (f : Event → List X) (es : List Event) (p : Past) (xs : List X) → reverse es ≡ p → xs ≡ flat_map f es → xs ≡ collected f p
collected_of f es p xs e h = h ∙ (collected_is f es ∙ ap (collected f) e)

-- as many operations as uses of handles
one_each : (e : Event) → length (uses_in e) ≡ length (op_in e)
one_each (events.Call r fs) = refl
one_each _ = refl

pub each_has_uses : (p : Past) → length (collected uses_in p) ≡ length (collected op_in p)
each_has_uses [] = refl
each_has_uses (e ∷ p) =
    let a = length-append (collected uses_in p) (uses_in e) in
    let b = length-append (collected op_in p) (op_in e) in
    let c = one_each e in
    let d = each_has_uses p in
    omega (arith, a, b, c, d)
