-- Readings in order, alike step by step.
use Rattle.std.proofs.Common.{◌≡◌, Result, Ok, Err, refl, ap, ◌∙◌}
use Rattle.ndr_arrays.specs.Bind.{◌>>=◌}

each_way : {A B E : Type 0} (r : Result A E) (f g : A → Result B E) → ((x : A) → f x ≡ g x) → (r >>= f) ≡ (r >>= g)
each_way (Ok x) f g h = h x
each_way (Err d) f g h = refl

pub bind_same : {A B E : Type 0} (r s : Result A E) (f g : A → Result B E) → r ≡ s → ((x : A) → f x ≡ g x) → (r >>= f) ≡ (s >>= g)
bind_same {A} {B} {E} r s f g e h = ap (λ (q : Result A E). q >>= f) e ∙ each_way s f g h
