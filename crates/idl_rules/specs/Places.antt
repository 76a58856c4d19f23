-- Where a rule is broken: the places of its breaches, as octets of the text.
use Rattle.std.specs.Prelude.{◌≡◌, ◌⊎◌, ℕ, Bool, List, [], ◌∷◌, ◌++◌, map, if◌then◌else◌}
use Rattle.std.specs.List.{filter}
use Rattle.idl_outline.specs.declared.event.Event.{Event}

-- the place is one of those
abbrev pub Among : ℕ → List ℕ → Type 0
Among at [] = ⊥
Among at (x ∷ xs) = (at ≡ x) ⊎ Among at xs

-- this place, where it is so
abbrev pub at_if : Bool → ℕ → List ℕ
at_if broken at = if broken then at ∷ [] else []

-- the places of each event, for those that happened before it
abbrev pub gathered : (List Event → Event → List ℕ) → List Event → List ℕ
gathered f [] = []
gathered f (e ∷ past) = f past e ++ gathered f past

-- the places of what stands again, as something before it does
abbrev pub repeats : {X : Type 0} → (X → X → Bool) → (X → ℕ) → List X → List ℕ
repeats same at [] = []
repeats same at (x ∷ xs) = map at (filter (same x) xs) ++ repeats same at xs
