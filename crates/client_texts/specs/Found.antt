-- What is read of a text: something that stands there, or nothing where nothing does.
use Rattle.std.specs.Prelude.{Option, MatchOption}

-- what was read stands there, and nothing was read only where nothing does
abbrev pub ReadsText : {X A : Type 0} → Option X → (A → Type 0) → (X → A) → Type 0
ReadsText {X} {A} found stands what = MatchOption found ((a : A) → stands a → ⊥) (λ x. stands (what x))

-- the same, of something with the rest of the text after it
abbrev pub ReadsFront : {X A R : Type 0} → Option X → (A → R → Type 0) → (X → A) → (X → R) → Type 0
ReadsFront {X} {A} {R} found stands what rest = MatchOption found ((a : A) (r : R) → stands a r → ⊥) (λ x. stands (what x) (rest x))
