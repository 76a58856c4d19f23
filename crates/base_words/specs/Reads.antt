-- What a reader of texts promises.
use Rattle.std.specs.Prelude.{◌≡◌, ◌≢◌, ℕ, List, Option, MatchOption, All}

-- What was found is exact: a value that fits and has this text, or no value that fits has it.
abbrev pub Reads : {X T : Type 0} → (X → Type 0) → (X → T) → T → Option X → Type 0
Reads {X} fits text given found = MatchOption found ((x : X) → fits x → text x ≡ given → ⊥) (λ x. fits x × (text x ≡ given))

-- The octet stands nowhere in the list.
abbrev pub HasNo : ℕ → List ℕ → Type 0
HasNo c octets = All (λ b. b ≢ c) octets
