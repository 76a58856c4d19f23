-- Values that stand at their own numbers.
use Rattle.std.specs.Prelude.{◌≡◌, ℕ, ◌+◌, ◌<◌, ◌≤◌, ◌^◌, List, [], ◌∷◌}

module _ {X : Type 0} where
  -- each stands at its number
  abbrev pub Keyed : (X → ℕ) → List (ℕ × X) → Type 0
  Keyed number [] = Unit {0}
  Keyed number (e ∷ es) = (e.0 ≡ number e.1) × Keyed number es

  -- the numbers rise, from this one on, and have 32 bits
  abbrev pub Rises : ℕ → List (ℕ × X) → Type 0
  Rises low [] = Unit {0}
  Rises low (e ∷ es) = (low ≤ e.0) × (e.0 < 2 ^ 32) × Rises (e.0 + 1) es

  pub record IsTable (number : X → ℕ) (es : List (ℕ × X)) : Type 0 where
    pub keyed : Keyed number es
    pub rises : Rises 0 es
