use Rattle.std.proofs.Common.{◌≡◌, ℕ, ◌+◌, [], ◌∷◌, ◌++◌, refl, add-one}
use Rattle.std.proofs.lemmas.Grind.{common_steps}
use Rattle.handle_model.specs.Journal.{numbers}

pub numbers_more : (n : ℕ) → numbers (n + 1) ≡ numbers n ++ (n + 1) ∷ []
numbers_more n = rw (add-one n) refl

pub ruleset numbering = (numbers_more, common_steps)
