-- Managers of several interfaces, by number.
use Rattle.std.specs.Prelude.{ℕ, zero, suc, Bool, List, [], ◌∷◌}
use Rattle.manager_api.specs.Answers.{Ans}
use Rattle.manager_api.specs.Calls.{Call}

-- a call, whether its probe told of a cancel, and an answer that may be given
abbrev pub MayAnswer : Type 1
MayAnswer = Call → Bool → Ans → Type 0

-- the manager of that number may answer so
abbrev pub MayAt : ℕ → List MayAnswer → Call → Bool → Ans → Type 0
MayAt n [] c told answer = ⊥
MayAt zero (may ∷ mays) c told answer = may c told answer
MayAt (suc n) (may ∷ mays) c told answer = MayAt n mays c told answer
