-- What is answered behind a lock.
use Rattle.std.specs.Prelude.{Bool}
use Rattle.manager_api.specs.Answers.{Ans}
use Rattle.manager_api.specs.Calls.{Call}

-- a desk gives the answer in some state that its type allows
abbrev pub InSomeState : {D : Type 0} → (D → Call → Bool → Ans → D → Type 0) → Call → Bool → Ans → Type 0
InSomeState {D} may c told answer = (before after : D) × may before c told answer after
