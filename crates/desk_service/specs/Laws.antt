-- What holds of the services' answers.
use Rattle.std.specs.Prelude.{◌≡◌, Bool, false, true}
use Rattle.manager_api.specs.Answers.{Ans, no_memory}
use Rattle.manager_api.specs.Calls.{Call}
use Rattle.desk_counts.specs.Numbers.{Numbers}
use Rattle.desk_service.specs.State.{Services, tables_of}
use Rattle.manager_api.specs.ServedCalls.{IsNumbered}
use Rattle.desk_service.specs.Calls.{May}

-- the answer to a call, and the services behind it, are one, unless memory ran out
abbrev pub OneAnswer : Type 0
OneAnswer = (before one other : Services) (numbers : Numbers) (c : Call) (told : Bool) (a b : Ans)
    → IsNumbered (tables_of before) c → May before numbers c told a one → May before numbers c told b other
    → (a ≡ no_memory → ⊥) → (b ≡ no_memory → ⊥) → (a ≡ b) × (one ≡ other)

-- a call leaves the interfaces as they are
abbrev pub TablesStay : Type 0
TablesStay = (before after : Services) (numbers : Numbers) (c : Call) (told : Bool) (a : Ans) → May before numbers c told a after → tables_of after ≡ tables_of before
