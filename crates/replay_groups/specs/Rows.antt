-- The cookies of a call's slots in a row of four, and what the desks may answer.
use Rattle.std.specs.Prelude.{◌≡◌, ℕ, true, Bool, Option, List}
use Rattle.handle_model.specs.declared.entry.Slot.{Slot}
use Rattle.manager_api.specs.Answers.{Ans}
use Rattle.manager_api.specs.Calls.{Call}
use Rattle.desk_counts.specs.Numbers.{Numbers}
use Rattle.handle_model.specs.declared.entry.Home.{Home}
use Rattle.handle_model.specs.declared.entry.Asked.{Asked}
use Rattle.ndr_table.specs.Tables.{TableForm}
use Rattle.conn_histories.specs.Ends.{Meets, row_of}
use Rattle.server_calls.specs.declared.end.Ended.{Ended}
use Rattle.server_calls.specs.Suited.{suit_cookies}
use Rattle.desk_service.specs.State.{Services}
use Rattle.desk_service.specs.Calls.{May}

-- these are the cookies in the row, one for each slot
pub record AreIn (row : List (Option ℕ)) (slots : List Slot) (cookies : List (Option ℕ)) : Type 0 where
  pub row_is : row ≡ row_of cookies
  pub suits : suit_cookies slots cookies ≡ true

-- there are such cookies
abbrev pub HasCookies : List (Option ℕ) → List Slot → Type 0
HasCookies row slots = (cookies : List (Option ℕ)) × AreIn row slots cookies

-- the desks may give the answer to a call of which they were told whether it was cancelled
abbrev pub MayAnswer : Services → Numbers → Bool → Services → Call → Bool → Ans → Type 0
MayAnswer old numbers cancelled new call told answer = (told ≡ cancelled) × May old numbers call told answer new

-- a call that was given the cookies in the row is answered, and ends, so
abbrev pub MeetsRow : Home → List TableForm → (Call → Bool → Ans → Type 0) → Asked → List (Option ℕ) → Bool → Ended → Type 0
MeetsRow home tables may a row cancelled ended = (given : List (Option ℕ)) → AreIn row a.slots given → Meets home tables may a given cancelled ended.results ended.said
