-- What a call was taken with.
use Rattle.std.specs.Prelude.{ℕ, Option, List}
use Rattle.handle_model.specs.History.{History}
use Rattle.handle_model.specs.Journal.{Legal, slots, cookies_for}
use Rattle.group_core.specs.declared.answer.Taking.TheVariants.{Run}
use Rattle.group_core.specs.Calls.{Takes}
use Rattle.replay_groups.specs.Rows.{AreIn}

-- the journal is legal then: the row that a call is taken with has the cookies of its slots
abbrev pub TakenSuit : Type 0
TakenSuit =
    (old new : History) (k serial : ℕ) (row : List (Option ℕ)) → Legal new → Takes old k (Run row serial) new
    → AreIn row (slots old k) (cookies_for old (slots old k))
