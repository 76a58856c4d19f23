-- What follows from a connection's turns.
use Rattle.std.specs.Prelude.{◌≡◌, ℕ, Bool, true, false, List, [], ◌++◌, ⊤}
use Rattle.std.specs.List.{list_any, AllByRecursion}
use Rattle.handle_model.specs.declared.entry.Home.{Home}
use Rattle.handle_model.specs.declared.entry.Entry.{Entry}
use Rattle.handle_model.specs.Journal.{waits, runs}
use Rattle.handle_model.specs.Replies.{replies}
use Rattle.conn_histories.specs.declared.turn.Off.{Off}
use Rattle.conn_histories.specs.declared.turn.Deed.{Deed}
use Rattle.conn_histories.specs.declared.turn.Deed.TheVariants.{Accepted}
use Rattle.conn_histories.specs.declared.turn.Turn.{Turn}
use Rattle.conn_histories.specs.declared.turn.Turn.TheVariants.{Called}
use Rattle.conn_histories.specs.Entries.{turn_runs, numbers_of}
use Rattle.conn_histories.specs.Events.{fate_reply}
use Rattle.conn_histories.specs.Tales.{whole, of_call, of_conn, calls_of, StandAll}

-- ---- replies

abbrev pub DeedReplied : Home → List Entry → List Off → Deed → Type 0
DeedReplied home past offs (Accepted k slots fate) = replies (whole home past) k ≡ fate_reply offs fate
DeedReplied home past offs _ = ⊤

-- the journal's reply to the turn's call is the turn's
abbrev pub IsReplied : Home → List Entry → Turn → Type 0
IsReplied home past (Called r) = DeedReplied home past r.offs r.deed
IsReplied home past _ = ⊤

abbrev pub TurnsAreReplied : Type 0
TurnsAreReplied =
    (home : Home) (c : ℕ) (gone : Bool) (past : List Entry) (turns : List Turn) → StandAll c gone past turns
    → AllByRecursion (IsReplied home past) turns

-- entries of other connections and of their calls
pub record AreOfOthers (c : ℕ) (turns : List Turn) (newer : List Entry) : Type 0 where
  pub no_conn : list_any (of_conn c) newer ≡ false
  pub no_call : calls_of c newer ≡ []
  pub none_of : AllByRecursion (λ k. list_any (of_call k) newer ≡ false) (numbers_of turns)

abbrev pub TurnsStay : Type 0
TurnsStay =
    (c : ℕ) (gone : Bool) (newer past : List Entry) (turns : List Turn) → AreOfOthers c turns newer → StandAll c gone past turns
    → StandAll c gone (newer ++ past) turns

-- no call of a connection that is gone waits or runs, where no turn says so
abbrev pub DeedEnded : Home → List Entry → Deed → Type 0
DeedEnded home past (Accepted k slots fate) = (waits (whole home past) k ≡ false) × (runs (whole home past) k ≡ false)
DeedEnded home past _ = ⊤

abbrev pub IsEnded : Home → List Entry → Turn → Type 0
IsEnded home past (Called r) = DeedEnded home past r.deed
IsEnded home past _ = ⊤

abbrev pub TurnsHaveEnded : Type 0
TurnsHaveEnded =
    (home : Home) (c : ℕ) (past : List Entry) (turns : List Turn) → StandAll c true past turns → list_any turn_runs turns ≡ false
    → AllByRecursion (IsEnded home past) turns
