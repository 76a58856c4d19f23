-- What a group's journal says of a call and of its connection.
use Rattle.std.specs.Prelude.{◌≡◌, ℕ, ◌==◌, Bool, true, false, ◌||◌, Option, Some, None, if◌then◌else◌, List, [], ◌∷◌, ◌++◌, filter, ⊤}
use Rattle.std.specs.List.{list_any, filter_map, AllByRecursion}
use Rattle.handle_model.specs.declared.entry.Home.{Home}
use Rattle.handle_model.specs.declared.entry.Entry.{Entry}
use Rattle.handle_model.specs.declared.entry.Entry.TheVariants.{Join, Accept, Take, Deny, Cancel, Orphan, End, Leave}
use Rattle.handle_model.specs.Bases.{empty_base}
use Rattle.handle_model.specs.History.{History, since}
use Rattle.conn_histories.specs.declared.turn.Deed.{Deed}
use Rattle.conn_histories.specs.declared.turn.Deed.TheVariants.{Accepted}
use Rattle.conn_histories.specs.declared.turn.Request.{Request}
use Rattle.conn_histories.specs.declared.turn.Turn.{Turn}
use Rattle.conn_histories.specs.declared.turn.Turn.TheVariants.{Called}
use Rattle.conn_histories.specs.Entries.{asked_as, fate_entries, has_left, turn_left, turn_open, leave_behind, numbers_of}

-- the history of a group of which nothing was folded away
abbrev pub whole : Home → List Entry → History
whole home past = since home empty_base past

-- ---- whose entry it is

abbrev pub of_call : ℕ → Entry → Bool
of_call k (Accept m a) = m == k
of_call k (Take m cookies) = m == k
of_call k (Deny m slot) = m == k
of_call k (Cancel m) = m == k
of_call k (Orphan m) = m == k
of_call k (End m results said) = m == k
of_call k _ = false

-- the Join or the Leave of the connection
abbrev pub of_conn : ℕ → Entry → Bool
of_conn c (Join d) = d == c
of_conn c (Leave d) = d == c
of_conn c _ = false

abbrev pub is_about : ℕ → ℕ → Entry → Bool
is_about c k e = of_conn c e || of_call k e

-- what is entered of a call and its connection
abbrev pub tale : ℕ → ℕ → List Entry → List Entry
tale c k past = filter (is_about c k) past

-- the number of a call of the connection
abbrev pub accepted_of : ℕ → Entry → Option ℕ
accepted_of c (Accept k a) = if a.conn == c then Some k else None
accepted_of c _ = None

abbrev pub calls_of : ℕ → List Entry → List ℕ
calls_of c past = filter_map (accepted_of c) past

-- ---- turns in a journal

-- what is entered of a call, where its connection is gone or not
abbrev pub DeedStands : ℕ → Bool → List Entry → Request → Deed → Type 0
DeedStands c gone past r (Accepted k slots fate) =
    tale c k past ≡ leave_behind c gone (has_left fate) ++ fate_entries k (asked_as c r slots) r.offs fate ++ Join c ∷ []
DeedStands c gone past r _ = ⊤

-- the journal says of the turn's call just what the turn says
abbrev pub Stands : ℕ → Bool → List Entry → Turn → Type 0
Stands c gone past (Called r) = DeedStands c gone past r r.deed
Stands c gone past _ = ⊤

-- The calls of the connection are those of the turns, and the journal says of each just what its turn says. One that is
-- gone has left a call or none, and one that isn't has left none.
pub record StandAll (c : ℕ) (gone : Bool) (past : List Entry) (turns : List Turn) : Type 0 where
  pub calls : calls_of c past ≡ numbers_of turns
  pub stand : AllByRecursion (Stands c gone past) turns
  pub none_open : gone ≡ true → list_any turn_open turns ≡ false
  pub none_left : gone ≡ false → list_any turn_left turns ≡ false
