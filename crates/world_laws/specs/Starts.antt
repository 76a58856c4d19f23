-- The calls that moves start, and their rows.
use Rattle.std.specs.Prelude.{◌≡◌, ℕ, Some, List, [], ◌∷◌, slice_get, ⊤}
use Rattle.ndr_value.specs.Values.{Msg}
use Rattle.ndr_table.specs.Tables.{TableForm}
use Rattle.world_laws.specs.Moves.{Move}
use Rattle.world_laws.specs.Moves.{Move as moves}
use Rattle.world_laws.specs.Ends.{Row, Line}
use Rattle.world_laws.specs.Worlds.{World, Started, Played}

-- a call that a move starts: the name of its connection, its operation and its message
pub record Asking : Type 0 where
  pub conn : ℕ
  pub op : ℕ
  pub message : Msg

abbrev pub starts_in : List Move → List Asking
starts_in [] = []
starts_in (moves.Start c op m ∷ more) = record { conn = c; op = op; message = m } ∷ starts_in more
starts_in (_ ∷ more) = starts_in more

-- its row is there
pub record IsRowOf (w : World) (a : Asking) (s : Started) : Type 0 where
  pub line : Line
  pub there : slice_get w.lines s.line ≡ Some line
  pub named : line.name ≡ a.conn
  pub row : Row
  pub is_row : slice_get line.caller.rows s.place ≡ Some row
  pub op : row.op ≡ a.op
  pub message : row.message ≡ a.message

-- one for each, in order
abbrev pub AreRowsOf : World → List Asking → List Started → Type 0
AreRowsOf w [] [] = ⊤
AreRowsOf w (a ∷ later) (s ∷ more) = IsRowOf w a s × AreRowsOf w later more
AreRowsOf w _ _ = ⊥

-- the row at that place is of a call that was started
pub record IsStarted (w : World) (line place : ℕ) : Type 0 where
  pub number : ℕ
  pub is : slice_get w.starts number ≡ Some (record { line = line; place = place })

-- There is one row for each call that the moves start, in order: no two of these have one row, and no row is there beside them.
pub record StartsAreRows (w : World) (played : List Move) : Type 0 where
  pub rows : AreRowsOf w (starts_in played) w.starts
  pub apart : (m n : ℕ) (s : Started) → slice_get w.starts m ≡ Some s → slice_get w.starts n ≡ Some s → m ≡ n
  pub each : (i x : ℕ) (l : Line) (r : Row) → slice_get w.lines i ≡ Some l → slice_get l.caller.rows x ≡ Some r → IsStarted w i x

-- for every list of moves
abbrev pub AllStartsAreRows : Type 0
AllStartsAreRows = (table : TableForm) (played : List Move) (w : World) → Played table played w → StartsAreRows w played
