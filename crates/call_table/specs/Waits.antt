-- The waiting calls by connection.
use Rattle.std.specs.Prelude.{◌≡◌, ℕ, ◌+◌, ◌*◌, ◌^◌, ◌<◌, ◌≤◌, if◌then◌else◌, Option, Some, None, List}
use Rattle.call_table.specs.declared.row.Row.{Row}
use Rattle.call_table.specs.Sorted.{OrderedKeys, one, held, HasKeys}

-- a call behind its connection
abbrev pub key_of : ℕ → ℕ → ℕ
key_of c k = c * 2 ^ 32 + k

-- a row's call waits under this key
abbrev pub waits_under : ℕ → Row → ℕ
waits_under n r = if r.runs then 0 else one n (key_of r.conn r.call)

-- each waiting call has its key among them, and no other
abbrev pub HasWaiting : List Row → List ℕ → Type 0
HasWaiting rows keys = HasKeys waits_under rows keys

-- they are those of the rows, and there is room for as many more
pub record IsListed (rows : List Row) (waiting : OrderedKeys) (room : ℕ) : Type 0 where
  pub has_waiting : HasWaiting rows waiting.keys
  pub enough : room ≤ waiting.room

-- a waiting call of the connection, or there is none
abbrev pub IsFirstOf : List ℕ → ℕ → Option ℕ → Type 0
IsFirstOf keys c None = (k : ℕ) → k < 2 ^ 32 → held (key_of c k) keys ≡ 0
IsFirstOf keys c (Some k) = (k < 2 ^ 32) × (0 < held (key_of c k) keys)
