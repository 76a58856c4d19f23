-- What single entries say of a call.
use Rattle.std.specs.Prelude.{ℕ, ◌==◌, Option, Some, None, if◌then◌else◌}
use Rattle.handle_model.specs.declared.entry.Asked.{Asked}
use Rattle.handle_model.specs.declared.entry.Entry.{Entry}
use Rattle.handle_model.specs.declared.entry.Entry.TheVariants.{Accept, End}
use Rattle.handle_model.specs.declared.entry.Said.{Said}

-- the connection of what was asked
abbrev pub conn_of : Option Asked → Option ℕ
conn_of None = None
conn_of (Some a) = Some a.conn

-- the connection of the call, by its Accept
abbrev pub conn_at : ℕ → Entry → Option ℕ
conn_at k (Accept m a) = if m == k then Some a.conn else None
conn_at k _ = None

-- what the call's End says
abbrev pub said_at : ℕ → Entry → Option Said
said_at k (End m results said) = if m == k then Some said else None
said_at k _ = None
