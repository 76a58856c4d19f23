-- The open connections of a group.
use Rattle.std.specs.Prelude.{ℕ, Bool, not, ◌==◌, List, filter}
use Rattle.std.specs.List.{list_any}
use Rattle.journal_tables.specs.declared.conns.OpenConn.{OpenConn}

-- the connections by rising number, and how many more may join before memory is taken
pub record OpenConns : Type 0 where
  pub conns : List OpenConn
  pub room : ℕ

-- it is that of this number
abbrev pub is_conn : ℕ → OpenConn → Bool
is_conn c o = o.conn == c

abbrev pub is_other : ℕ → OpenConn → Bool
is_other c o = not (o.conn == c)

abbrev pub has_open : List OpenConn → ℕ → Bool
has_open conns c = list_any (is_conn c) conns

-- it has left
abbrev pub without : ℕ → List OpenConn → List OpenConn
without c conns = filter (is_other c) conns
