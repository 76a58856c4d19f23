-- The open connections by number.
use Rattle.std.specs.Prelude.{ℕ, Bool, not, nat_lt, List}
use Rattle.std.specs.List.{list_any}
use Rattle.journal_tables.specs.declared.conns.OpenConn.{OpenConn}

abbrev pub number_of : OpenConn → ℕ
number_of o = o.conn

abbrev pub is_below : ℕ → OpenConn → Bool
is_below c o = nat_lt o.conn c

-- each number is below c
abbrev pub over : ℕ → List OpenConn → Bool
over c conns = not (list_any (λ o. not (is_below c o)) conns)
