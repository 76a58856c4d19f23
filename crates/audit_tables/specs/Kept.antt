-- What always holds of the tables.
use Rattle.std.specs.Prelude.{◌≡◌, ℕ, ◌+◌, true, List}
use Rattle.journal_tables.specs.declared.conns.OpenConn.{OpenConn}
use Rattle.audit_tables.specs.Conns.{over}

-- no open connection has a number above that of the last one that joined
abbrev pub IsWithin : ℕ → List OpenConn → Type 0
IsWithin joins conns = over (joins + 1) conns ≡ true
