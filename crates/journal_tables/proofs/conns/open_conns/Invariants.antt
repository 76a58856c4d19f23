use Rattle.std.proofs.Common.{◌≡◌, ◌++◌, drop, map}
use Rattle.journal_tables.specs.Shown.{base_conn}
use Rattle.journal_tables.proofs.conns.open_conns.Given as goal

-- what is made, and what is left
abbrev pub invariant-loop-conn : goal.invariant-loop-conn
invariant-loop-conn l =
    l.conns.items ++ map (base_conn l.base.count) (drop l.conn-index l.base.conns) ≡ map (base_conn l.base.count) l.base.conns
