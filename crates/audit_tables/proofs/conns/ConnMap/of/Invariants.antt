use Rattle.std.proofs.Common.{◌≡◌, ◌++◌, map, drop}
use Rattle.journal_tables.specs.Shown.{base_conn}
use Rattle.audit_tables.proofs.conns.ConnMap.of.Given as goal

-- what is left comes yet
abbrev pub invariant-loop-conn : goal.invariant-loop-conn
invariant-loop-conn l = l.all ++ map (base_conn l.base.count) (drop l.conn-index l.base.conns) ≡ map (base_conn l.base.count) l.base.conns
