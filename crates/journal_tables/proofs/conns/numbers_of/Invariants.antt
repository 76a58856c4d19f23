use Rattle.std.proofs.Common.{◌≡◌, ◌++◌, drop, map}
use Rattle.journal_tables.specs.declared.conns.OpenConn.{OpenConn}
use Rattle.journal_tables.proofs.conns.numbers_of.Given as goal

-- what is listed, and what is left
abbrev pub invariant-loop-open : goal.invariant-loop-open
invariant-loop-open l = l.numbers ++ map (λ (o : OpenConn). o.conn) (drop l.open-index l.conns) ≡ map (λ (o : OpenConn). o.conn) l.conns
