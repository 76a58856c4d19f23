use Rattle.std.proofs.Common.{◌≡◌, ◌++◌, ◌+◌, drop}
use Rattle.server_command.specs.Lines.{lines_from}
use Rattle.server_command.proofs.lines.put_lines.Given as goal

-- with the lines of the connections that are left it is all lines
abbrev pub invariant-loop-settled : goal.invariant-loop-settled
invariant-loop-settled g l =
    (l.number ≡ l.settled-index) × (l.into.items ++ lines_from (l.settled-index + 1) (drop l.settled-index l.finished) ≡ l.initial.into.items ++ lines_from 1 l.finished)
