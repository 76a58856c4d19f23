use Rattle.std.proofs.Common.{◌≡◌, ◌++◌, drop}
use Rattle.rpc_app.specs.Audits.{verdict_lines}
use Rattle.rpc_app.proofs.verdicts.verdict_lines.Given as goal

-- with the lines of the verdicts that are left it is all lines
abbrev pub invariant-loop-verdict : goal.invariant-loop-verdict
invariant-loop-verdict l = l.text.items ++ verdict_lines (drop l.verdict-index l.verdicts) ≡ verdict_lines l.verdicts
