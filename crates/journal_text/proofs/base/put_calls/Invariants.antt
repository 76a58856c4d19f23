use Rattle.std.proofs.Common.{◌≡◌, ◌++◌, drop}
use Rattle.journal_text.specs.Texts.{base_calls_text}
use Rattle.journal_text.proofs.base.put_calls.Given as goal

-- with the texts of the calls that are left it is the whole text
abbrev pub invariant-loop-call : goal.invariant-loop-call
invariant-loop-call l =
    l.into.items ++ base_calls_text (drop l.call-index l.calls) ≡ l.initial.into.items ++ base_calls_text l.calls
