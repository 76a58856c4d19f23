use Rattle.std.proofs.Common.{◌≡◌, ◌++◌, drop}
use Rattle.handle_model.proofs.base.put_copies.Given as goal

-- with the calls that are left it is the whole
abbrev pub invariant-loop-call : goal.invariant-loop-call
invariant-loop-call l = l.into ++ drop l.call-index l.calls ≡ l.initial.into ++ l.calls
