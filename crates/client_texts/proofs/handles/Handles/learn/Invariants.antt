use Rattle.std.proofs.Common.{◌≡◌, length}
use Rattle.client_texts.specs.Handles as spec
use Rattle.client_texts.proofs.handles.Handles.learn.Given as goal

abbrev pub invariant-loop-first : goal.invariant-loop-first
invariant-loop-first l = spec.with_handles l.self l.left ≡ spec.with_handles l.initial.self l.wires

abbrev pub decreases-loop-first : goal.decreases-loop-first
decreases-loop-first l = length l.left
