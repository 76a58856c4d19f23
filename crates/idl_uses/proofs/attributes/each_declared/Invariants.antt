use Rattle.std.proofs.Common.{◌≡◌, length}
use Rattle.idl_rules.specs.Least.{least, lesser}
use Rattle.idl_rules.specs.BadAttribute.{each_declared}
use Rattle.idl_uses.proofs.attributes.each_declared.Given as goal

abbrev pub invariant-loop-one : goal.invariant-loop-one
invariant-loop-one l = lesser l.found (least (each_declared l.field l.more l.rest)) ≡ least (each_declared l.field l.more l.declared)

abbrev pub decreases-loop-one : goal.decreases-loop-one
decreases-loop-one l = length l.rest
