use Rattle.std.proofs.Common.{◌≡◌, length}
use Rattle.idl_rules.specs.Least.{least, lesser}
use Rattle.idl_rules.specs.BadAttribute.{each_field}
use Rattle.idl_uses.proofs.attributes.each_field.Given as goal

abbrev pub invariant-loop-field : goal.invariant-loop-field
invariant-loop-field l = lesser l.found (least (each_field l.rest)) ≡ least (each_field l.fields)

abbrev pub decreases-loop-field : goal.decreases-loop-field
decreases-loop-field l = length l.rest
