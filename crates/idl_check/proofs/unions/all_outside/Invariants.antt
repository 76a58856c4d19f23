use Rattle.std.proofs.Common.{◌≡◌, drop}
use Rattle.std.specs.List.{flat_map}
use Rattle.idl_rules.specs.Least.{least, lesser}
use Rattle.idl_rules.specs.UnionTag.{outside}
use Rattle.idl_check.proofs.unions.all_outside.Given as goal

abbrev pub invariant-loop-label : goal.invariant-loop-label
invariant-loop-label l = lesser l.found (least (flat_map (outside l.ty) (drop l.label-index l.labels))) ≡ least (flat_map (outside l.ty) l.labels)
