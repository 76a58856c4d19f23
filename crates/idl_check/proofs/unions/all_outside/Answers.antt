use Rattle.std.proofs.Common.{ap, ◌∙◌, arith}
use Rattle.idl_rules.specs.Least.{lesser}
use Rattle.idl_rules.specs.UnionTag.{outside}
use Rattle.idl_rules.proofs.Leasts.{each_index}
use Rattle.idl_check.proofs.unions.all_outside.Goals as goal

pub loop-label-preserved : goal.loop-label-preserved
loop-label-preserved c = each_index (outside c.args.ty) c.args.labels.now c.loop-label.label-index _ _ _ _ (omega arith) c.loop-label.invariant (c.lesser-found.ensures ∙ ap (lesser c.loop-label.found) c.outside.ensures)
