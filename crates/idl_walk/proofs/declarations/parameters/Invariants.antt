use Rattle.std.proofs.Common.{◌≡◌, ◌++◌, map, drop}
use Rattle.idl_forms.specs.Forms.{param_form}
use Rattle.idl_outline.specs.Outline.{param_fields, params_past}
use Rattle.idl_walk.proofs.declarations.parameters.Given as goal

abbrev pub invariant-loop-node : goal.invariant-loop-node
invariant-loop-node l = record {
  fields : l.fields ++ param_fields l.default (map param_form (drop l.node-index l.nodes)) l.outline ≡ param_fields l.default (map param_form l.nodes) l.initial.outline;
  past : params_past l.default (map param_form (drop l.node-index l.nodes)) l.outline ≡ params_past l.default (map param_form l.nodes) l.initial.outline;
}
