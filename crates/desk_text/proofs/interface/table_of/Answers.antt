use Rattle.std.proofs.Common.{◌∙◌, ap}
use Rattle.marshal_table.specs.Interfaces as marshal
use Rattle.desk_text.proofs.interface.table_of.Goals as goal

pub returns-in-Ok-build-clause-made : goal.returns-in-Ok-build-clause-made
returns-in-Ok-build-clause-made c = record {
  tree = c.in-Ok.tree;
  idl = c.in-Ok.ensures.tree;
  checked = c.in-Ok-check.ensures.sound;
  table_is = c.in-Ok-build.ensures.exact ∙ ap marshal.table_of c.in-Ok-check.ensures.kept;
}
