use Rattle.std.proofs.Common.{ap, sym, ◌∙◌}
use Rattle.idl_tree.specs.declared.declaration.Ast.{Ast}
use Rattle.idl_forms.specs.Forms.{tree_form}
use Rattle.idl_outline.specs.Outline.{outline}
use Rattle.ndr_table.specs.Shown.{shown}
use Rattle.marshal_table.specs.Interfaces.{tabled}
use Rattle.marshal_table.proofs.Listed.{has_each, has_handles}
use Rattle.marshal_table.proofs.Declarations.{each_name_stands}
use Rattle.marshal_table.proofs.checked.build.Goals as goal

pub table_of-requires : goal.table_of-requires
table_of-requires c = c.events.ensures ∙ ap (λ (t : Ast). outline (tree_form t)) (sym c.tree.ensures.value)

pub returns-clause-operations : goal.returns-clause-operations
returns-clause-operations c = has_each c.args.checked.now (shown c.in_ok-table.table) (c.in_ok-table.ensures ∙ ap tabled c.tree.ensures.value)

pub returns-clause-handles : goal.returns-clause-handles
returns-clause-handles c = has_handles c.args.checked.now (shown c.in_ok-table.table) (c.in_ok-table.ensures ∙ ap tabled c.tree.ensures.value)

pub returns-clause-names : goal.returns-clause-names
returns-clause-names c = each_name_stands c.args.checked.now c.tree.ensures.sound
