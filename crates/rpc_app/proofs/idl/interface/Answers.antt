use Rattle.ndr_table.specs.Shown.{shown}
use Rattle.rpc_app.proofs.Made.{tables}
use Rattle.rpc_app.proofs.idl.interface.Goals as goal

pub returns-clause-made : goal.returns-clause-made
returns-clause-made c =
    tables c.args.text.now c.in_ok-tree.tree c.in_ok-checked.checked (shown c.in_ok-table.table) c.in_ok-tree.ensures.tree c.in_ok-checked.ensures.unbroken c.in_ok-checked.ensures.same c.in_ok-table.ensures.exact
