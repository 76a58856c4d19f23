use Rattle.rpc_app.proofs.Made.{prints}
use Rattle.rpc_app.proofs.idl.reprint.Goals as goal

pub returns-clause-out : goal.returns-clause-out
returns-clause-out c = prints c.args.text.now _ c.in_ok-tree.tree c.in_ok-tree.ensures.tree c.in_ok-checked.ensures.unbroken c.in_ok-printed.ensures.out
