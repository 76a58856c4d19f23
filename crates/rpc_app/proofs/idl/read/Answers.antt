use Rattle.rpc_app.proofs.Made.{departs}
use Rattle.rpc_app.proofs.idl.read.Goals as goal

pub returns-in_ok-fault_line-in-Err-clause-fault : goal.returns-in_ok-fault_line-in-Err-clause-fault
returns-in_ok-fault_line-in-Err-clause-fault c = departs c.args.text.now _ c.in-Err.fault c.in-Err.ensures.refused c.in-Err.ensures.no_tree c.in_ok-fault_line-in-Err.ensures.said
