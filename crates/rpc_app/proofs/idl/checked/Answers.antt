use Rattle.rpc_app.proofs.Made.{breaks}
use Rattle.rpc_app.proofs.idl.checked.Goals as goal

pub returns-in_ok-rule_refusal-in-Err-Rule-clause-fault : goal.returns-in_ok-rule_refusal-in-Err-Rule-clause-fault
returns-in_ok-rule_refusal-in-Err-Rule-clause-fault c =
    breaks c.args.text.now _ c.args.tree.now c.in-Err-Rule.field-0 c.in-Err-Rule.number c.in-Err-Rule.at c.in-Err-Rule.field-0-is c.requires c.in-Err-Rule.ensures.breach c.in_ok-rule_refusal-in-Err-Rule.ensures
