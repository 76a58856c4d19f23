use Rattle.rpc_base.proofs.FieldLaws.{handle_put}
use Rattle.rpc_base.proofs.fields.put_handle.Goals as goal

pub returns-clause-ok : goal.returns-clause-ok
returns-clause-ok c =
    handle_put c.put_both.result c.put_both.new.into.items c.args.into.now.items c.u32_array.result c.uuid_array.result c.from_u128.result c.args.order c.args.value.now c.put_both.ensures.ok c.u32_array.ensures c.uuid_array.ensures c.from_u128.ensures
