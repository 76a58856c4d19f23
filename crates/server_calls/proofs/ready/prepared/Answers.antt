use Rattle.std.proofs.Common.{refl, subst}
use Rattle.conn_histories.specs.Requests.{IsRefused}
use Rattle.manager_api.specs.Served.{tables_in}
use Rattle.server_calls.specs.Suited.{never_full}
use Rattle.server_calls.proofs.ready.prepared.Goals as goal

pub returns-in-Err : goal.returns-in-Err
returns-in-Err c = subst (λ s. IsRefused (tables_in c.args.served.now) c.args.iface c.args.joined.op c.args.joined.order s never_full c.in-Err.status) c.as_slice-stub.ensures c.in-Err.ensures

pub returns-in-Err-with_messages : goal.returns-in-Err-with_messages
returns-in-Err-with_messages c = IsRefused.no_room c.in-Ok.ensures.has.asked.operation c.in-Ok.ensures.has.asked.found refl
