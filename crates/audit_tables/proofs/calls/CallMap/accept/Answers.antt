use Rattle.std.proofs.Common.{◌≡◌, subst}
use Rattle.std.specs.Prelude.{IfOk}
use Rattle.audit_tables.proofs.Started.{over_new, over_last}
use Rattle.audit_tables.proofs.calls.CallMap.accept.Goals as goal

pub put-requires : goal.put-requires
put-requires c = over_new c.args.row.call c.args.self c.requires

pub returns : goal.returns
returns c = subst (λ rows. IfOk c.put.result (λ calls. calls ≡ rows)) (over_last c.args.row c.args.self c.requires) c.put.ensures
