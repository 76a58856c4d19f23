use Rattle.std.proofs.Common.{refl, Ok, Err}
use Rattle.hub_shard.proofs.OpenLemmas.{acts_open}
use Rattle.hub_shard.proofs.opening.OpenNextAct.act.Goals as goal

pub returns-in-Ok : goal.returns-in-Ok
returns-in-Ok c = λ log t o. acts_open c.args.self c.args.shard.now c.open_next.new.self log (Ok c.in-Ok.id) 2 t c.in-Ok.ensures refl

pub returns-in-Err : goal.returns-in-Err
returns-in-Err c = λ log t o. acts_open c.args.self c.args.shard.now c.open_next.new.self log (Err c.in-Err.refusal) 0 t c.in-Err.ensures refl
