use Rattle.std.proofs.Common.{ap, ◌∙◌}
use Rattle.client_core.specs.State.{state}
use Rattle.world_ends.specs.declared.caller.Caller.{Caller}
use Rattle.world_ends.proofs.Told.{lost_is}
use Rattle.world_ends.proofs.caller.Caller.lose.Goals as goal

pub returns : goal.returns
returns c c' is =
    lost_is c.args.self.now c.set.new.self c' c.lost-out.result is c.lost-out.ensures.0 (ap (λ (z : Caller). state z.client) c.set.ensures.same ∙ c.lost-out.ensures.1)
    (ap (λ (z : Caller). z.rest.items) c.set.ensures.same ∙ c.clear.ensures.items) c.set.ensures.fates
