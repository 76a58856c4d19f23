use Rattle.std.proofs.Common.{refl}
use Rattle.group_hub.proofs.MakeLemmas.{made_more}
use Rattle.group_hub.proofs.hub.Hub.new.Goals as goal

pub loop-number-preserved : goal.loop-number-preserved
loop-number-preserved c =
    made_more c.args.boot c.loop-number.number c.loop-number.shards.items c.push.new.self.items c.loop-number.pass _ c.in_ok-lock.lock c.in_ok-lock.seat c.loop-number.invariant c.loop-number-test.true
    c.in_ok-push.ensures.items c.in_ok-lock.ensures.whose.0 c.in_ok-lock.ensures.whose.1 c.in_ok-lock.ensures.pass.0 c.in_ok-lock.ensures.pass.1 c.in_ok-lock.ensures.pass.2 refl
