use Rattle.std.proofs.Common.{refl, subst, List, Some, None, arith}
use Rattle.call_world.specs.declared.line.Line.{Line as Wire}
use Rattle.call_world.specs.Rows.{FindsLeast}
use Rattle.call_world.proofs.Places.{least_within, read_least}
use Rattle.call_world.proofs.Playing.{loses_none, loses_more, loses_all}
use Rattle.call_world.proofs.world.World.restart.Goals as goal

pub loop-init : goal.loop-init
loop-init c = loses_none c.args.self.now c.requires.is_whole

pub index_mut-requires : goal.index_mut-requires
index_mut-requires c =
    let few = least_within c.as_slice.result.now c.loop.self.lines.items c.in-Some.at c.as_slice.ensures.value c.in-Some.ensures in
    omega (arith, few, c.loop.self.lines.ok.0)

pub lose-requires : goal.lose-requires
lose-requires c = c.loop.invariant.0

pub loop-preserved : goal.loop-preserved
loop-preserved c =
    let least = subst (λ (ts : List Wire). FindsLeast ts (Some c.in-Some.at)) c.as_slice.ensures.value c.in-Some.ensures in
    let r = read_least c.loop.self.lines.items c.in-Some.at c.index_mut.result.now least c.index_mut.ensures.value in
    loses_more c.args.self.now c.loop.self _ c.in-Some.at c.index_mut.result.now c.lose.new.self c.loop.invariant least r.0 r.1 c.in_ok-lose-in-Some.ensures refl refl refl

pub returns-in-None : goal.returns-in-None
returns-in-None c = loses_all c.args.self.now c.loop.self c.loop.invariant (subst (λ (ts : List Wire). FindsLeast ts None) c.as_slice.ensures.value c.in-None.ensures)
