use Rattle.std.proofs.Common.{refl, arith}
use Rattle.call_world.specs.Rows.{is_awaiting}
use Rattle.call_world.proofs.Places.{found_within}
use Rattle.call_world.proofs.Moving.{answered_goes}
use Rattle.call_world.proofs.Playing.{on_ok, read_awaiting, goes_unheard}
use Rattle.call_world.proofs.world.World.go_on_for.Goals as goal

pub returns-in-None : goal.returns-in-None
returns-in-None c = goes_unheard c.args.self.now c.as_slice.result.now c.args.call c.as_slice.ensures.value c.in-None.ensures

pub index_mut-requires : goal.index_mut-requires
index_mut-requires c =
    let few = found_within (is_awaiting c.args.call) c.as_slice.result.now c.args.self.now.lines.items c.in-Some.at c.as_slice.ensures.value c.in-Some.ensures in
    omega (arith, few, c.args.self.now.lines.ok.0)

pub go_on-requires : goal.go_on-requires
go_on-requires c = c.requires.is_whole

pub returns-in-Some : goal.returns-in-Some
returns-in-Some c =
    let x = c.args.self.now in
    let s = c.index_mut.result.now in
    let r = read_awaiting x c.as_slice.result.now c.args.call c.in-Some.at s c.as_slice.ensures.value c.in-Some.ensures c.index_mut.ensures.value in
    on_ok c.go_on.result _ _ (λ rests. answered_goes x _ c.args.call c.in-Some.at s (record s { serving = c.go_on.new.self }) r.at r.stands r.waits_for rests refl refl refl refl) c.go_on.ensures
