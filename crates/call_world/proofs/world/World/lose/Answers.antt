use Rattle.std.proofs.Common.{refl, arith}
use Rattle.call_world.specs.Rows.{stands_as}
use Rattle.call_world.proofs.Places.{found_within, read_standing, none_found}
use Rattle.call_world.proofs.Moving.{none_loses, loses}
use Rattle.call_world.proofs.world.World.lose.Goals as goal

pub returns-in-None : goal.returns-in-None
returns-in-None c =
    none_loses c.args.self.now c.args.self.now c.args.name (none_found c.as_slice.result.now c.args.self.now.lines.items c.args.name c.as_slice.ensures.value c.in-None.ensures)

pub index_mut-requires : goal.index_mut-requires
index_mut-requires c =
    let few = found_within (stands_as c.args.name) c.as_slice.result.now c.args.self.now.lines.items c.in-Some.at c.as_slice.ensures.value c.in-Some.ensures in
    omega (arith, few, c.args.self.now.lines.ok.0)

pub lose-requires : goal.lose-requires
lose-requires c = c.requires.is_whole

pub returns-in_ok-lose-in-Some : goal.returns-in_ok-lose-in-Some
returns-in_ok-lose-in-Some c =
    let x = c.args.self.now in
    let r = read_standing x c.as_slice.result.now c.args.name c.in-Some.at c.index_mut.result.now c.as_slice.ensures.value c.in-Some.ensures c.index_mut.ensures.value in
    loses x _ c.args.name c.in-Some.at c.index_mut.result.now c.lose.new.self r.at r.named r.stands c.in_ok-lose-in-Some.ensures refl refl refl
