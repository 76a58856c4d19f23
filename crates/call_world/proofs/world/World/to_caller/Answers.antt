use Rattle.std.proofs.Common.{refl, arith}
use Rattle.call_world.specs.Rows.{stands_as}
use Rattle.call_world.proofs.Places.{found_within, read_standing, none_found}
use Rattle.call_world.proofs.Moving.{none_comes}
use Rattle.call_world.proofs.Playing.{if_ok, comes_so}
use Rattle.call_world.proofs.world.World.to_caller.Goals as goal

pub returns-in-None : goal.returns-in-None
returns-in-None c =
    none_comes c.args.self.now c.args.self.now c.args.name c.args.octets (none_found c.as_slice.result.now c.args.self.now.lines.items c.args.name c.as_slice.ensures.value c.in-None.ensures)

pub index_mut-requires : goal.index_mut-requires
index_mut-requires c =
    let few = found_within (stands_as c.args.name) c.as_slice.result.now c.args.self.now.lines.items c.in-Some.at c.as_slice.ensures.value c.in-Some.ensures in
    omega (arith, few, c.args.self.now.lines.ok.0)

pub to_caller-requires : goal.to_caller-requires
to_caller-requires c = c.requires.is_whole

pub returns-in-Some : goal.returns-in-Some
returns-in-Some c =
    let x = c.args.self.now in
    let r = read_standing x c.as_slice.result.now c.args.name c.in-Some.at c.index_mut.result.now c.as_slice.ensures.value c.in-Some.ensures c.index_mut.ensures.value in
    if_ok c.to_caller.result _ _ (λ done tried. comes_so x _ c.args.name c.in-Some.at c.index_mut.result.now c.to_caller.new.self r c.args.octets done tried refl refl refl) c.to_caller.ensures
