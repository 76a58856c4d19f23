use Rattle.std.proofs.Common.{refl, sym, ap, subst, ◌∙◌, Bool, length, arith}
use Rattle.ndr_table.specs.Shown.{shown}
use Rattle.ndr_value.specs.Values.{msg}
use Rattle.call_world.specs.declared.line.Line.{Line as Wire}
use Rattle.call_world.specs.Lines.{Tries, StartsOn, MayStartOn}
use Rattle.call_world.specs.Rows.{stands_as}
use Rattle.call_world.proofs.Places.{found_within, read_standing, read_same}
use Rattle.call_world.proofs.Playing.{starts_so, starts_not_so}
use Rattle.call_world.proofs.world.World.start_at.Goals as goal

pub index-requires : goal.index-requires
index-requires c =
    let few = found_within (stands_as c.args.name) c.args.self.now.lines.items c.args.self.now.lines.items c.args.at refl (sym c.requires.found) in
    omega (arith, few, c.args.self.now.lines.ok.0)

pub index_mut-requires : goal.index_mut-requires
index_mut-requires c =
    let few = found_within (stands_as c.args.name) c.args.self.now.lines.items c.args.self.now.lines.items c.args.at refl (sym c.requires.found) in
    omega (arith, few, c.args.self.now.lines.ok.0)

pub returns-then-not-done : goal.returns-then-not-done
returns-then-not-done c =
    let x = c.args.self.now in
    let s = c.index_mut.result.now in
    let r = read_standing x x.lines.items c.args.name c.args.at s refl (sym c.requires.found) c.index_mut.ensures.value in
    starts_not_so x x c.args.name c.args.at s c.start.new.self r c.args.op (msg c.args.message.now)
    (let table = shown x.table in subst (λ (b : Bool). Tries (MayStartOn c.args.op (msg c.args.message.now)) (StartsOn table c.args.op (msg c.args.message.now)) b s c.start.new.self) c.if-not-done.true (c.in_ok-done.ensures table))

pub returns : goal.returns
returns c =
    let x = c.args.self.now in
    let s = c.index_mut.result.now in
    let r = read_standing x x.lines.items c.args.name c.args.at s refl (sym c.requires.found) c.index_mut.ensures.value in
    let lt = found_within (stands_as c.args.name) x.lines.items x.lines.items c.args.at refl (sym c.requires.found) in
    let same = read_same x.lines.items c.args.at c.index.result.now s lt c.index.ensures c.index_mut.ensures.value in
    starts_so x _ c.args.name c.args.at s c.start.new.self r c.args.op (msg c.args.message.now) (record { line = c.args.at; place = c.count-place.result }) c.requires.ready.is_whole
    (λ table. subst (λ (b : Bool). Tries (MayStartOn c.args.op (msg c.args.message.now)) (StartsOn table c.args.op (msg c.args.message.now)) b s c.start.new.self) c.if-not-done.false (c.in_ok-done.ensures table)) refl refl refl c.in_ok-push.ensures.items refl
    (c.count-place.ensures ∙ ap (λ (z : Wire). length z.caller.fates.items) same)
