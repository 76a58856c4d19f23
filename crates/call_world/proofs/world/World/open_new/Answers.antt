use Rattle.std.proofs.Common.{refl, sym, ◌∙◌}
use Rattle.call_world.proofs.Places.{none_named}
use Rattle.call_world.proofs.Moving.{opens}
use Rattle.call_world.proofs.world.World.open_new.Goals as goal

pub open-requires : goal.open-requires
open-requires c = c.requires.ready.tables

pub returns : goal.returns
returns c =
    let x = c.args.self.now in
    opens x _ c.args.name c.args.group c.in_ok-line.line (none_named x.lines.items x.lines.items c.args.name refl (sym c.requires.fresh)) (c.if-group-group_wanted.false ∙ c.group_wanted.ensures) c.in_ok-line.ensures c.in_ok-push.ensures.items refl
