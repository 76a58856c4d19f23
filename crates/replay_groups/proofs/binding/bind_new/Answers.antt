use Rattle.std.proofs.Common.{sym, subst}
use Rattle.replay_groups.specs.Binds.{Binds}
use Rattle.replay_groups.proofs.Joining.{new_binds}
use Rattle.replay_groups.proofs.binding.bind_new.Goals as goal

pub returns : goal.returns
returns c =
    let x = c.args.groups.now in
    let y = c.open_next.new.self in
    subst (λ r. Binds x c.args.asked r y) (sym c.by_opening.ensures) (new_binds x y c.args.asked c.open_next.result c.requires c.open_next.ensures)
