use Rattle.std.proofs.Common.{sym, subst}
use Rattle.replay_groups.specs.Binds.{Binds}
use Rattle.replay_groups.proofs.Joining.{known_binds}
use Rattle.replay_groups.proofs.binding.join.Goals as goal

pub returns : goal.returns
returns c =
    let x = c.args.groups.now in
    let y = c.join.new.self in
    subst (λ r. Binds x c.args.asked r y) (sym c.by_joining.ensures) (known_binds x y c.args.asked c.join.result c.requires.there c.requires.goes_on c.join.ensures)
