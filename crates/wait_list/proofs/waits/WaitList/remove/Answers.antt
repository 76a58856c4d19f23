use Rattle.std.proofs.Common.{refl, sym, ap, subst}
use Rattle.wait_list.specs.Waiting.{waiting_in, StandsAt}
use Rattle.wait_list.proofs.Kept.{nothing_stands}
use Rattle.wait_list.proofs.waits.WaitList.remove.Goals as goal

pub unreachable-requires : goal.unreachable-requires
unreachable-requires g c =
    let stands = subst (λ ns. StandsAt ns c.args.ticket) (sym (ap (λ w. w.nodes) c.self.view_is)) c.requires in
    nothing_stands c.self.inside.lists (waiting_in c.self.inside.lists) c.args.ticket c.in-None.is refl stands
