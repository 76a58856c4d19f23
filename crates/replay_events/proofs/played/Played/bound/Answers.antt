use Rattle.std.proofs.Common.{refl, sym, subst, List, ℕ}
use Rattle.server_counts.specs.Pieces.{ArePdus}
use Rattle.replay_events.specs.Answers.{Answers}
use Rattle.replay_events.specs.Living.{Moment}
use Rattle.replay_events.proofs.PeerLiving.{moved, bound_pdus, bound_lives}
use Rattle.replay_events.proofs.played.Played.bound.Goals as goal

pub answer-requires : goal.answer-requires
answer-requires c =
    subst ArePdus (sym c.as_slice.ensures) (bound_pdus c.args.self.now c.args.group c.in_ok-octets.octets c.bound.new.self c.requires.played.0 c.requires.played.1 c.ranges.group.fits c.in_ok-octets.ensures)

pub returns : goal.returns
returns c =
    let old : Moment = record { played = c.args.self.now; totals = c.args.totals.now; out = c.args.out.now.items } in
    let new : Moment = record { played = moved c.args.self.now c.bound.new.self c.args.self.now.packets; totals = c.answer.new.totals; out = c.answer.new.out.items } in
    let a = subst (λ (t : List ℕ). Answers c.args.self.now.name t c.args.totals.now c.args.out.now.items c.answer.new.totals c.answer.new.out.items) c.as_slice.ensures c.in_ok-answer.ensures in
    bound_lives old new c.args.group c.in_ok-octets.octets c.bound.new.self c.ranges.group.fits refl c.in_ok-octets.ensures a
