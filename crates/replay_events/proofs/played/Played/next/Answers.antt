use Rattle.std.proofs.Common.{refl, sym, subst, List, ℕ}
use Rattle.server_counts.specs.Pieces.{ArePdus}
use Rattle.replay_events.specs.Answers.{Answers}
use Rattle.replay_events.specs.Living.{Moment}
use Rattle.replay_events.proofs.PeerLiving.{moved, done_pdus, done_lives}
use Rattle.replay_events.proofs.played.Played.next.Goals as goal

pub answer-requires : goal.answer-requires
answer-requires c =
    subst ArePdus (sym c.octets_of.ensures) (done_pdus c.args.self.now c.in_ok-done.done c.next.new.self c.requires.0 c.requires.1 c.in_ok-done.ensures.goes)

pub returns-clause-lives : goal.returns-clause-lives
returns-clause-lives c =
    let old : Moment = record { played = c.args.self.now; totals = c.args.totals.now; out = c.args.out.now.items } in
    let new : Moment = record { played = moved c.args.self.now c.next.new.self c.args.self.now.packets; totals = c.answer.new.totals; out = c.answer.new.out.items } in
    let a = subst (λ (t : List ℕ). Answers c.args.self.now.name t c.args.totals.now c.args.out.now.items c.answer.new.totals c.answer.new.out.items) c.octets_of.ensures c.in_ok-answer.ensures in
    done_lives old new c.in_ok-done.done c.next.new.self refl c.in_ok-done.ensures.goes a
