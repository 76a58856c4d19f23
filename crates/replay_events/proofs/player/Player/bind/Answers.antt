use Rattle.std.proofs.Common.{Err, subst}
use Rattle.replay_groups.specs.declared.binding.BindRefusal.{BindRefusal}
use Rattle.replay_groups.specs.Holding.{Moves, BindsIn}
use Rattle.replay_events.proofs.Wording.{is_played, known_hand, bound_to, nak_said}
use Rattle.replay_events.proofs.player.Player.bind.Goals as goal

pub bind-answer-requires : goal.bind-answer-requires
bind-answer-requires c = known_hand c.args.self.now c.args.played.now c.requires.hand

pub bound-requires : goal.bound-requires
bound-requires c = is_played c.args.self.now c.args.played.now c.requires.hand

pub refuse-requires : goal.refuse-requires
refuse-requires c = is_played c.args.self.now c.args.played.now c.requires.hand

pub returns-in_ok-bound-in-Ok : goal.returns-in_ok-bound-in-Ok
returns-in_ok-bound-in-Ok c =
    bound_to c.args.self.now c.bound.new.self c.args.played.now c.bound.new.played c.bind-answer.new.self c.args.asked c.requires.open c.requires.asked c.in-Ok.member
    (subst (λ r. Moves c.args.self.now.realm (BindsIn c.args.asked r) c.bind-answer.new.self) c.in-Ok.is c.bind-answer.ensures) c.in_ok-bound-in-Ok.ensures

pub returns-in_ok-refuse-in-Err : goal.returns-in_ok-refuse-in-Err
returns-in_ok-refuse-in-Err c =
    let f = c.in_ok-refuse-in-Err.ensures in
    nak_said c.args.self.now c.refuse.new.self c.args.played.now c.refuse.new.played c.bind-answer.new.self c.args.asked c.requires.open c.requires.asked f.0
    (subst (λ (b : BindRefusal). Moves c.args.self.now.realm (BindsIn c.args.asked (Err b)) c.bind-answer.new.self) f.1
    (subst (λ r. Moves c.args.self.now.realm (BindsIn c.args.asked r) c.bind-answer.new.self) c.in-Err.is c.bind-answer.ensures)) f.2
