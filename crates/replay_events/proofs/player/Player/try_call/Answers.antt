use Rattle.std.proofs.Common.{refl, sym, subst, ap, ◌∙◌, Option}
use Rattle.handle_model.specs.declared.reply.Reply.{Reply}
use Rattle.replay_events.specs.declared.played.Kept.{Kept}
use Rattle.replay_events.specs.Marked.{with_cookies, told_of}
use Rattle.replay_events.specs.Hands.{Leads, TakesIn}
use Rattle.replay_events.proofs.Calling.{takes}
use Rattle.replay_events.proofs.player.Player.try_call.Goals as goal

pub returns : goal.returns
returns c =
    let x = c.args.self.now in
    let t = c.args.played.now in
    let r = c.in_ok-taking.taking in
    subst (λ (o : Option Reply). Leads (TakesIn c.args.member c.args.call r) x t (record x { realm = c.take.new.self; told = o }) (record t { call = c.with_cookies.result })) (sym c.told_of.ensures)
    (subst (λ (o : Option Kept). Leads (TakesIn c.args.member c.args.call r) x t (record x { realm = c.take.new.self; told = told_of r }) (record t { call = o })) (sym (c.with_cookies.ensures ∙ ap (with_cookies r) c.take-kept.ensures.value))
    (takes x t c.args.member c.args.call c.requires.member c.requires.call c.take.new.self r c.in_ok-taking.ensures))
