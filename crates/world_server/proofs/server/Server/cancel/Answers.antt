use Rattle.std.proofs.Common.{refl, sym, subst, ◌∙◌}
use Rattle.group_core.specs.declared.answer.Cancelled.{Cancelled}
use Rattle.group_core.specs.declared.answer.Cancelled.TheVariants as cancelled
use Rattle.group_core.specs.Calls as calls
use Rattle.world_server.specs.Servers.{seen}
use Rattle.world_server.proofs.Going.{open_unshut_call, cancel_ended, cancel_flagged, cancels_late, over_cancels}
use Rattle.world_server.proofs.server.Server.cancel.Goals as goal

pub returns-then-is_over : goal.returns-then-is_over
returns-then-is_over c = over_cancels (seen c.args.self.now) c.args.call c.requires (sym c.is_over.ensures ∙ c.if-is_over.true)

pub returns-in-Ended : goal.returns-in-Ended
returns-in-Ended c =
    let s = seen c.args.self.now in
    let u = open_unshut_call s.past c.args.call c.requires.sound (sym c.is_over.ensures ∙ c.if-is_over.false) in
    cancel_ended s (seen c.push.new.self) c.cancel_of.new.group c.requires c.cancel_of.ensures.sound c.args.call u c.push.result (subst (λ (r : Cancelled). calls.Cancels s.group c.args.call r c.cancel_of.new.group) c.in-Ended.is c.cancel_of.ensures.cancels) c.push.ensures

pub returns-in-Flagged : goal.returns-in-Flagged
returns-in-Flagged c =
    let s = seen c.args.self.now in
    let u = open_unshut_call s.past c.args.call c.requires.sound (sym c.is_over.ensures ∙ c.if-is_over.false) in
    cancel_flagged s (seen c.push-in-Flagged.new.self) c.cancel_of.new.group c.requires c.cancel_of.ensures.sound c.args.call u c.push-in-Flagged.result (subst (λ (r : Cancelled). calls.Cancels s.group c.args.call r c.cancel_of.new.group) c.in-Flagged.is c.cancel_of.ensures.cancels) c.push-in-Flagged.ensures

pub returns-in-Late : goal.returns-in-Late
returns-in-Late c =
    let s = seen c.args.self.now in
    let u = open_unshut_call s.past c.args.call c.requires.sound (sym c.is_over.ensures ∙ c.if-is_over.false) in
    (cancelled.Late, cancels_late s _ c.cancel_of.new.group c.requires c.cancel_of.ensures.sound c.args.call u (subst (λ (r : Cancelled). calls.Cancels s.group c.args.call r c.cancel_of.new.group) c.in-Late.is c.cancel_of.ensures.cancels) refl)
