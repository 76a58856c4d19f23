use Rattle.std.proofs.Common.{refl, sym, subst, ◌∙◌}
use Rattle.group_core.specs.declared.answer.Orphaned.{Orphaned}
use Rattle.group_core.specs.declared.answer.Orphaned.TheVariants as orphaned
use Rattle.group_core.specs.Calls as calls
use Rattle.world_server.specs.Servers.{seen}
use Rattle.world_server.proofs.Going.{open_unshut_call, orphan_dropped, orphan_running, orphans_late, over_orphans}
use Rattle.world_server.proofs.server.Server.orphan.Goals as goal

pub returns-then-is_over : goal.returns-then-is_over
returns-then-is_over c = over_orphans (seen c.args.self.now) c.args.call c.requires (sym c.is_over.ensures ∙ c.if-is_over.true)

pub returns-in-Dropped : goal.returns-in-Dropped
returns-in-Dropped c =
    let s = seen c.args.self.now in
    let u = open_unshut_call s.past c.args.call c.requires.sound (sym c.is_over.ensures ∙ c.if-is_over.false) in
    orphan_dropped s (seen c.push.new.self) c.orphan_of.new.group c.requires c.orphan_of.ensures.sound c.args.call u c.push.result (subst (λ (r : Orphaned). calls.Orphans s.group c.args.call r c.orphan_of.new.group) c.in-Dropped.is c.orphan_of.ensures.orphans) c.push.ensures

pub returns-in-Running : goal.returns-in-Running
returns-in-Running c =
    let s = seen c.args.self.now in
    let u = open_unshut_call s.past c.args.call c.requires.sound (sym c.is_over.ensures ∙ c.if-is_over.false) in
    orphan_running s (seen c.push-in-Running.new.self) c.orphan_of.new.group c.requires c.orphan_of.ensures.sound c.args.call u c.push-in-Running.result (subst (λ (r : Orphaned). calls.Orphans s.group c.args.call r c.orphan_of.new.group) c.in-Running.is c.orphan_of.ensures.orphans) c.push-in-Running.ensures

pub returns-in-Late : goal.returns-in-Late
returns-in-Late c =
    let s = seen c.args.self.now in
    let u = open_unshut_call s.past c.args.call c.requires.sound (sym c.is_over.ensures ∙ c.if-is_over.false) in
    (orphaned.Late, orphans_late s _ c.orphan_of.new.group c.requires c.orphan_of.ensures.sound c.args.call u (subst (λ (r : Orphaned). calls.Orphans s.group c.args.call r c.orphan_of.new.group) c.in-Late.is c.orphan_of.ensures.orphans) refl)
