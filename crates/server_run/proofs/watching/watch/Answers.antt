use Rattle.std.proofs.Common.{refl, ◌∙◌}
use Rattle.server_steps.proofs.Dealing.{quiet_same}
use Rattle.server_run.proofs.Having.{quiet_on, quiet_stays}
use Rattle.server_run.proofs.Serving.{same_then}
use Rattle.server_run.proofs.watching.watch.Goals.{in-Nothing, in-Does-Cancel, in-Does-Orphan}
use Rattle.server_run.proofs.watching.watch.Goals as goal

pub loop-init : goal.loop-init
loop-init g c = ((refl, refl), refl, c.requires, quiet_same c.args.line.now.group c.args.line.now.pass c.args.line.now.pass refl)

pub loop-preserved-after-hear_running-4 : goal.loop-preserved-after-hear_running-4
loop-preserved-after-hear_running-4 g c =
    let a = c.args.line.now in
    let e = c.hear_running.new.self in
    let i = c.loop.invariant in
    let h = c.hear_running.ensures in
    let same = same_then a c.loop.line e i.0 h.same in
    let group = h.group ∙ i.1 in
    let quiet = quiet_stays a c.loop.line e i.3 (h.pass, h.group) in
    elim c.match-hear_running.branch [
      | in-Nothing w ↦ rw (w.line-is, w.orphaned-is) (same, group, w.in-Nothing.ensures.heard, quiet)
      | in-Does-Cancel w ↦
          let k = w.cancel_running.ensures in
          rw (w.line-is, w.orphaned-is) (same_then a e w.cancel_running.new.self same k.same, k.group ∙ group, k.running, quiet_on a e w.cancel_running.new.self group quiet k.quiet)
      | in-Does-Orphan w ↦
          let k = w.orphan_running.ensures in
          rw (w.line-is, w.orphaned-is) (same_then a e w.orphan_running.new.self same k.same, k.group ∙ group, k.running, quiet_on a e w.orphan_running.new.self group quiet k.quiet)
    ]
