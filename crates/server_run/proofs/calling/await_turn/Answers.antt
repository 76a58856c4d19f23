use Rattle.std.proofs.Common.{refl, ◌∙◌}
use Rattle.server_steps.proofs.Dealing.{quiet_same}
use Rattle.server_run.proofs.Having.{quiet_on, quiet_listens, quiet_heard}
use Rattle.server_run.proofs.Serving.{same_then}
use Rattle.server_run.proofs.calling.await_turn.Goals as goal

pub loop-init : goal.loop-init
loop-init g c = ((refl, refl), refl, quiet_same c.args.line.now.group c.args.line.now.pass c.args.line.now.pass refl, c.requires)

pub returns-in-Run-clause-quiet : goal.returns-in-Run-clause-quiet
returns-in-Run-clause-quiet g c = quiet_on c.args.line.now c.loop.line c.take.new.self c.loop.invariant.1 c.loop.invariant.2 c.take.ensures.quiet

pub returns-in-Denied-clause-quiet : goal.returns-in-Denied-clause-quiet
returns-in-Denied-clause-quiet g c = quiet_on c.args.line.now c.loop.line c.take.new.self c.loop.invariant.1 c.loop.invariant.2 c.take.ensures.quiet

pub loop-preserved-then-is_none : goal.loop-preserved-then-is_none
loop-preserved-then-is_none g c =
    let a = c.args.line.now in
    let b = c.loop.line in
    let l = c.take.new.self in
    let d = c.listen_ahead-ahead.new.self in
    let i = c.loop.invariant in
    let t = c.take.ensures in
    let n = c.listen_ahead-ahead.ensures in
    (same_then a l d (same_then a b l i.0 t.same) n.same, n.group ∙ (t.group ∙ i.1), quiet_listens a b l d i.1 i.2 t.group t.quiet n.nothing, n.waits)

pub loop-preserved-in-Nothing : goal.loop-preserved-in-Nothing
loop-preserved-in-Nothing g c =
    let a = c.args.line.now in
    let b = c.loop.line in
    let l = c.take.new.self in
    let d = c.listen_ahead-ahead.new.self in
    let i = c.loop.invariant in
    let t = c.take.ensures in
    let n = c.listen_ahead-ahead.ensures in
    let e = c.hear_waiting.new.self in
    let h = quiet_heard a b l d e i.1 i.2 t.group t.quiet n.group n.nothing c.hear_waiting.ensures.stays in
    (same_then a d e (same_then a l d (same_then a b l i.0 t.same) n.same) c.hear_waiting.ensures.same, h.0, h.1, c.in-Nothing.ensures.heard)

pub loop-preserved : goal.loop-preserved
loop-preserved g c =
    let a = c.args.line.now in
    let b = c.loop.line in
    let l = c.take.new.self in
    let d = c.listen_ahead-ahead.new.self in
    let i = c.loop.invariant in
    let t = c.take.ensures in
    let n = c.listen_ahead-ahead.ensures in
    let e = c.hear_waiting.new.self in
    let h = quiet_heard a b l d e i.1 i.2 t.group t.quiet n.group n.nothing c.hear_waiting.ensures.stays in
    (same_then a d e (same_then a l d (same_then a b l i.0 t.same) n.same) c.hear_waiting.ensures.same, h.0, h.1, c.in-Nothing.ensures.heard)

pub returns-in-Does-Cancel-clause-quiet : goal.returns-in-Does-Cancel-clause-quiet
returns-in-Does-Cancel-clause-quiet g c =
    let a = c.args.line.now in
    let b = c.loop.line in
    let l = c.take.new.self in
    let d = c.listen_ahead-ahead.new.self in
    let i = c.loop.invariant in
    let t = c.take.ensures in
    let n = c.listen_ahead-ahead.ensures in
    let e = c.hear_waiting.new.self in
    let h = quiet_heard a b l d e i.1 i.2 t.group t.quiet n.group n.nothing c.hear_waiting.ensures.stays in
    quiet_on a e c.cancel.new.self h.0 h.1 c.cancel.ensures.quiet

pub returns-in-Does-Orphan-clause-quiet : goal.returns-in-Does-Orphan-clause-quiet
returns-in-Does-Orphan-clause-quiet g c =
    let a = c.args.line.now in
    let b = c.loop.line in
    let l = c.take.new.self in
    let d = c.listen_ahead-ahead.new.self in
    let i = c.loop.invariant in
    let t = c.take.ensures in
    let n = c.listen_ahead-ahead.ensures in
    let e = c.hear_waiting.new.self in
    let h = quiet_heard a b l d e i.1 i.2 t.group t.quiet n.group n.nothing c.hear_waiting.ensures.stays in
    quiet_on a e c.orphan.new.self h.0 h.1 c.orphan.ensures.quiet

pub returns-in-End-clause-quiet : goal.returns-in-End-clause-quiet
returns-in-End-clause-quiet g c =
    let a = c.args.line.now in
    let b = c.loop.line in
    let l = c.take.new.self in
    let d = c.listen_ahead-ahead.new.self in
    let i = c.loop.invariant in
    let t = c.take.ensures in
    let n = c.listen_ahead-ahead.ensures in
    let e = c.hear_waiting.new.self in
    let h = quiet_heard a b l d e i.1 i.2 t.group t.quiet n.group n.nothing c.hear_waiting.ensures.stays in
    h.1

pub returns-in-Stop-Failed-clause-quiet : goal.returns-in-Stop-Failed-clause-quiet
returns-in-Stop-Failed-clause-quiet g c =
    let a = c.args.line.now in
    let b = c.loop.line in
    let l = c.take.new.self in
    let d = c.listen_ahead-ahead.new.self in
    let i = c.loop.invariant in
    let t = c.take.ensures in
    let n = c.listen_ahead-ahead.ensures in
    let e = c.hear_waiting.new.self in
    let h = quiet_heard a b l d e i.1 i.2 t.group t.quiet n.group n.nothing c.hear_waiting.ensures.stays in
    h.1

pub returns-in-Stop-Memory-clause-quiet : goal.returns-in-Stop-Memory-clause-quiet
returns-in-Stop-Memory-clause-quiet g c =
    let a = c.args.line.now in
    let b = c.loop.line in
    let l = c.take.new.self in
    let d = c.listen_ahead-ahead.new.self in
    let i = c.loop.invariant in
    let t = c.take.ensures in
    let n = c.listen_ahead-ahead.ensures in
    let e = c.hear_waiting.new.self in
    let h = quiet_heard a b l d e i.1 i.2 t.group t.quiet n.group n.nothing c.hear_waiting.ensures.stays in
    h.1
