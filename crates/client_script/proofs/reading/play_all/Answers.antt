use Rattle.std.proofs.Common.{sym, subst, ◌∙◌}
use Rattle.ndr_table.specs.Shown.{shown}
use Rattle.client_script.specs.declared.calling.CallEnd.{CallEnd}
use Rattle.client_script.specs.Plays.{AllEnds}
use Rattle.client_script.proofs.ReadLemmas.{nothing_read, has_world, continued, continued_shorter, departed, stopped, all_played, is_empty, some_left}
use Rattle.client_script.proofs.reading.play_all.Goals as goal

pub loop-rest-init : goal.loop-rest-init
loop-rest-init g c = nothing_read g.Q.Link.Link.shows (shown c.args.table.now) c.args.at c.args.text.now (g.Q.Dial.shows c.args.dial.now) c.args.player.now c.requires

pub play_next-requires-after_bounds : goal.play_next-requires-after_bounds
play_next-requires-after_bounds g c κs within =
    has_world g.Q.Link.Link.shows (shown c.args.table.now) c.args.at c.args.text.now (g.Q.Dial.shows c.args.dial.now) c.loop-rest.rest.now c.loop-rest.number c.loop-rest.player (g.Q.Dial.shows c.loop-rest.dial) c.loop-rest.invariant

pub loop-rest-preserved : goal.loop-rest-preserved
loop-rest-preserved g c =
    continued g.Q.Link.Link.shows (shown c.args.table.now) c.args.at c.args.text.now (g.Q.Dial.shows c.args.dial.now) c.loop-rest.rest.now c.loop-rest.number c.loop-rest.player c.play_next.new.player (g.Q.Dial.shows c.loop-rest.dial)
    (g.Q.Dial.shows c.play_next.new.dial) c.loop-rest.invariant c.in-Ok-Some.after.now (rw c.in-Ok-Some.field-0-is at c.in-Ok-Some.ensures.next)

pub loop-rest-smaller : goal.loop-rest-smaller
loop-rest-smaller g c =
    continued_shorter g.Q.Link.Link.shows (shown c.args.table.now) c.args.at c.args.text.now (g.Q.Dial.shows c.args.dial.now) c.loop-rest.rest.now c.loop-rest.number c.loop-rest.player c.play_next.new.player (g.Q.Dial.shows c.loop-rest.dial)
    (g.Q.Dial.shows c.play_next.new.dial) c.loop-rest.invariant c.in-Ok-Some.after.now (rw c.in-Ok-Some.field-0-is at c.in-Ok-Some.ensures.next)

pub returns-in-Ok-None : goal.returns-in-Ok-None
returns-in-Ok-None g c =
    departed g.Q.Link.Link.shows (shown c.args.table.now) c.args.at c.args.text.now (g.Q.Dial.shows c.args.dial.now) c.loop-rest.rest.now c.loop-rest.number c.loop-rest.player c.play_next.new.player (g.Q.Dial.shows c.loop-rest.dial)
    (g.Q.Dial.shows c.play_next.new.dial) c.loop-rest.invariant (some_left c.loop-rest.rest.now c.loop-rest-test.ensures) (rw c.in-Ok-None.field-0-is at c.in-Ok-None.ensures.next)

pub returns-in-Err : goal.returns-in-Err
returns-in-Err g c =
    subst (λ (e : CallEnd). AllEnds g.Q.Link.Link.shows (shown c.args.table.now) c.args.at c.args.text.now (g.Q.Dial.shows c.args.dial.now) e c.play_next.new.player (g.Q.Dial.shows c.play_next.new.dial)) (sym c.end_of.ensures)
    (stopped g.Q.Link.Link.shows (shown c.args.table.now) c.args.at c.args.text.now (g.Q.Dial.shows c.args.dial.now) c.loop-rest.rest.now c.loop-rest.number c.loop-rest.player c.play_next.new.player (g.Q.Dial.shows c.loop-rest.dial)
    (g.Q.Dial.shows c.play_next.new.dial) c.loop-rest.invariant c.in-Err.stop c.in-Err.ensures.stop)

pub returns-then-player : goal.returns-then-player
returns-then-player g c =
    let x = all_played g.Q.Link.Link.shows (shown c.args.table.now) c.args.at c.args.text.now (g.Q.Dial.shows c.args.dial.now) c.loop-rest.rest.now c.loop-rest.number c.loop-rest.player (g.Q.Dial.shows c.loop-rest.dial) c.loop-rest.invariant
    (is_empty c.loop-rest.rest.now c.loop-rest-test.ensures) in
    (x.0, x.1, sym x.2 ∙ c.if-player.true, x.3)

pub returns-else-player : goal.returns-else-player
returns-else-player g c =
    let x = all_played g.Q.Link.Link.shows (shown c.args.table.now) c.args.at c.args.text.now (g.Q.Dial.shows c.args.dial.now) c.loop-rest.rest.now c.loop-rest.number c.loop-rest.player (g.Q.Dial.shows c.loop-rest.dial) c.loop-rest.invariant
    (is_empty c.loop-rest.rest.now c.loop-rest-test.ensures) in
    (x.0, x.1, sym x.2 ∙ c.if-player.false, x.3)
