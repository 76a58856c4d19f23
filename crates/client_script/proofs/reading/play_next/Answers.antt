use Rattle.std.proofs.lemmas.Result.{err_from_is_err_and}
use Rattle.ndr_table.specs.Shown.{shown}
use Rattle.client_script.proofs.ReadLemmas.{next_played, next_departed, next_failed}
use Rattle.client_script.proofs.reading.play_next.Goals as goal

pub returns-in_err-play_line-clause-stop : goal.returns-in_err-play_line-clause-stop
returns-in_err-play_line-clause-stop g c =
    let p = err_from_is_err_and c.from_residual-in_err-play_line.result c.from_residual-in_err-play_line.ensures.1 in
    let begins = rw c.in-Some.is at c.in_ok-line.ensures in
    rw (p.1, p.2)
    (next_failed g.Q.Link.Link.shows (shown c.args.table.now) c.args.at c.args.text.now c.in-Some.rest.now c.in-Some.line begins c.args.player.now c.play_line.new.player (g.Q.Dial.shows c.args.dial.now) (g.Q.Dial.shows c.play_line.new.dial)
    c.in_err-play_line.field-0.0 c.in_err-play_line.ensures)

pub returns-then-branch-clause-next : goal.returns-then-branch-clause-next
returns-then-branch-clause-next g c =
    let begins = rw c.in-Some.is at c.in_ok-line.ensures in
    let plays = rw c.if-branch.true at c.in_ok-play_line.ensures in
    next_played g.Q.Link.Link.shows (shown c.args.table.now) c.args.at c.args.text.now c.in-Some.rest.now c.in-Some.line begins c.args.player.now c.play_line.new.player (g.Q.Dial.shows c.args.dial.now) (g.Q.Dial.shows c.play_line.new.dial) plays

pub returns-clause-next : goal.returns-clause-next
returns-clause-next g c =
    let begins = rw c.in-Some.is at c.in_ok-line.ensures in
    let plays = rw c.if-branch.false at c.in_ok-play_line.ensures in
    next_departed g.Q.Link.Link.shows (shown c.args.table.now) c.args.at c.args.text.now c.in-Some.rest.now c.in-Some.line begins c.args.player.now c.play_line.new.player (g.Q.Dial.shows c.args.dial.now) (g.Q.Dial.shows c.play_line.new.dial) plays
