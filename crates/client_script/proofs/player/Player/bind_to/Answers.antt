use Rattle.std.proofs.Common.{ap, length}
use Rattle.std.proofs.lemmas.Result.{err_from_is_err_and}
use Rattle.ndr_table.specs.Shown.{shown}
use Rattle.client_script.proofs.LineLemmas.{open_failed, binds_to, binds_to_not}
use Rattle.client_script.proofs.player.Player.bind_to.Goals as goal

pub returns-in_err-channel : goal.returns-in_err-channel
returns-in_err-channel g c =
    let p = err_from_is_err_and c.from_residual.result c.from_residual.ensures.1 in
    rw (p.1, p.2)
    (open_failed g.K.Link.shows (shown c.args.table.now) c.args.at c.args.name c.args.self.now c.open.new.self (g.Q.Dial.shows c.args.dial.now) (g.Q.Dial.shows c.open.new.dial) c.args.asked c.in_err-channel.field-0.0 c.requires c.in_err-channel.ensures)

pub returns-in_err-answered : goal.returns-in_err-answered
returns-in_err-answered g c =
    let p = err_from_is_err_and c.from_residual-in_err-answered.result c.from_residual-in_err-answered.ensures.1 in
    rw (p.1, p.2)
    (binds_to_not g.K.Link.shows (shown c.args.table.now) c.args.at c.args.name c.args.asked c.args.self.now c.open.new.self c.answered.new.self (g.Q.Dial.shows c.args.dial.now) (g.Q.Dial.shows c.open.new.dial) c.requires
    c.in_ok-channel.channel c.bind-answer.new.self c.bind-answer.result c.in_ok-channel.ensures c.bind-answer.ensures.binds c.bind-answer.ensures.name c.push_reserved.new.self (length c.as_slice-place.result.now) c.push_reserved.ensures.items
    (ap length c.as_slice-place.ensures.value) c.in_err-answered.field-0.0 c.in_err-answered.ensures)

pub returns : goal.returns
returns g c =
    binds_to g.K.Link.shows (shown c.args.table.now) c.args.at c.args.name c.args.asked c.args.self.now c.open.new.self c.answered.new.self (g.Q.Dial.shows c.args.dial.now) (g.Q.Dial.shows c.open.new.dial) c.requires c.in_ok-channel.channel
    c.bind-answer.new.self c.bind-answer.result c.in_ok-channel.ensures c.bind-answer.ensures.binds c.bind-answer.ensures.name c.push_reserved.new.self (length c.as_slice-place.result.now) c.push_reserved.ensures.items (ap length c.as_slice-place.ensures.value)
    c.in_ok-answered.field-0 c.in_ok-answered.ensures
