use Rattle.std.proofs.Common.{ℕ, List, sym, subst}
use Rattle.client_script.specs.Scripts.{Ends}
use Rattle.ndr_table.specs.Shown.{shown}
use Rattle.client_script.proofs.Whole.{begins, has_outs, comes_to}
use Rattle.client_script.proofs.calling.call.Goals as goal

pub play_all-end-requires-after_bounds : goal.play_all-end-requires-after_bounds
play_all-end-requires-after_bounds g c κs within =
    begins g.Q.Link.Link.shows (shown c.args.table.now) c.args.at (g.Q.Dial.shows c.args.dial.now) c.new-player.result c.new-player.ensures.0 c.new-player.ensures.1 c.new-player.ensures.2 c.new-player.ensures.3

pub give_back-requires-after_bounds : goal.give_back-requires-after_bounds
give_back-requires-after_bounds g c κs within =
    has_outs g.Q.Link.Link.shows (shown c.args.table.now) c.args.at (g.Q.Dial.shows c.args.dial.now) (g.Q.Dial.shows c.play_all-end.new.dial) c.args.text.now c.play_all-end.result c.play_all-end.new.player c.play_all-end.ensures

pub returns : goal.returns
returns g c =
    subst (λ (out : List ℕ). Ends g.Q.Link.Link.shows (shown c.args.table.now) c.args.text.now c.args.at (g.Q.Dial.shows c.args.dial.now) out c.play_all-end.result (g.Q.Dial.shows c.give_back.new.dial)) (sym c.from_vec.ensures)
    (comes_to g.Q.Link.Link.shows (shown c.args.table.now) c.args.at (g.Q.Dial.shows c.args.dial.now) (g.Q.Dial.shows c.play_all-end.new.dial) c.play_all-end.new.player (g.Q.Dial.shows c.give_back.new.dial) c.give_back.ensures
    c.args.text.now c.play_all-end.result c.play_all-end.ensures)
