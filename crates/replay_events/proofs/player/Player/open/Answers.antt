use Rattle.std.proofs.Common.{refl, sym, subst, ap, ◌∙◌, Bool}
use Rattle.conn_histories.specs.Requests.{ids_of}
use Rattle.replay_events.specs.Hands.{HasName}
use Rattle.replay_events.proofs.Picking.{not_opened, opens}
use Rattle.replay_events.proofs.player.Player.open.Goals as goal

pub returns-then-has : goal.returns-then-has
returns-then-has c = not_opened c.args.name c.args.self.now (subst (λ (b : Bool). HasName c.args.name c.args.self.now.peers b) c.if-has.true c.has.ensures)

pub returns : goal.returns
returns c =
    opens c.args.name c.args.self.now (record c.args.self.now { peers = c.put.new.self }) c.in_ok-played.played refl c.in_ok-put.ensures.list c.in_ok-put.ensures.fresh c.as_slice.result.now
    (c.as_slice.ensures ∙ c.in_ok-ids.ensures.exact ∙ ap ids_of c.served.ensures) c.in_ok-played.ensures
    (subst (λ (b : Bool). HasName c.args.name c.args.self.now.peers b) c.if-has.false c.has.ensures)
