use Rattle.server_steps.proofs.Closing.{ends_closed}
use Rattle.server_steps.proofs.ending.close.Goals as goal

pub returns : goal.returns
returns g c =
    λ ids home conn gone past turns. ends_closed g.K.Link.shows ids home conn gone past turns c.args.wire c.close.new.self c.close.ensures c.args.why c.ended-ending.result c.ended-ending.ensures
