use Rattle.conn_histories.specs.Histories.Event.{Came}
use Rattle.replay_events.specs.Hands.{HappensIn}
use Rattle.replay.proofs.Hands.{still}
use Rattle.replay.proofs.Each.{sent}
use Rattle.replay.proofs.send.send_open.Goals as goal

pub go_on-requires : goal.go_on-requires
go_on-requires c =
    still (HappensIn c.args.played.now.name (Came c.args.octets.now)) c.args.player.now c.come.new.self c.args.played.now c.come.new.played c.requires.hand c.in_ok-come.ensures

pub returns : goal.returns
returns c =
    sent c.args.octets.now c.args.player.now c.come.new.self c.go_on.new.self c.args.played.now c.come.new.played c.go_on.new.played c.requires.is_open c.in_ok-come.ensures c.in_ok-go_on.ensures
