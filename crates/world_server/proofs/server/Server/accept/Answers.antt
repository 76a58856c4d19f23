use Rattle.std.proofs.Common.{refl}
use Rattle.handle_model.specs.Bases.{empty_base}
use Rattle.handle_model.proofs.Steps.{open_unshut}
use Rattle.world_server.specs.Servers.{seen, home}
use Rattle.world_server.proofs.Going.{mine_open, accepts_as, not_accepted}
use Rattle.world_server.proofs.server.Server.accept.Goals as goal
use Rattle.world_server.proofs.server.Server.accept.Goals.{in-Ok+in_ok-push_newest-in-Ok, in-Err}

pub accept_of-requires-clause-is_open : goal.accept_of-requires-clause-is_open
accept_of-requires-clause-is_open c = mine_open (seen c.args.self.now) c.args.asked.conn c.requires.is_whole c.requires.is_open

pub returns : goal.returns
returns c =
    let s = seen c.args.self.now in
    let u = open_unshut home empty_base s.past c.args.asked.conn c.requires.is_whole.sound.legal c.requires.is_open in
    elim c.match-accept_of.branch [
      | in-Ok+in_ok-push_newest-in-Ok w ↦ rw (w.result-is, w.self-is) (accepts_as s (seen w.push_newest.new.self) c.accept_of.new.group c.requires.is_whole c.accept_of.ensures.sound c.args.asked u w.in-Ok.call c.numbered_stay.ensures c.requires.served c.requires.few w.in-Ok.ensures.accepts
          w.in_ok-push_newest-in-Ok.ensures)
      | in-Err w ↦ rw (w.result-is, w.self-is) (not_accepted s (record s { group = c.accept_of.new.group }) c.accept_of.new.group c.requires.is_whole c.accept_of.ensures.sound refl c.args.asked w.in-Err.field-0-0 w.in-Err.refusal w.unaccepted.result u w.in-Err.ensures.accepts
          w.unaccepted.ensures)
    ]
