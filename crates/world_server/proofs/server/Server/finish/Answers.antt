use Rattle.ndr_value.specs.Values.{msg}
use Rattle.world_server.specs.Servers.{seen}
use Rattle.world_server.proofs.Ending.{runs_of, not_running, idle_waiting, idle_over}
use Rattle.world_server.proofs.server.Server.finish.Goals as goal

pub finish_running-requires-clause-runs : goal.finish_running-requires-clause-runs
finish_running-requires-clause-runs c = runs_of (seen c.args.self.now).past c.args.call c.stage.result c.stage.ensures c.in-Running.is

pub returns-in-Waiting : goal.returns-in-Waiting
returns-in-Waiting c =
    let s = seen c.args.self.now in
    not_running s c.args.call c.args.kepts (msg c.args.out) c.requires (idle_waiting s.past c.args.call c.stage.result c.stage.ensures c.in-Waiting.is)

pub returns-in-Over : goal.returns-in-Over
returns-in-Over c =
    let s = seen c.args.self.now in
    not_running s c.args.call c.args.kepts (msg c.args.out) c.requires (idle_over s.past c.args.call c.stage.result c.stage.ensures c.in-Over.is)
