use Rattle.std.proofs.Common.{ℕ, List, sym, refl, subst}
use Rattle.conn_asks.specs.declared.events.Act.{Act}
use Rattle.conn_asks.specs.declared.events.Act.TheVariants as acts
use Rattle.conn_asks.specs.declared.events.ConnFault.{ConnFault}
use Rattle.world_server.specs.Servers.{seen}
use Rattle.world_ends.specs.declared.serving.Serving.{Serving}
use Rattle.world_ends.specs.declared.serving.Waiting.TheVariants as waits
use Rattle.world_ends.proofs.Acting.{Does, answers, groups, at_act, of_any, of_each}
use Rattle.world_ends.proofs.serving.Serving.act.Goals as goal

pub returns-in-Answer : goal.returns-in-Answer
returns-in-Answer c =
    let x = seen c.args.server.now in
    let t : Serving = record c.args.self.now { numbers = c.push.new.self } in
    subst (λ (a : Act). Does a x c.args.self.now x t) (sym c.in-Answer.is) (answers x c.args.self.now t c.in-Answer.field-0 c.requires refl c.in_ok-push-in-Answer.ensures.items)

pub returns-in-Group : goal.returns-in-Group
returns-in-Group c =
    let x = seen c.args.server.now in
    let t : Serving = record c.args.self.now { waiting = waits.Bind c.in-Group.asked } in
    subst (λ (a : Act). Does a x c.args.self.now x t) (sym c.in-Group.is) (groups x c.args.self.now t c.in-Group.asked c.requires refl)

pub returns-in-Call : goal.returns-in-Call
returns-in-Call c =
    at_act (seen c.args.server.now) (seen c.request.new.server) c.args.self.now c.request.new.self c.request.result c.args.act (acts.Call c.in-Call.joined c.in-Call.iface) c.in-Call.is c.request.ensures

pub returns-in-Cancel : goal.returns-in-Cancel
returns-in-Cancel c =
    let x = seen c.args.server.now in
    let y = seen c.cancel.new.server in
    at_act x y c.args.self.now c.cancel.new.self c.cancel.result c.args.act (acts.Cancel c.in-Cancel.field-0) c.in-Cancel.is
    (of_any c.cancel.result (λ (id : ℕ). Does (acts.Cancel id) x c.args.self.now y c.cancel.new.self) c.in-Cancel.field-0 c.cancel.ensures)

pub returns-in-Orphan : goal.returns-in-Orphan
returns-in-Orphan c =
    let x = seen c.args.server.now in
    let y = seen c.orphan.new.server in
    at_act x y c.args.self.now c.orphan.new.self c.orphan.result c.args.act (acts.Orphan c.in-Orphan.field-0) c.in-Orphan.is
    (of_any c.orphan.result (λ (id : ℕ). Does (acts.Orphan id) x c.args.self.now y c.orphan.new.self) c.in-Orphan.field-0 c.orphan.ensures)

pub returns : goal.returns
returns c =
    let x = seen c.args.server.now in
    let y = seen c.close.new.server in
    at_act x y c.args.self.now c.close.new.self c.close.result c.args.act (acts.Close c.in-Close.field-0 c.in-Close.field-1) c.in-Close.is
    (of_each c.close.result (λ (octets : List ℕ) (why : ConnFault). Does (acts.Close octets why) x c.args.self.now y c.close.new.self) c.in-Close.field-0 c.in-Close.field-1 c.close.ensures)
