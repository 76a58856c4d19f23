use Rattle.std.proofs.Common.{ℕ, Result, subst}
use Rattle.world_server.specs.Servers.{seen, Goes}
use Rattle.world_ends.specs.Servings.{Joins}
use Rattle.world_ends.proofs.Binding.{bound_leads, refused_leads}
use Rattle.world_ends.proofs.serving.Serving.bind.Goals as goal

pub returns-in-Ok : goal.returns-in-Ok
returns-in-Ok c =
    let x = seen c.args.server.now in
    let y = seen c.join.new.server in
    bound_leads x y c.args.self.now c.bound.new.self c.args.asked c.in-Ok.conn c.bound.result c.requires.asked
    (subst (λ (r : Result ℕ ℕ). Goes x (Joins c.args.asked r) y) c.in-Ok.is c.in_ok-conn.ensures) c.bound.ensures

pub returns-in-Err : goal.returns-in-Err
returns-in-Err c =
    let x = seen c.args.server.now in
    let y = seen c.join.new.server in
    refused_leads x y c.args.self.now c.nak.new.self c.args.asked c.in-Err.reason c.nak.result c.requires.asked
    (subst (λ (r : Result ℕ ℕ). Goes x (Joins c.args.asked r) y) c.in-Err.is c.in_ok-conn.ensures) c.nak.ensures
