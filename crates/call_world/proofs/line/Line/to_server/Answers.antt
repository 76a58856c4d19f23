use Rattle.std.proofs.Common.{◌≡◌, ◌≤◌, ◌<◌, ℕ, List, length, refl, subst, rules, arith}
use Rattle.world_server.specs.Servers.{seen}
use Rattle.world_ends.specs.Servings.{Comes}
use Rattle.call_world.proofs.Lines.{arrives_front, not_so_many, none_move, too_few}
use Rattle.call_world.proofs.line.Line.to_server.Goals as goal

pub returns-then-count-eq0 : goal.returns-then-count-eq0
returns-then-count-eq0 c = not_so_many c.args.self.now c.args.count (none_move c.args.count c.args.self.now.up.items c.if-count-eq0.true)

pub returns-then-count-len : goal.returns-then-count-len
returns-then-count-len c =
    let n : c.len.result ≡ length c.args.self.now.up.items = search rules in
    let few : length c.args.self.now.up.items < c.args.count = omega (arith, n, c.if-count-len.true) in
    not_so_many c.args.self.now c.args.count (too_few c.args.count c.args.self.now.up.items few)

pub returns : goal.returns
returns c =
    let s = c.args.self.now in
    let n : c.len.result ≡ length s.up.items = search rules in
    let enough : c.args.count ≤ length s.up.items = omega (arith, n, c.if-count-len.false) in
    arrives_front (seen c.args.server.now) (seen c.go_on.new.server) s _ c.come.new.self c.args.count c.if-count-eq0.false enough
    (subst (λ (octets : List ℕ). Comes octets s.serving c.come.new.self) c.front_of.ensures c.in_ok-come.ensures) c.in_ok-go_on.ensures c.drop_front.ensures refl
